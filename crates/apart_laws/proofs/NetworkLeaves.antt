-- A network of a project goes with what is on it, and else what others own stays.
use Rattle.api_types.proofs.ListLemmas.{any-none, at_filter, or_true}
use Rattle.api_types.proofs.NameLemmas.{by_test, ident_same, not_true}
use Rattle.api_types.specs.Consistent.{IsConsistent}
use Rattle.api_types.specs.Consistent.InForm.{is_network_of}
use Rattle.api_types.specs.Consistent.Named.{is_network}
use Rattle.api_types.specs.Ident.{Ident}
use Rattle.api_types.specs.Lists.{stands}
use Rattle.api_types.specs.RowLists.{RowLists}
use Rattle.api_types.specs.Table.{ident_eq}
use Rattle.api_types.specs.WithRows.{gone_from}
use Rattle.api_types.specs.declared.floating.FloatingRow.{FloatingRow}
use Rattle.api_types.specs.declared.network.NetworkRow.{NetworkRow}
use Rattle.api_types.specs.declared.policy.PolicyRow.{PolicyRow}
use Rattle.api_types.specs.declared.port.PortRow.{PortRow}
use Rattle.api_types.specs.declared.subnet.SubnetRow.{SubnetRow}
use Rattle.apart_laws.proofs.Filtered.{filter_turned, none_freed, others_gone}
use Rattle.apart_laws.proofs.Steps.{none_of_others, one_owner, others, own_alone, owns_own}
use Rattle.apart_laws.specs.Others.{OthersStay, is_port_of_others, of_others}
use Rattle.row_laws.specs.Gone.{without_network}
use Rattle.std.proofs.Common.{List, Some, ap, arith, false, not, refl, slice_get, subst, true, ◌∙◌, ◌≡◌, ℕ}
use Rattle.std.specs.Prelude.{◌||◌}
use Rattle.std.specs.Str.{bytes_eq}

-- no row of an id is left where those of the id went
pub absent : {R : Type 0} (id_of : R → Ident) (xs : List R) (i j : Ident) → ident_eq i j ≡ true → stands id_of j (gone_from id_of i xs) ≡ false
absent id_of xs i j same = subst (λ j. stands id_of j (gone_from id_of i xs) ≡ false) (ident_same i j same)
    (any-none (λ x. ident_eq i (id_of x)) (gone_from id_of i xs) (λ k x at. not_true (ident_eq i (id_of x)) (at_filter (λ q. not (ident_eq i (id_of q))) xs k x at).2))

pub gone_stays : (rows : RowLists) → IsConsistent rows → (project : List ℕ) (k : ℕ) (n : NetworkRow) → slice_get rows.networks k ≡ Some n → bytes_eq n.project project ≡ true → OthersStay project rows (without_network rows n.id)
gone_stays rows c project k n at own = record {
  projects = refl;
  networks = others_gone (others (λ (q : NetworkRow). q.project) project) (λ (q : NetworkRow). ident_eq n.id q.id) rows.networks
      (none_of_others (λ (q : NetworkRow). q.id) (λ (q : NetworkRow). q.project) project n.id rows.networks
      (own_alone (λ (q : NetworkRow). q.id) (λ (q : NetworkRow). q.project) project rows.networks k n (omega (arith, c.numbered.ids n.id)) at own));
  subnets = others_gone (others (λ (s : SubnetRow). s.project) project) (λ (s : SubnetRow). ident_eq n.id s.network) rows.subnets
      (λ h s at_s on. ap not (one_owner rows c s.network s.project project (c.in_form.subnet_owners h s at_s) (owns_own rows c project k n at own s.network on)));
  groups = refl;
  rules = refl;
  routers = refl;
  policies = record {
    stays = λ (l : PolicyRow). not (ident_eq n.id l.object);
    left = filter_turned (others (λ (l : PolicyRow). l.project) project) (λ (l : PolicyRow). not (ident_eq n.id l.object)) rows.policies;
    gone = λ h l at_l. by_test (ident_eq n.id l.object) (not (ident_eq n.id l.object) || not (is_network (gone_from (λ (q : NetworkRow). q.id) n.id rows.networks) l.object) ≡ true)
        (λ is. ap (λ b. not (ident_eq n.id l.object) || not b) (absent (λ (q : NetworkRow). q.id) rows.networks n.id l.object is) ∙ or_true (not (ident_eq n.id l.object)))
        (λ other. ap (λ b. not b || not (is_network (gone_from (λ (q : NetworkRow). q.id) n.id rows.networks) l.object)) other);
  };
  ports = record {
    stays = λ (p : PortRow). not (ident_eq n.id p.network);
    left = filter_turned (is_port_of_others project rows) (λ (p : PortRow). not (ident_eq n.id p.network)) rows.ports;
    gone = λ h p at_p. by_test (ident_eq n.id p.network) (not (ident_eq n.id p.network) || is_network_of rows.networks project p.network ≡ true)
        (λ is. ap (λ b. not (ident_eq n.id p.network) || b) (owns_own rows c project k n at own p.network is) ∙ or_true (not (ident_eq n.id p.network)))
        (λ other. ap (λ b. not b || is_network_of rows.networks project p.network) other);
  };
  floatings = record { freed = λ f. false; left = none_freed (of_others (λ (f : FloatingRow). f.project) project rows.floatings); lost = λ h f at_f. refl };
}
