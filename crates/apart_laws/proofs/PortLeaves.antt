-- A port goes with the targets of those who lead to it, and else what others own stays.
use Rattle.api_types.proofs.ListLemmas.{and_both, at_filter, false_true, one_row, or_true}
use Rattle.api_types.proofs.NameLemmas.{by_test, ident_itself, unless_so}
use Rattle.api_types.specs.Consistent.{IsConsistent}
use Rattle.api_types.specs.Consistent.InForm.{is_network_of}
use Rattle.api_types.specs.Consistent.Named.{is_port}
use Rattle.api_types.specs.Lists.{Each, is_some_so}
use Rattle.api_types.specs.RowLists.{RowLists}
use Rattle.api_types.specs.Table.{ident_eq}
use Rattle.api_types.specs.WithRows.{gone_from}
use Rattle.api_types.specs.declared.floating.FloatingRow.{FloatingRow}
use Rattle.api_types.specs.declared.floating.Target.{Target}
use Rattle.api_types.specs.declared.kind.Kind.TheVariants.{Port as PortKind}
use Rattle.api_types.specs.declared.policy.PolicyRow.{PolicyRow}
use Rattle.api_types.specs.declared.port.PortRow.{PortRow}
use Rattle.call_parts.proofs.EditLemmas.{made-append}
use Rattle.call_parts.specs.Edits.{Drop, made}
use Rattle.call_parts.specs.Leaving.{disassociations, loses_target}
use Rattle.apart_laws.proofs.Filtered.{all_stay, filter_agree, filter_mapped, filter_turned}
use Rattle.apart_laws.proofs.Leaving.{disassociated_rows, owner_kept, serve_still}
use Rattle.apart_laws.proofs.NetworkLeaves.{absent}
use Rattle.apart_laws.proofs.Steps.{own_port}
use Rattle.apart_laws.specs.Others.{OthersStay, is_port_of_others, of_others, ports_of_others}
use Rattle.row_laws.specs.OwnPorts.{freed_if, with_floatings_freed}
use Rattle.std.proofs.Common.{Bool, List, None, Option, Some, ap, arith, false, not, refl, slice_get, subst, sym, true, ◌++◌, ◌∙◌, ◌∷◌, ◌≡◌, [], ℕ}
use Rattle.std.specs.Prelude.{◌||◌}
use Rattle.std.specs.Str.{bytes_eq}

-- a port that goes, with those who lead there, is the project's or is on a network of it
pub port_leaves : (rows : RowLists) → IsConsistent rows → (project : List ℕ) (k : ℕ) (p : PortRow) → slice_get rows.ports k ≡ Some p
    → bytes_eq p.project project || is_network_of rows.networks project p.network ≡ true
    → OthersStay project rows (made rows (disassociations rows.floatings p.id [] ++ Drop PortKind p.id ∷ []))
port_leaves rows c project k p at may =
    let leaving : FloatingRow → Bool = λ f. is_some_so (loses_target p.id []) f.target in
    subst (OthersStay project rows) (sym (made-append rows (disassociations rows.floatings p.id []) (Drop PortKind p.id ∷ [])
    ∙ ap (λ r. made r (Drop PortKind p.id ∷ [])) (disassociated_rows rows (λ i. omega (arith, c.numbered.ids i)) p.id []))) (record {
      projects = refl;
      networks = refl;
      subnets = refl;
      groups = refl;
      rules = refl;
      routers = refl;
      policies = record { stays = λ l. true; left = all_stay (of_others (λ (l : PolicyRow). l.project) project rows.policies); gone = λ h l at_l. refl };
      ports = record {
        stays = λ (q : PortRow). not (ident_eq p.id q.id);
        left = filter_agree (is_port_of_others project (with_floatings_freed leaving rows)) (is_port_of_others project rows) (gone_from (λ (q : PortRow). q.id) p.id rows.ports)
            (λ h q at_q. let r = at_filter (λ (q : PortRow). not (ident_eq p.id q.id)) rows.ports h q at_q in serve_still project rows leaving r.0 q r.1)
            ∙ filter_turned (is_port_of_others project rows) (λ (q : PortRow). not (ident_eq p.id q.id)) rows.ports;
        gone = going;
      };
      floatings = record {
        freed = leaving;
        left = filter_mapped (λ (f : FloatingRow). not (bytes_eq f.project project)) (λ f. freed_if (leaving f) f) rows.floatings (λ f. ap (λ name. not (bytes_eq name project)) (owner_kept (leaving f) f));
        lost = λ h f at_f. unless_so (leaving f) (is_some_so (λ (t : Target). not (is_port (gone_from (λ (q : PortRow). q.id) p.id rows.ports) t.port)) f.target) (leads f.target);
      };
    })
  where
    leads : (o : Option Target) → is_some_so (loses_target p.id []) o ≡ true → is_some_so (λ (t : Target). not (is_port (gone_from (λ (q : PortRow). q.id) p.id rows.ports) t.port)) o ≡ true
    leads None h = h
    leads (Some t) h = ap not (absent (λ (q : PortRow). q.id) rows.ports p.id t.port (and_both (ident_eq p.id t.port) _ h).0)

    on_own : (b : Bool) → bytes_eq p.project project ≡ b → b || is_network_of rows.networks project p.network ≡ true → is_port_of_others project rows p ≡ true → is_network_of rows.networks project p.network ≡ true
    on_own true own h passes = false_true _ (sym (own_port project rows p own) ∙ passes)
    on_own false other h passes = h

    going : Each (λ (q : PortRow). not (ident_eq p.id q.id) || is_network_of rows.networks project q.network ≡ true) (ports_of_others project rows)
    going h q at_q = by_test (ident_eq p.id q.id) (not (ident_eq p.id q.id) || is_network_of rows.networks project q.network ≡ true)
        (λ same.
        let r = at_filter (is_port_of_others project rows) rows.ports h q at_q in
        let it : p ≡ q = one_row (λ (y : PortRow). ident_eq p.id y.id) rows.ports (omega (arith, c.numbered.ids p.id)) k r.0 p q at r.1 (ident_itself p.id) same in
        ap (λ b. not (ident_eq p.id q.id) || b) (subst (λ (y : PortRow). is_network_of rows.networks project y.network ≡ true) it
        (on_own (bytes_eq p.project project) refl may (ap (is_port_of_others project rows) it ∙ r.2))) ∙ or_true (not (ident_eq p.id q.id)))
        (λ other. ap (λ b. not b || is_network_of rows.networks project q.network) other)
