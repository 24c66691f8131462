-- A subnet that is leased no more: the edits on its network's DHCP port, and on what leads to it, keep rows consistent.
use Rattle.std.proofs.Common.{Bool, List, None, Option, Some, [], ap, arith, cond, false, map, not, refl, slice_get, slice_set, sym, true, ℕ, ◌∙◌, ◌∷◌, ◌≡◌}
use Rattle.std.specs.Prelude.{count_by, filter, ◌&&◌, ◌||◌}
use Rattle.std.specs.List.{list_any}
use Rattle.net_addr.specs.Addresses.{is_four}
use Rattle.api_types.specs.Consistent.{IsConsistent}
use Rattle.api_types.specs.Consistent.InForm.{is_subnet_form}
use Rattle.api_types.specs.Consistent.Services.{wants_dhcp}
use Rattle.api_types.specs.Lists.{Each, if_some, is_some_so}
use Rattle.api_types.specs.Owners.{is_dhcp, is_dhcp_of}
use Rattle.api_types.specs.RowLists.{RowLists}
use Rattle.api_types.specs.Table.{ident_eq}
use Rattle.api_types.specs.declared.floating.FloatingRow.{FloatingRow}
use Rattle.api_types.specs.declared.floating.Target.{Target}
use Rattle.api_types.specs.declared.kind.Row.TheVariants.{Floating}
use Rattle.api_types.specs.declared.port.Fixed.{Fixed}
use Rattle.api_types.specs.declared.port.PortRow.{PortRow}
use Rattle.api_types.specs.declared.subnet.SubnetRow.{SubnetRow}
use Rattle.row_laws.specs.Leased.{EndsLeased, leads_to_kept, outside, ports_left, unleased_at}
use Rattle.row_laws.specs.Replaced.{IsReplacedSubnet}
use Rattle.row_laws.proofs.Service.DhcpLemmas.{dhcp_there}
use Rattle.api_types.proofs.ListLemmas.{and_both, at-any, at_filter, at_set, both_and, count-none, false_true, or_true}
use Rattle.api_types.proofs.NameLemmas.{fails_by, ident_itself, ident_sym, unless}
use Rattle.row_laws.proofs.Service.SubnetUnleased.{subnet_unleased}
use Rattle.kept_laws.proofs.Disassociated.{AreDisassociated, disassociations_keep}
use Rattle.kept_laws.proofs.EditedRows.{put_at}
use Rattle.plan_subnets.specs.DhcpUpkeep.{dhcp_port_on, end_serving, giving_back, port_left, unserving}
use Rattle.call_parts.specs.Edits.{Edit, Put, edited, made}
use Rattle.api_types.specs.WithRows.{with_put}
use Rattle.call_parts.specs.Leaving.{disassociated, disassociations, loses_target}
use Rattle.kept_laws.proofs.OutcomeLemmas.{found_at, unfound}
use Rattle.call_parts.proofs.EditLemmas.{made-append}

-- the rows after the edits, with any subnets, and with the subnet at the place leased no more
pub record HasEnded (rows : RowLists) (edits : List Edit) (place : ℕ) (new : SubnetRow) : Type 0 where
  pub floatings : List FloatingRow
  pub ports : List PortRow
  pub is : (subnets : List SubnetRow) → made (record rows { subnets = subnets }) edits ≡ record rows { subnets = subnets; ports = ports; floatings = floatings }
  pub consistent : IsConsistent (record rows { subnets = slice_set rows.subnets place new; ports = ports; floatings = floatings })
  pub others : Each (λ q. is_dhcp q.owner ≡ false → (l : ℕ) × (slice_get rows.ports l ≡ Some q)) ports

-- floating addresses are put whatever the subnets are
pub puts_any : (rows : RowLists) (subnets : List SubnetRow) (fs : List FloatingRow)
    → made (record rows { subnets = subnets }) (map (λ (f : FloatingRow). Put (Floating (disassociated f))) fs) ≡ record (made rows (map (λ (f : FloatingRow). Put (Floating (disassociated f))) fs)) { subnets = subnets }
puts_any rows subnets [] = refl
puts_any rows subnets (f ∷ fs) = puts_any (with_put rows (Floating (disassociated f))) subnets fs

module _ (rows : RowLists) (place : ℕ) (s new : SubnetRow) (at : slice_get rows.subnets place ≡ Some s) (c : IsConsistent rows) (leased : s.dhcp ≡ true) (after : new.dhcp ≡ false)
    (same : IsReplacedSubnet rows.ports s new) (form : is_subnet_form new ≡ true) where
  -- the port gives back what it holds in the subnet
  module _ (k : ℕ) (p : PortRow) (at_p : slice_get rows.ports k ≡ Some p) (service : is_dhcp_of s.network p ≡ true) where
    abbrev left : List Fixed
    left = outside s.id p.fixed

    abbrev before : AreDisassociated rows (disassociations rows.floatings p.id left) (loses_target p.id left)
    before = disassociations_keep rows p.id left c

    abbrev between : RowLists
    between = record rows { floatings = before.floatings }

    -- what still leads to the port leads to what it keeps
    kept_led : (o : Option Target) → is_some_so (loses_target p.id left) o ≡ false → if_some (leads_to_kept p.id left) o ≡ true
    kept_led None h = refl
    kept_led (Some t) h = by (ident_eq p.id t.port) refl (list_any (λ (f : Fixed). is_four f.address t.fixed) left) refl h
      where
        by : (a : Bool) → ident_eq p.id t.port ≡ a → (b : Bool) → list_any (λ (f : Fixed). is_four f.address t.fixed) left ≡ b → a && not b ≡ false → leads_to_kept p.id left t ≡ true
        by true e true g h = ap (λ d. not (ident_eq t.port p.id) || d) g ∙ or_true (not (ident_eq t.port p.id))
        by true e false g h = false_true _ (sym h)
        by false e b g h = unless (ident_eq t.port p.id) _ (fails_by (ident_eq t.port p.id) (ident_eq p.id t.port) (ident_sym t.port p.id) e)

    ends : EndsLeased between s new p
    ends = record {
      same = record { id = same.id; project = same.project; network = same.network; prefix = same.prefix; own = same.own };
      form = form;
      before = leased;
      after = after;
      service = service;
      targets = λ l f at_f. kept_led f.target (before.none l f at_f);
    }

    whole : IsConsistent (unleased_at between place new k p left)
    whole = subnet_unleased between place s new at k p at_p ends before.consistent

    -- the edit on the port makes the list of the ports that are left
    left_at : (subnets : List SubnetRow) (fs : List Fixed) → edited (record between { subnets = subnets }) (port_left p fs) ≡ record between { subnets = subnets; ports = ports_left rows.ports k p fs }
    left_at subnets [] = refl
    left_at subnets (f ∷ fs) = ap (λ ports. record between { subnets = subnets; ports = ports })
        (put_at (λ (q : PortRow). q.id) rows.ports k p (record p { fixed = f ∷ fs }) at_p refl (λ i. omega (arith, c.numbered.ids i)))

    others_left : (fs : List Fixed) → Each (λ q. is_dhcp q.owner ≡ false → (l : ℕ) × (slice_get rows.ports l ≡ Some q)) (ports_left rows.ports k p fs)
    others_left [] l q at_q plain = let r = at_filter (λ (q : PortRow). not (ident_eq p.id q.id)) rows.ports l q at_q in (r.0, r.1)
    others_left (f ∷ fs) l q at_q plain = at_set rows.ports k (record p { fixed = f ∷ fs }) q l at_q ((m : ℕ) × (slice_get rows.ports m ≡ Some q))
        (λ at_old. (l, at_old))
        (λ e is. false_true _ (sym plain ∙ (ap (λ (r : PortRow). is_dhcp r.owner) (sym is) ∙ (and_both (ident_eq s.network p.network) (is_dhcp p.owner) service).1)))

    pub given_back : HasEnded rows (giving_back rows.floatings p left) place new
    given_back = record {
      floatings = before.floatings;
      ports = ports_left rows.ports k p left;
      is = λ subnets.
          made-append (record rows { subnets = subnets }) (disassociations rows.floatings p.id left) (port_left p left ∷ [])
          ∙ (ap (λ (r : RowLists). edited r (port_left p left)) (puts_any rows subnets (filter (λ (f : FloatingRow). is_some_so (loses_target p.id left) f.target) rows.floatings)
          ∙ ap (λ (r : RowLists). record r { subnets = subnets }) before.is) ∙ left_at subnets left);
      consistent = whole;
      others = others_left left;
    }

  -- the network's DHCP port is there
  pub serving_ended : HasEnded rows (end_serving rows s.network true s.id) place new
  serving_ended = by (dhcp_port_on rows.ports s.network) refl
    where
      by : (o : Option PortRow) → dhcp_port_on rows.ports s.network ≡ o → HasEnded rows (unserving rows o s.id) place new
      by None e =
          let zeros = count-none (is_dhcp_of s.network) rows.ports (unfound (is_dhcp_of s.network) rows.ports e) in
          let wants : wants_dhcp rows.subnets s.network ≡ true = at-any (λ t. ident_eq s.network t.network && t.dhcp) rows.subnets place s at (both_and (ident_eq s.network s.network) s.dhcp (ident_itself s.network) leased) in
          let one : count_by (is_dhcp_of s.network) rows.ports ≡ 1 = dhcp_there rows c s.network (c.named.networks.of_subnets place s at) ∙ ap (λ b. cond b 1 0) wants in
          absurd (omega (arith, zeros, one))
      by (Some p) e =
          let found = found_at (is_dhcp_of s.network) rows.ports p e in
          given_back found.0 p found.1 found.2
