-- Routes that lead by a router's ports, also where one of its ports goes.
use Rattle.std.proofs.Common.{◌≡◌, ◌∙◌, ℕ, List, [], Bool, true, false, Some, None, slice_get, ap, sym, arith}
use Rattle.std.specs.Prelude.{not, codes, ◌&&◌}
use Rattle.std.specs.List.{list_any, list_all}
use Rattle.api_types.specs.Owners.{is_port_of}
use Rattle.api_types.specs.RowLists.{RowLists}
use Rattle.api_types.specs.Table.{ident_eq}
use Rattle.api_types.specs.Consistent.{IsConsistent}
use Rattle.api_types.specs.Consistent.NextHops.{is_reached}
use Rattle.api_types.specs.declared.call.Caller.{Caller}
use Rattle.api_types.specs.declared.form.Given.{Given}
use Rattle.api_types.specs.declared.port.PortRow.{PortRow}
use Rattle.api_types.specs.declared.router.RouterRow.{RouterRow}
use Rattle.api_types.specs.declared.subnet.Hop.{Hop}
use Rattle.api_types.specs.declared.subnet.SubnetRow.{SubnetRow}
use Rattle.api_types.specs.Given.{value_or}
use Rattle.kept_laws.proofs.OutcomeLemmas.{not_when}
use Rattle.api_types.specs.RouterWays.{other_ports, is_bad_hop, is_lost_hop, router_ports, reaches}
use Rattle.api_types.proofs.ListLemmas.{and_both, any-at, at-any, at_filter, both_and, false_true, filter-any, none-any, one_row, or_none}
use Rattle.api_types.proofs.NameLemmas.{all-at, at-all, by_test, ident_itself}
use Rattle.api_types.specs.declared.refusal.Refusal.TheVariants.{InUse, Invalid}
use Rattle.api_types.specs.declared.refusal.UseRule.TheVariants.{RouterInterfaceInUseByRoute}
use Rattle.api_types.specs.declared.kind.Kind.TheVariants.{Router as RouterKind}
use Rattle.api_types.specs.HeldAddresses.{is_own_address}
use Rattle.api_router.specs.RouterRules.{bad_routes}
use Rattle.api_policy.specs.Uses.{route_in_use, told_user}
use Rattle.kept_laws.proofs.CallLemmas.{not_none}

-- a next hop that isn't bad is reached
hop_reached : (subnets : List SubnetRow) (ports : List PortRow) (r : RouterRow) (hop : Hop) → is_bad_hop subnets (router_ports ports r) hop ≡ false → is_reached subnets ports r hop ≡ true
hop_reached subnets ports r hop good =
    let reached = not_none (list_any (reaches subnets hop.next) (router_ports ports r)) (or_none (list_any (is_own_address hop.next) (router_ports ports r)) _ good).1 in
    let found = any-at (reaches subnets hop.next) (router_ports ports r) reached in
    let here = at_filter (is_port_of r) ports found.0 found.1 found.2 in
    at-any (λ p. is_port_of r p && reaches subnets hop.next p) ports here.0 found.1 here.1 (both_and (is_port_of r found.1) _ here.2 found.3)

-- the routes that a body gives are reached where the rule on them holds
pub given_reached : (rows : RowLists) (r : RouterRow) (given : Given (List Hop)) → bad_routes rows r given ≡ None → list_all (is_reached rows.subnets rows.ports r) (value_or [] given) ≡ true
given_reached rows r given good = at-all (is_reached rows.subnets rows.ports r) (value_or [] given) (λ k hop at. hop_reached rows.subnets rows.ports r hop
    (none-any (is_bad_hop rows.subnets (router_ports rows.ports r)) (value_or [] given) (not_when _ (Invalid (codes "routes")) good) k hop at))

-- where no route needs a port, the others still reach each next hop
pub others_reach : (rows : RowLists) (c : IsConsistent rows) (caller : Caller) (r : RouterRow) (routes : List Hop) (k : ℕ) (p : PortRow) → slice_get rows.ports k ≡ Some p
    → list_all (is_reached rows.subnets rows.ports r) routes ≡ true → route_in_use rows caller r routes p ≡ None → list_all (is_reached rows.subnets (other_ports p.id rows.ports) r) routes ≡ true
others_reach rows c caller r routes k p at reached unused = at-all (is_reached rows.subnets (other_ports p.id rows.ports) r) routes (λ n hop at_hop.
    kept hop (all-at (is_reached rows.subnets rows.ports r) routes reached n hop at_hop)
    (none-any (is_lost_hop rows.subnets (other_ports p.id (router_ports rows.ports r)) p) routes
    (not_when _ (InUse RouterInterfaceInUseByRoute RouterKind r.id (told_user rows caller (Some (RouterKind, r.id)))) unused) n hop at_hop))
  where
    not_both : (a b : Bool) → a ≡ true → a && not b ≡ false → b ≡ true
    not_both true b on h = not_none b h
    not_both false b on h = false_true _ on

    kept : (hop : Hop) → is_reached rows.subnets rows.ports r hop ≡ true → is_lost_hop rows.subnets (other_ports p.id (router_ports rows.ports r)) p hop ≡ false → is_reached rows.subnets (other_ports p.id rows.ports) r hop ≡ true
    kept hop h unlost =
        let found = any-at (λ q. is_port_of r q && reaches rows.subnets hop.next q) rows.ports h in
        let q : PortRow = found.1 in
        let both = and_both (is_port_of r q) (reaches rows.subnets hop.next q) found.3 in
        by_test (ident_eq p.id q.id) (is_reached rows.subnets (other_ports p.id rows.ports) r hop ≡ true)
        (λ same.
        let it : q ≡ p = one_row (λ s. ident_eq p.id s.id) rows.ports (omega (arith, c.numbered.ids p.id)) found.0 k q p found.2 at same (ident_itself p.id) in
        let others = not_both (reaches rows.subnets hop.next p) (list_any (reaches rows.subnets hop.next) (other_ports p.id (router_ports rows.ports r))) (ap (reaches rows.subnets hop.next) (sym it) ∙ both.1) unlost in
        let other = any-at (reaches rows.subnets hop.next) (other_ports p.id (router_ports rows.ports r)) others in
        let s : PortRow = other.1 in
        let leg = at_filter (λ t. not (ident_eq p.id t.id)) (router_ports rows.ports r) other.0 s other.2 in
        let here = at_filter (is_port_of r) rows.ports leg.0 s leg.1 in
        filter-any (λ t. not (ident_eq p.id t.id)) (λ t. is_port_of r t && reaches rows.subnets hop.next t) rows.ports here.0 s here.1 leg.2 (both_and (is_port_of r s) _ here.2 other.3))
        (λ differs. filter-any (λ t. not (ident_eq p.id t.id)) (λ t. is_port_of r t && reaches rows.subnets hop.next t) rows.ports found.0 q found.2 (ap not differs) found.3)
