-- A router without interfaces that goes with its gateway's port keeps rows consistent: its routes go first, then its gateway, then it.
use Rattle.std.proofs.Common.{◌≡◌, ◌∙◌, ◌∷◌, [], ℕ, zero, suc, List, Bool, true, false, cond, Option, None, Some, slice_get, slice_set, refl, ap, sym, subst, arith}
use Rattle.std.specs.Prelude.{◌&&◌, ◌||◌, not, filter}
use Rattle.std.specs.List.{list_any}
use Rattle.std.specs.Str.{bytes_eq}
use Rattle.net_addr.specs.Addresses.{is_four}
use Rattle.api_types.specs.Table.{ident_eq}
use Rattle.api_types.specs.RowLists.{RowLists}
use Rattle.api_types.specs.Lists.{Each, stands_so, is_some_so}
use Rattle.api_types.specs.Owners.{is_interface, is_gateway, is_router_port, device_is, is_port_of, holds_in}
use Rattle.api_types.specs.Consistent.{IsConsistent}
use Rattle.api_types.specs.Consistent.Services.{is_gateway_of, wanted_gateways}
use Rattle.api_types.specs.Consistent.Floating.{has_interface, is_target_port, is_target_router, leads_to}
use Rattle.api_types.specs.declared.port.PortRow.{PortRow}
use Rattle.api_types.specs.declared.port.Fixed.{Fixed}
use Rattle.api_types.specs.declared.router.RouterRow.{RouterRow}
use Rattle.api_types.specs.declared.router.Gateway.{Gateway}
use Rattle.api_types.specs.declared.floating.Target.{Target}
use Rattle.api_types.specs.RouterWays.{other_ports}
use Rattle.row_laws.specs.Gateways.{HasNoInterface, ports_without, unled, without_router}
use Rattle.row_laws.specs.Gone.{IsUnusedRouter}
use Rattle.row_laws.specs.Replaced.{gateways_agree, with_router_at}
use Rattle.api_types.proofs.ListLemmas.{and_both, any-at, any-none, both_and, each-filter, false_true, none-any, none-counted, none_some, one_row, some_equal}
use Rattle.api_types.proofs.NameLemmas.{by_test, ident_itself, ident_same, not_false}
use Rattle.row_laws.proofs.PortLeaves.{if_some-at, is_some_so-none}
use Rattle.row_laws.proofs.Service.ServiceLemmas.{by_interface}
use Rattle.row_laws.proofs.Service.GatewayOff.{gateway_off}
use Rattle.row_laws.proofs.RouterReplaced.{router_replaced}
use Rattle.row_laws.proofs.RoutersGone.{routers_gone}

pub gateway_itself : (o : Option Gateway) → gateways_agree o o ≡ true
gateway_itself None = refl
gateway_itself (Some g) = both_and (ident_eq g.network g.network) (ident_eq g.port g.port) (ident_itself g.network) (ident_itself g.port)

module _ {R : Type 0} where
  -- a row that is put stands at its place
  pub set_there : (xs : List R) (k : ℕ) (old new : R) → slice_get xs k ≡ Some old → slice_get (slice_set xs k new) k ≡ Some new
  set_there [] k old new at = none_some old _ at
  set_there (x ∷ xs) zero old new at = refl
  set_there (x ∷ xs) (suc k) old new at = set_there xs k old new at

  -- of two rows that are put at one place the second stands
  pub set_twice : (xs : List R) (k : ℕ) (a b : R) → slice_set (slice_set xs k a) k b ≡ slice_set xs k b
  set_twice [] k a b = refl
  set_twice (x ∷ xs) zero a b = refl
  set_twice (x ∷ xs) (suc k) a b = ap (λ ys. x ∷ ys) (set_twice xs k a b)

  -- a row in place of another is not seen where both go
  pub filter-set : (keep : R → Bool) (xs : List R) (k : ℕ) (old new : R) → slice_get xs k ≡ Some old → keep old ≡ false → keep new ≡ false → filter keep (slice_set xs k new) ≡ filter keep xs
  filter-set keep [] k old new at gone goes = refl
  filter-set keep (x ∷ xs) zero old new at gone goes =
      ap (λ b. cond b (new ∷ filter keep xs) (filter keep xs)) goes ∙ sym (ap (λ b. cond b (x ∷ filter keep xs) (filter keep xs)) (ap keep (some_equal x old at) ∙ gone))
  filter-set keep (x ∷ xs) (suc k) old new at gone goes = ap (λ ys. cond (keep x) (x ∷ ys) ys) (filter-set keep xs k old new at gone goes)

-- no floating address leads by a router without interfaces
pub leads_nowhere : (rows : RowLists) (c : IsConsistent rows) (r : RouterRow) → HasNoInterface rows.ports r → list_any (λ f. is_some_so (λ (t : Target). ident_eq r.id t.router) f.target) rows.floatings ≡ false
leads_nowhere rows c r bare = any-none (λ f. is_some_so (λ (t : Target). ident_eq r.id t.router) f.target) rows.floatings (λ k f at_f. is_some_so-none (λ (t : Target). ident_eq r.id t.router) f.target (λ t told.
    by_test (ident_eq r.id t.router) (ident_eq r.id t.router ≡ false)
    (λ mine.
    let leads = if_some-at (leads_to rows.ports rows.routers f) f.target t told (c.floatings.targets k f at_f) in
    let port = any-at (λ q. ident_eq t.port q.id && is_target_port rows.ports f t q) rows.ports (and_both _ (stands_so (λ s. s.id) t.router (is_target_router f) rows.routers) leads).0 in
    let p : PortRow = port.1 in
    let target = and_both (bytes_eq p.project f.project) _ (and_both (ident_eq t.port p.id) (is_target_port rows.ports f t p) port.3).1 in
    let fixed = any-at (λ (x : Fixed). is_four x.address t.fixed && has_interface rows.ports t.router x.subnet) p.fixed target.1 in
    let x : Fixed = fixed.1 in
    let leg = any-at (λ q. is_interface q.owner && (device_is q.device t.router && holds_in x.subnet q)) rows.ports (and_both (is_four x.address t.fixed) (has_interface rows.ports t.router x.subnet) fixed.3).1 in
    let q : PortRow = leg.1 in
    let both = and_both (is_interface q.owner) (device_is q.device t.router && holds_in x.subnet q) leg.3 in
    let named : device_is q.device r.id ≡ true = ap (device_is q.device) (ident_same r.id t.router mine) ∙ (and_both (device_is q.device t.router) (holds_in x.subnet q) both.1).0 in
    false_true _ (sym (bare leg.0 q leg.2) ∙ both_and (is_interface q.owner) (is_port_of r q) both.0 (both_and (is_router_port q.owner) (device_is q.device r.id) (by_interface q.owner both.0) named)))
    (λ other. other)))

-- a router without interfaces and gateway isn't used
unneeded : (rows : RowLists) (c : IsConsistent rows) (place : ℕ) (r : RouterRow) → slice_get rows.routers place ≡ Some r → r.gateway ≡ None → HasNoInterface rows.ports r → IsUnusedRouter rows.ports rows.floatings r
unneeded rows c place r at no_gateway bare = record {
  unnamed = λ k p at_p. by_owner k p at_p;
  unled = leads_nowhere rows c r bare;
}
  where
    no_gateway_port : Each (λ p. is_gateway_of r.id p ≡ false) rows.ports
    no_gateway_port = none-any (is_gateway_of r.id) rows.ports (none-counted (is_gateway_of r.id) rows.ports (c.services.of_routers.counts place r at ∙ ap wanted_gateways no_gateway))

    neither : (a b d : Bool) → a && ((a || b) && d) ≡ false → b && d ≡ false → (a || b) && d ≡ false
    neither true b d h g = h
    neither false b d h g = g

    by_owner : (k : ℕ) (p : PortRow) → slice_get rows.ports k ≡ Some p → is_port_of r p ≡ false
    by_owner k p at_p = neither (is_interface p.owner) (is_gateway p.owner) (device_is p.device r.id) (bare k p at_p) (no_gateway_port k p at_p)

module _ (rows : RowLists) (place : ℕ) (r : RouterRow) (at : slice_get rows.routers place ≡ Some r) (bare : HasNoInterface rows.ports r) (c : IsConsistent rows) where
  abbrev keep : RouterRow → Bool
  keep q = not (ident_eq r.id q.id)

  -- without routes
  abbrev free : RouterRow
  free = record r { routes = [] }

  abbrev freed : RowLists
  freed = with_router_at rows place free

  freed_kept : IsConsistent freed
  freed_kept = router_replaced rows place r free at (record { id = refl; project = refl; host = refl }) (record { gateway = gateway_itself r.gateway; few = refl; reached = refl }) c

  -- of rows in which the router has no gateway any more
  gone_from_rows : (ports : List PortRow) (last : RouterRow) (routers : List RouterRow) → slice_get routers place ≡ Some last → last.id ≡ r.id → last.gateway ≡ None → HasNoInterface ports last
      → filter keep routers ≡ filter keep rows.routers → IsConsistent (record rows { ports = ports; routers = routers }) → IsConsistent (record rows { ports = ports; routers = filter keep rows.routers })
  gone_from_rows ports last routers at_last same no_gateway none left all =
      let now : RowLists = record rows { ports = ports; routers = routers } in
      subst (λ rs. IsConsistent (record rows { ports = ports; routers = rs })) left
      (routers_gone keep now (λ k q at_q goes.
      let it : q ≡ last = one_row (λ s. ident_eq r.id s.id) routers (omega (arith, all.numbered.ids r.id)) k place q last at_q at_last (not_false (ident_eq r.id q.id) goes) (ap (ident_eq r.id) same ∙ ident_itself r.id) in
      subst (IsUnusedRouter ports rows.floatings) (sym it) (unneeded now all place last at_last no_gateway none)) all)

  goes : keep r ≡ false
  goes = ap not (ident_itself r.id)

  by_gateway : (o : Option Gateway) → r.gateway ≡ o → IsConsistent (record rows { ports = ports_without o rows.ports; routers = filter keep rows.routers })
  by_gateway None is = gone_from_rows rows.ports free freed.routers (set_there rows.routers place r free at) refl is bare (filter-set keep rows.routers place r free at goes goes) freed_kept
  by_gateway (Some g) is =
      let there = set_there rows.routers place r free at in
      gone_from_rows (other_ports g.port rows.ports) (unled free) (slice_set freed.routers place (unled free)) (set_there freed.routers place free (unled free) there) refl refl
      (each-filter (λ p. not (ident_eq g.port p.id)) (λ p. is_interface p.owner && is_port_of r p ≡ false) (λ p. is_interface p.owner && is_port_of r p ≡ false) rows.ports (λ p kept h. h) bare)
      (filter-set keep freed.routers place free (unled free) there goes goes ∙ filter-set keep rows.routers place r free at goes goes)
      (gateway_off freed place free g there (record { gateway = is; unled = leads_nowhere freed freed_kept free bare; reached = refl }) freed_kept)

  pub router_off : IsConsistent (without_router rows r)
  router_off = by_gateway r.gateway refl
