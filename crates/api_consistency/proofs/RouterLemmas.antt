-- Routers that ports name by the texts of their ids.
use Rattle.std.proofs.Common.{◌≡◌, ◌≤◌, ◌∙◌, ℕ, List, Bool, true, false, Option, Some, None, refl, ap, sym, subst, slice_get, arith}
use Rattle.std.specs.Prelude.{◌&&◌, ◌||◌, not, count_by}
use Rattle.std.specs.List.{list_any, list_all}
use Rattle.std.specs.Str.{bytes_eq}
use Rattle.api_types.specs.Table.{ident_eq}
use Rattle.api_types.specs.Lists.{Each, stands_so, if_some, is_some_so, is_empty, is_one, times}
use Rattle.api_types.specs.RowLists.{RowLists}
use Rattle.api_types.specs.Owners.{is_interface, is_gateway, is_router_port, is_port_of, device_is}
use Rattle.api_types.specs.Consistent.Numbered.{AreNumbered}
use Rattle.api_types.specs.Consistent.Carried.{is_bound, AreOnHosts, AreCarried}
use Rattle.api_types.specs.Consistent.Services.{is_gateway_of, is_named_gateway, wanted_gateways, RouterPortsServe}
use Rattle.api_types.specs.declared.network.Segment.{Segment}
use Rattle.api_types.specs.declared.port.PortRow.{PortRow}
use Rattle.api_types.specs.declared.router.RouterRow.{RouterRow}
use Rattle.api_types.specs.declared.router.Gateway.{Gateway}
use Rattle.api_types.proofs.ListLemmas.{and_both, any-at, at-any, count-none, false_true, one_row}
use Rattle.api_types.proofs.NameLemmas.{by_test, all-at, at-all, ident_itself, unless}
use Rattle.row_laws.proofs.PlaceLemmas.{drawable, one_device}
use Rattle.api_consistency.specs.Keys.{is_with, is_placed, is_its_gateway, serves_router}
use Rattle.api_consistency.proofs.OnceLemmas.{count-weaker, any_counts}

or_second : (a b : Bool) → not a || b ≡ true → a ≡ true → b ≡ true
or_second true b h e = h
or_second false b h e = false_true _ e

module _ (rows : RowLists) (numbered : AreNumbered rows) where
  -- two routers that a text names are the same
  same_router : (device : List ℕ) (j k : ℕ) (r s : RouterRow) → slice_get rows.routers j ≡ Some r → slice_get rows.routers k ≡ Some s → device_is device r.id ≡ true → device_is device s.id ≡ true → r ≡ s
  same_router device j k r s at_r at_s hr hs =
      let same : r.id ≡ s.id = one_device device r.id s.id (drawable rows.projects numbered.projects r.id (numbered.drawn.routers j r at_r)) (drawable rows.projects numbered.projects s.id (numbered.drawn.routers k s at_s)) hr hs in
      one_row (λ z. ident_eq r.id z.id) rows.routers (omega (arith, numbered.ids r.id)) j k r s at_r at_s (ident_itself r.id) (subst (λ i. ident_eq r.id i ≡ true) same (ident_itself r.id))

  module _ (carries : List ℕ → Segment → Bool) (placed : list_all (is_placed carries rows) rows.ports ≡ true) where
    with_some : (k : ℕ) (p : PortRow) → slice_get rows.ports k ≡ Some p → is_bound p.vif ≡ true → is_router_port p.owner ≡ true → list_any (is_with p) rows.routers ≡ true
    with_some k p at bound router =
        let both = or_second (is_bound p.vif) _ (all-at (is_placed carries rows) rows.ports placed k p at) bound in
        or_second (is_router_port p.owner) _ (and_both (stands_so (λ n. n.id) p.network (λ n. carries p.host n.segment) rows.networks) _ both).1 router

    its_host : (k : ℕ) (p : PortRow) → slice_get rows.ports k ≡ Some p → is_bound p.vif ≡ true → (l : ℕ) (r : RouterRow) → slice_get rows.routers l ≡ Some r → is_port_of r p ≡ true → is_some_so (bytes_eq p.host) r.host ≡ true
    its_host k p at bound l r at_r is =
        let of_r = and_both (is_router_port p.owner) (device_is p.device r.id) is in
        let s = any-at (is_with p) rows.routers (with_some k p at bound of_r.0) in
        let with_s = and_both (is_some_so (bytes_eq p.host) s.1.host) (is_port_of s.1 p) s.3 in
        let of_s = and_both (is_router_port p.owner) (device_is p.device s.1.id) with_s.1 in
        subst (λ (z : RouterRow). is_some_so (bytes_eq p.host) z.host ≡ true) (same_router p.device s.0 l s.1 r s.2 at_r of_s.1 of_r.1) with_s.0

    each_host : (k : ℕ) (p : PortRow) → slice_get rows.ports k ≡ Some p → is_bound p.vif ≡ true → Each (λ r. not (is_port_of r p) || is_some_so (bytes_eq p.host) r.host ≡ true) rows.routers
    each_host k p at bound l r at_r = by_test (is_port_of r p) (not (is_port_of r p) || is_some_so (bytes_eq p.host) r.host ≡ true)
        (λ is. ap (λ b. not b || is_some_so (bytes_eq p.host) r.host) is ∙ its_host k p at bound l r at_r is)
        (λ fails. unless (is_port_of r p) (is_some_so (bytes_eq p.host) r.host) fails)

    pub on_hosts : AreOnHosts rows.ports rows.routers
    on_hosts = record {
      at_router = λ k p at. by_test (is_bound p.vif) (not (is_bound p.vif) || list_all (λ r. not (is_port_of r p) || is_some_so (bytes_eq p.host) r.host) rows.routers ≡ true)
          (λ bound. ap (λ b. not b || list_all (λ r. not (is_port_of r p) || is_some_so (bytes_eq p.host) r.host) rows.routers) bound
          ∙ at-all (λ r. not (is_port_of r p) || is_some_so (bytes_eq p.host) r.host) rows.routers (each_host k p at bound))
          (λ unbound. unless (is_bound p.vif) (list_all (λ r. not (is_port_of r p) || is_some_so (bytes_eq p.host) r.host) rows.routers) unbound);
    }

  -- the parts of what a router's port meets

  of_devices : (I G A S O E B : Bool) → not (I || G) || ((A && S) && ((not I || O) && (not G || (E && B)))) ≡ true → not (I || G) || A ≡ true
  of_devices false false A S O E B h = refl
  of_devices true G A S O E B h = (and_both A S (and_both (A && S) _ h).0).0
  of_devices false true A S O E B h = (and_both A S (and_both (A && S) _ h).0).0

  of_unsecured : (I G A S O E B : Bool) → not (I || G) || ((A && S) && ((not I || O) && (not G || (E && B)))) ≡ true → not (I || G) || S ≡ true
  of_unsecured false false A S O E B h = refl
  of_unsecured true G A S O E B h = (and_both A S (and_both (A && S) _ h).0).1
  of_unsecured false true A S O E B h = (and_both A S (and_both (A && S) _ h).0).1

  of_interfaces : (I G A S O E B : Bool) → not (I || G) || ((A && S) && ((not I || O) && (not G || (E && B)))) ≡ true → not I || O ≡ true
  of_interfaces false G A S O E B h = refl
  of_interfaces true G A S O E B h = (and_both (not true || O) (not G || (E && B)) (and_both (A && S) _ h).1).0

  of_gateways : (I G A S O E B : Bool) → not (I || G) || ((A && S) && ((not I || O) && (not G || (E && B)))) ≡ true → not G || (E && B) ≡ true
  of_gateways I false A S O E B h = refl
  of_gateways true true A S O E B h = (and_both (not true || O) (E && B) (and_both (A && S) _ h).1).1
  of_gateways false true A S O E B h = (and_both true (E && B) (and_both (A && S) _ h).1).1

  not_or_first : (G E B : Bool) → not G || (E && B) ≡ true → not G || E ≡ true
  not_or_first true E B h = (and_both E B h).0
  not_or_first false E B h = refl

  module _ (serve : list_all (serves_router rows.routers) rows.ports ≡ true)
      (named : list_all (λ (r : RouterRow). if_some (λ g. list_any (is_named_gateway r g) rows.ports) r.gateway) rows.routers ≡ true) where
    at_port : (k : ℕ) (p : PortRow) → slice_get rows.ports k ≡ Some p → serves_router rows.routers p ≡ true
    at_port k p at = all-at (serves_router rows.routers) rows.ports serve k p at

    -- a gateway port is the one that its router names
    its_gateway : (l : ℕ) (p : PortRow) → slice_get rows.ports l ≡ Some p → (k : ℕ) (r : RouterRow) → slice_get rows.routers k ≡ Some r → is_gateway_of r.id p ≡ true
        → is_some_so (λ (g : Gateway). ident_eq g.port p.id) r.gateway ≡ true
    its_gateway l p at k r at_r is =
        let of_r = and_both (is_gateway p.owner) (device_is p.device r.id) is in
        let g = of_gateways (is_interface p.owner) (is_gateway p.owner) (list_any (λ r. is_port_of r p) rows.routers) (not p.secured) (is_one p.fixed) (not (is_empty p.fixed)) (list_any (is_its_gateway p) rows.routers) (at_port l p at) in
        let any = (and_both (not (is_empty p.fixed)) (list_any (is_its_gateway p) rows.routers) (or_second (is_gateway p.owner) _ g of_r.0)).1 in
        let s = any-at (is_its_gateway p) rows.routers any in
        let of_s = and_both (is_some_so (λ (g : Gateway). ident_eq g.port p.id) s.1.gateway) (device_is p.device s.1.id) s.3 in
        subst (λ (z : RouterRow). is_some_so (λ (g : Gateway). ident_eq g.port p.id) z.gateway ≡ true) (same_router p.device s.0 k s.1 r s.2 at_r of_s.1 of_r.1) of_s.0

    counts_of : (k : ℕ) (r : RouterRow) → slice_get rows.routers k ≡ Some r → (o : Option Gateway) → r.gateway ≡ o → count_by (is_gateway_of r.id) rows.ports ≡ wanted_gateways o
    counts_of k r at None e = count-none (is_gateway_of r.id) rows.ports (λ l p at_p. by_test (is_gateway_of r.id p) (is_gateway_of r.id p ≡ false)
        (λ is. false_true _ (ap (is_some_so (λ (g : Gateway). ident_eq g.port p.id)) (sym e) ∙ its_gateway l p at_p k r at is))
        (λ fails. fails))
    counts_of k r at (Some g) e =
        let few : count_by (is_gateway_of r.id) rows.ports ≤ times (λ (p : PortRow). p.id) g.port rows.ports = count-weaker (is_gateway_of r.id) (λ (p : PortRow). ident_eq g.port p.id) rows.ports
        (λ l p at_p is. ap (is_some_so (λ (g : Gateway). ident_eq g.port p.id)) (sym e) ∙ its_gateway l p at_p k r at is) in
        let one : list_any (is_named_gateway r g) rows.ports ≡ true = ap (if_some (λ g. list_any (is_named_gateway r g) rows.ports)) (sym e) ∙ all-at (λ (r : RouterRow). if_some (λ g. list_any (is_named_gateway r g) rows.ports) r.gateway) rows.routers named k r at in
        let p = any-at (is_named_gateway r g) rows.ports one in
        let some = any_counts (is_gateway_of r.id) rows.ports (at-any (is_gateway_of r.id) rows.ports p.0 p.1 p.2 (and_both (is_gateway_of r.id p.1) (ident_eq g.network p.1.network && ident_eq g.port p.1.id) p.3).0) in
        omega (arith, few, some, numbered.ids g.port)

    pub router_ports : RouterPortsServe rows.ports rows.routers
    router_ports = record {
      devices = λ k p at. of_devices (is_interface p.owner) (is_gateway p.owner) (list_any (λ r. is_port_of r p) rows.routers) (not p.secured) (is_one p.fixed) (not (is_empty p.fixed)) (list_any (is_its_gateway p) rows.routers) (at_port k p at);
      interfaces = λ k p at. of_interfaces (is_interface p.owner) (is_gateway p.owner) (list_any (λ r. is_port_of r p) rows.routers) (not p.secured) (is_one p.fixed) (not (is_empty p.fixed)) (list_any (is_its_gateway p) rows.routers) (at_port k p at);
      gateways = λ k p at. not_or_first (is_gateway p.owner) (not (is_empty p.fixed)) (list_any (is_its_gateway p) rows.routers)
          (of_gateways (is_interface p.owner) (is_gateway p.owner) (list_any (λ r. is_port_of r p) rows.routers) (not p.secured) (is_one p.fixed) (not (is_empty p.fixed)) (list_any (is_its_gateway p) rows.routers) (at_port k p at));
      unsecured = λ k p at. of_unsecured (is_interface p.owner) (is_gateway p.owner) (list_any (λ r. is_port_of r p) rows.routers) (not p.secured) (is_one p.fixed) (not (is_empty p.fixed)) (list_any (is_its_gateway p) rows.routers) (at_port k p at);
      counts = λ k r at. counts_of k r at r.gateway refl;
      named = all-at (λ (r : RouterRow). if_some (λ g. list_any (is_named_gateway r g) rows.ports) r.gateway) rows.routers named;
    }

pub carried : (rows : RowLists) (carries : List ℕ → Segment → Bool) → list_all (is_placed carries rows) rows.ports ≡ true → AreCarried carries rows.networks rows.ports
carried rows carries placed = record { at_host = λ k p at. first (is_bound p.vif) (stands_so (λ n. n.id) p.network (λ n. carries p.host n.segment) rows.networks) (not (is_router_port p.owner) || list_any (is_with p) rows.routers) (all-at (is_placed carries rows) rows.ports placed k p at) }
  where
    first : (a b c : Bool) → not a || (b && c) ≡ true → not a || b ≡ true
    first true b c h = (and_both b c h).0
    first false b c h = refl
