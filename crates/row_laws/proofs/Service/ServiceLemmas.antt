-- Ports of services: whose they are by their owner, and which router they name.
use Rattle.std.proofs.Common.{◌≡◌, ◌∙◌, ℕ, List, Bool, true, false, Some, slice_get, refl, ap, sym}
use Rattle.std.specs.Prelude.{◌&&◌, ◌||◌, not, codes}
use Rattle.std.specs.List.{list_all}
use Rattle.std.specs.Str.{bytes_eq}
use Rattle.api_types.specs.Ident.{Ident}
use Rattle.api_types.specs.Table.{ident_eq}
use Rattle.api_types.specs.RowLists.{RowLists}
use Rattle.api_types.specs.Lists.{Each, is_some_so, is_empty}
use Rattle.api_types.specs.Owners.{is_interface, is_gateway, is_dhcp, is_floating, is_router_port, device_is, is_port_of}
use Rattle.api_types.specs.Consistent.{IsConsistent}
use Rattle.api_types.specs.Consistent.Disjoint.{share_router, ports_clash}
use Rattle.api_types.specs.Consistent.Carried.{is_bound}
use Rattle.api_types.specs.declared.port.PortRow.{PortRow}
use Rattle.api_types.specs.declared.router.RouterRow.{RouterRow}
use Rattle.row_laws.specs.ServicePorts.{IsPortAt, IsServicePort}
use Rattle.api_types.proofs.ListLemmas.{and_both, any-at, or_true, some_equal}
use Rattle.api_types.proofs.NameLemmas.{at-all, bytes_same, by_test, or_weaker, unless}
use Rattle.row_laws.proofs.PlaceLemmas.{device_itself, one_router}

-- a port of one service is no other service's

pub interface_alone : (owner : List ℕ) → is_interface owner ≡ true → (is_gateway owner ≡ false) × (is_dhcp owner ≡ false) × (is_floating owner ≡ false)
unfolding is_dhcp is_interface is_gateway is_floating
interface_alone owner h =
    let e = bytes_same owner (codes "network:router_interface") h in
    (ap (λ o. bytes_eq o (codes "network:router_gateway")) e, ap (λ o. bytes_eq o (codes "network:dhcp")) e, ap (λ o. bytes_eq o (codes "network:floatingip")) e)

pub gateway_alone : (owner : List ℕ) → is_gateway owner ≡ true → (is_interface owner ≡ false) × (is_dhcp owner ≡ false) × (is_floating owner ≡ false)
unfolding is_dhcp is_interface is_gateway is_floating
gateway_alone owner h =
    let e = bytes_same owner (codes "network:router_gateway") h in
    (ap (λ o. bytes_eq o (codes "network:router_interface")) e, ap (λ o. bytes_eq o (codes "network:dhcp")) e, ap (λ o. bytes_eq o (codes "network:floatingip")) e)

pub floating_alone : (owner : List ℕ) → is_floating owner ≡ true → (is_interface owner ≡ false) × (is_gateway owner ≡ false) × (is_dhcp owner ≡ false)
unfolding is_dhcp is_interface is_gateway is_floating
floating_alone owner h =
    let e = bytes_same owner (codes "network:floatingip") h in
    (ap (λ o. bytes_eq o (codes "network:router_interface")) e, ap (λ o. bytes_eq o (codes "network:router_gateway")) e, ap (λ o. bytes_eq o (codes "network:dhcp")) e)

pub by_interface : (owner : List ℕ) → is_interface owner ≡ true → is_router_port owner ≡ true
by_interface owner h = ap (λ b. b || is_gateway owner) h

pub by_gateway : (owner : List ℕ) → is_gateway owner ≡ true → is_router_port owner ≡ true
by_gateway owner h = ap (λ b. is_interface owner || b) h ∙ or_true (is_interface owner)

pub no_router_port : (owner : List ℕ) → is_interface owner ≡ false → is_gateway owner ≡ false → is_router_port owner ≡ false
no_router_port owner a b = λ j. a j || b j

unlike_if : (a b d : Bool) → (b ≡ true → d ≡ false) → a && (b && d) ≡ false
unlike_if true true d h = h refl
unlike_if true false d h = refl
unlike_if false b d h = refl

-- a port at a router

module _ (rows : RowLists) (c : IsConsistent rows) (place : ℕ) (r : RouterRow) (at : slice_get rows.routers place ≡ Some r) (p : PortRow) (is : IsPortAt rows r p) where
  pub named : device_is p.device r.id ≡ true
  named = ap (λ d. device_is d r.id) is.device ∙ device_itself r.id

  -- it is no other router's
  pub only : (k : ℕ) (q : RouterRow) → slice_get rows.routers k ≡ Some q → is_port_of q p ≡ true → q ≡ r
  only k q at_q h =
      let its = and_both (is_router_port p.owner) (device_is p.device q.id) h in
      let same : k ≡ place = one_router rows c p.device k place q r at_q at its.1 named in
      some_equal q r (sym at_q ∙ (ap (slice_get rows.routers) same ∙ at))

  pub placed : not (is_bound p.vif) || list_all (λ q. not (is_port_of q p) || is_some_so (bytes_eq p.host) q.host) rows.routers ≡ true
  placed = or_weaker (not (is_bound p.vif)) _ _ (λ h. at-all (λ q. not (is_port_of q p) || is_some_so (bytes_eq p.host) q.host) rows.routers (λ k q at_q.
      by_test (is_port_of q p) (not (is_port_of q p) || is_some_so (bytes_eq p.host) q.host ≡ true)
      (λ its. ap (λ b. not (is_port_of q p) || b) (ap (λ s. is_some_so (bytes_eq p.host) s.host) (only k q at_q its) ∙ h) ∙ or_true (not (is_port_of q p)))
      (λ other. unless (is_port_of q p) _ other))) is.host

  pub unclashed : Each (λ q. (ports_clash rows.routers rows.subnets q p ≡ false) × (ports_clash rows.routers rows.subnets p q ≡ false)) rows.ports
  unclashed k q at_q = (
    unlike_if (not (ident_eq q.id p.id)) (share_router rows.routers q p) _ (λ h.
        let found = any-at (λ s. is_port_of s q && is_port_of s p) rows.routers h in
        let s : RouterRow = found.1 in
        let both = and_both (is_port_of s q) (is_port_of s p) found.3 in
        (is.apart k q at_q (ap (λ t. is_port_of t q) (sym (only found.0 s found.2 both.1)) ∙ both.0)).0),
    unlike_if (not (ident_eq p.id q.id)) (share_router rows.routers p q) _ (λ h.
        let found = any-at (λ s. is_port_of s p && is_port_of s q) rows.routers h in
        let s : RouterRow = found.1 in
        let both = and_both (is_port_of s p) (is_port_of s q) found.3 in
        (is.apart k q at_q (ap (λ t. is_port_of t q) (sym (only found.0 s found.2 both.0)) ∙ both.1)).1),
  )

-- a port without port security

module _ (rows : RowLists) (p : PortRow) (is : IsServicePort rows p) where
  pub ungrouped : (test : Ident → Bool) → list_all test p.groups ≡ true
  ungrouped test = ap (list_all test) is.ungrouped

  pub bare : p.secured || (is_empty p.groups && is_empty p.pairs) ≡ true
  bare = (λ j. p.secured || (is_empty (is.ungrouped j) && is_empty (is.unpaired j))) ∙ or_true p.secured

  pub unfiltered : (asked : Bool) → not asked || not p.secured ≡ true
  unfiltered asked = ap (λ b. not asked || not b) is.unsecured ∙ or_true (not asked)
