-- What holds of a port that a call makes along with another row.
use Rattle.std.proofs.Common.{◌≡◌, ◌≤◌, ◌<◌, ◌+◌, ◌∙◌, ℕ, zero, suc, List, [], ◌∷◌, Bool, true, false, cond, Option, Some, None, slice_get, length, refl, ap, sym, subst, arith, sum_by}
use Rattle.std.specs.Prelude.{if◌then◌else◌, not, nat_le, count_by, bytes_eq, ◌&&◌, ◌||◌, ◌==◌, ◌^◌, ◌/◌, ◌%◌, nat_lt}
use Rattle.std.specs.List.{list_any, list_all}
use Rattle.net_addr.specs.Addresses.{addr_eq}
use Rattle.net_addr.specs.declared.address.Addr.{Addr}
use Rattle.net_settings.specs.Settings.{SettingsParts}
use Rattle.api_types.specs.Ident.{Ident}
use Rattle.api_types.specs.Lists.{Each, is_empty, is_some_so, stands_so}
use Rattle.api_types.specs.Owners.{is_dhcp, is_floating, is_gateway, is_interface, is_service}
use Rattle.api_types.specs.Registration.{Drawing}
use Rattle.api_types.specs.RowLists.{RowLists}
use Rattle.api_types.specs.Table.{ident_eq}
use Rattle.api_types.specs.Consistent.{IsConsistent}
use Rattle.api_types.specs.Consistent.Carried.{is_bound, AreCarried}
use Rattle.api_types.specs.declared.network.NetworkRow.{NetworkRow}
use Rattle.api_types.specs.declared.port.Fixed.{Fixed}
use Rattle.api_types.specs.declared.port.PortRow.{PortRow}
use Rattle.call_parts.specs.State.{State, drawing_at}
use Rattle.std.proofs.lemmas.Bool.Decides.{nat_tests}
use Rattle.std.proofs.lemmas.List.Sums.{sum_by-cons}
use Rattle.net_addr.proofs.AddrLemmas.{addr_same}
use Rattle.net_addr.specs.Macs.{is_unicast}
use Rattle.api_types.specs.Consistent.HeldOnce.{has_mac, holds_times}
use Rattle.api_types.specs.Consistent.Hosts.{is_host_in}
use Rattle.api_types.specs.Consistent.Named.{names_subnet}
use Rattle.api_types.specs.Consistent.Numbered.{is_drawn, times_in}
use Rattle.api_types.specs.declared.network.Segment.{Segment}
use Rattle.api_ml2.specs.Binding.{binds, bound}
use Rattle.api_ml2.specs.Carrying.{carries}
use Rattle.api_types.specs.declared.port.Vif.TheVariants.{Failed, Ovs, Unbound}
use Rattle.net_settings.specs.Drivers.{is_driver}
use Rattle.net_settings.specs.declared.settings.Driver.TheVariants.{Openvswitch}
use Rattle.row_laws.specs.Drawn.{IsDrawing}
use Rattle.row_laws.specs.ServicePorts.{IsServicePort}
use Rattle.row_laws.proofs.DrawnKept.{draws}
use Rattle.api_types.proofs.ListLemmas.{and_both, any-at, at-any, both_and, count-none, false_true, none-any, none_some, or_true, some_equal, sum-none}
use Rattle.api_types.proofs.NameLemmas.{bytes_itself, bytes_same, by_test, ident_itself, not_true}
use Rattle.api_types.specs.Least.{least_from}
use Rattle.api_ipam.specs.FixedChoice.{addresses_of, are_different, is_in}
use Rattle.api_types.specs.HeldAddresses.{holds_address, is_address_held, is_mac_held}
use Rattle.api_ipam.specs.MacChoice.{first_mac, free_mac}
use Rattle.api_ml2.specs.Placement.{host_or_none}
use Rattle.api_ml2.specs.ServicePorts.{dhcp_owner, floating_owner, gateway_owner, interface_owner, service_port}
use Rattle.kept_laws.proofs.ChoiceLemmas.{from_passes}
use Rattle.call_parts.proofs.DrawnLemmas.{drawn_is}

-- the MAC address that is chosen

pub from_bounds : (test : ℕ → Bool) (many first x : ℕ) → least_from test first many ≡ Some x → (first ≤ x) × (x < first + many)
unfolding least_from
from_bounds test zero first x h = none_some x _ h
from_bounds test (suc many) first x h = by (test first) h (from_bounds test many (first + 1) x)
  where
    by : (b : Bool) → (elim b [ true ↦ Some first | false ↦ least_from test (first + 1) many ]) ≡ Some x
        → (least_from test (first + 1) many ≡ Some x → (first + 1 ≤ x) × (x < first + 1 + many)) → (first ≤ x) × (x < first + suc many)
    by true h rest = let same : first ≡ x = some_equal first x h in (omega (arith, same), omega (arith, same))
    by false h rest = let r = rest h in (omega (arith, r.0), omega (arith, r.1))

is_made_mac : (mac : ℕ) → first_mac ≤ mac → mac < first_mac + 2 ^ 24 → is_unicast mac ≡ true
unfolding is_unicast
is_made_mac mac low high =
    let some : nat_lt 0 mac ≡ true = let least : 0 < mac = omega (arith, low) in grind (arith, nat_tests, least) in
    let byte : mac / 2 ^ 40 ≡ 250 = omega (arith, low, high) in
    both_and (nat_lt 0 mac) ((mac / 2 ^ 40) % 2 == 0) some (ap (λ b. b % 2 == 0) byte)

pub free_mac_is : (ports : List PortRow) (n : Ident) (mac : ℕ) → free_mac ports n ≡ Some mac → (is_unicast mac ≡ true) × (is_mac_held ports n mac ≡ false) × (first_mac ≤ mac) × (mac < first_mac + 2 ^ 24)
free_mac_is ports n mac h =
    let bounds = from_bounds (λ m. not (is_mac_held ports n m)) (2 ^ 24) first_mac mac h in
    (is_made_mac mac bounds.0 bounds.1, not_true (is_mac_held ports n mac) (from_passes (λ m. not (is_mac_held ports n m)) (2 ^ 24) first_mac mac h), bounds.0, bounds.1)

-- it has 48 bits
pub made_small_mac : (mac : ℕ) → mac < first_mac + 2 ^ 24 → mac < 2 ^ 48
made_small_mac mac high = omega (arith, high)

-- addresses that nobody holds, and that differ

unheld : (ports : List PortRow) (n : Ident) (x : Addr) → is_address_held ports n x ≡ false → sum_by (holds_times n x) ports ≡ 0
unheld ports n x free = sum-none (holds_times n x) ports (λ k p at. by (ident_eq n p.network) (λ (f : Fixed). addr_eq f.address x) p.fixed (none-any (holds_address n x) ports free k p at))
  where
    by : (b : Bool) (test : Fixed → Bool) (fixed : List Fixed) → b && list_any test fixed ≡ false → cond {A = ℕ} b (count_by test fixed) 0 ≡ 0
    by true test fixed h = count-none test fixed (none-any test fixed h)
    by false test fixed h = refl

once_there : (fs : List Fixed) → are_different (addresses_of fs) ≡ true → (x : Addr) → count_by (λ (f : Fixed). addr_eq f.address x) fs ≤ 1
once_there [] h x = omega arith
once_there (f ∷ fs) h x =
    let both = and_both (not (is_in (addresses_of fs) f.address)) (are_different (addresses_of fs)) h in
    let rest = once_there fs both.1 x in
    let all = sum_by-cons (λ (g : Fixed). cond {A = ℕ} (addr_eq g.address x) 1 0) f fs in
    by_test (addr_eq f.address x) (count_by (λ (g : Fixed). addr_eq g.address x) (f ∷ fs) ≤ 1)
    (λ same.
    let one : cond {A = ℕ} (addr_eq f.address x) 1 0 ≡ 1 = ap (λ (b : Bool). cond {A = ℕ} b 1 0) same in
    let alone : list_any (λ (g : Fixed). addr_eq g.address x) fs ≡ false =
    sym (any_images fs x) ∙ (ap (is_in (addresses_of fs)) (sym (addr_same f.address x same)) ∙ not_true (is_in (addresses_of fs) f.address) both.0) in
    let none : count_by (λ (g : Fixed). addr_eq g.address x) fs ≡ 0 = count-none (λ (g : Fixed). addr_eq g.address x) fs (none-any (λ (g : Fixed). addr_eq g.address x) fs alone) in
    omega (arith, all, one, none))
    (λ other.
    let zeros : cond {A = ℕ} (addr_eq f.address x) 1 0 ≡ 0 = ap (λ (b : Bool). cond {A = ℕ} b 1 0) other in
    omega (arith, all, zeros, rest))
  where
    any_images : (gs : List Fixed) (y : Addr) → is_in (addresses_of gs) y ≡ list_any (λ (g : Fixed). addr_eq g.address y) gs
    any_images [] y = refl
    any_images (g ∷ gs) y = ap (λ b. addr_eq g.address y || b) (any_images gs y)

-- a port that is made

module _ (rows : RowLists) (c : IsConsistent rows) (settings : SettingsParts) (n : NetworkRow) (i : Ident) (project : List ℕ) (mac : ℕ) (fixed : List Fixed) (owner device host : List ℕ) (marked : Bool) where
  abbrev pub port_made : PortRow
  port_made = record (service_port settings n i project mac fixed owner device host) { by_admin = marked }

  held_at_most : Each (λ (f : Fixed). is_address_held rows.ports n.id f.address ≡ false) fixed → are_different (addresses_of fixed) ≡ true
      → (x : Addr) → sum_by (holds_times n.id x) rows.ports + holds_times n.id x port_made ≤ 1
  held_at_most free differ x =
      let own : holds_times n.id x port_made ≡ count_by (λ (f : Fixed). addr_eq f.address x) fixed = ap (λ b. cond {A = ℕ} b (count_by (λ (f : Fixed). addr_eq f.address x) fixed) 0) (ident_itself n.id) in
      by_test (list_any (λ (f : Fixed). addr_eq f.address x) fixed) (sum_by (holds_times n.id x) rows.ports + holds_times n.id x port_made ≤ 1)
      (λ has.
      let found = any-at (λ (f : Fixed). addr_eq f.address x) fixed has in
      let f : Fixed = found.1 in
      let none = unheld rows.ports n.id x (ap (is_address_held rows.ports n.id) (sym (addr_same f.address x found.3)) ∙ free found.0 f found.2) in
      omega (arith, own, none, once_there fixed differ x))
      (λ hasnt.
      let none : count_by (λ (f : Fixed). addr_eq f.address x) fixed ≡ 0 = count-none (λ (f : Fixed). addr_eq f.address x) fixed (none-any (λ (f : Fixed). addr_eq f.address x) fixed hasnt) in
      omega (arith, own, none, c.held_once.addresses n.id x))

  pub service_made : (place : ℕ) → slice_get rows.networks place ≡ Some n → times_in rows i ≡ 0 → is_drawn rows.projects i ≡ true → is_unicast mac ≡ true → is_mac_held rows.ports n.id mac ≡ false
      → nat_le (length fixed) 5 ≡ true → Each (λ (f : Fixed). is_address_held rows.ports n.id f.address ≡ false) fixed → are_different (addresses_of fixed) ≡ true
      → list_all (names_subnet rows.subnets port_made) fixed ≡ true → list_all (is_host_in rows.subnets port_made) fixed ≡ true → IsServicePort rows port_made
  service_made place at fresh drawn unicast alone few free differ named hosts = record {
    fresh = fresh;
    drawn = drawn;
    network = at-any (λ q. ident_eq n.id q.id) rows.networks place n at (ident_itself n.id);
    form = λ j. unicast j && true && (few j || is_dhcp owner) && true && true;
    mac = count-none (has_mac n.id mac) rows.ports (none-any (has_mac n.id mac) rows.ports alone);
    addresses = held_at_most free differ;
    subnets = named;
    hosts = hosts;
    unsecured = refl;
    ungrouped = refl;
    unpaired = refl;
  }

-- on the router's host, where it is bound
pub on_host : (settings : SettingsParts) (segment : Segment) (o : Option (List ℕ)) → not (is_bound (bound settings segment (host_or_none o))) || is_some_so (bytes_eq (host_or_none o)) o ≡ true
on_host settings segment None = refl
on_host settings segment (Some host) = ap (λ b. not (is_bound (bound settings segment host)) || b) (bytes_itself host) ∙ or_true (not (is_bound (bound settings segment host)))

-- and that host can carry the network
pub bound_carried : (settings : SettingsParts) (networks : List NetworkRow) (k : ℕ) (n : NetworkRow) → slice_get networks k ≡ Some n → (host : List ℕ)
    → not (is_bound (bound settings n.segment host)) || stands_so (λ m. m.id) n.id (λ m. carries settings.hosts host m.segment) networks ≡ true
bound_carried settings networks k n at host = by (is_empty host) (binds settings n.segment host) (λ h. at-any (λ m. ident_eq n.id m.id && carries settings.hosts host m.segment) networks k n at
    (both_and (ident_eq n.id n.id) _ (ident_itself n.id) (and_both (list_any (is_driver Openvswitch) settings.drivers) (carries settings.hosts host n.segment) h).1))
  where
    by : (a b : Bool) → (b ≡ true → stands_so (λ m. m.id) n.id (λ m. carries settings.hosts host m.segment) networks ≡ true)
        → not (is_bound (if a then Unbound else if b then Ovs else Failed)) || stands_so (λ m. m.id) n.id (λ m. carries settings.hosts host m.segment) networks ≡ true
    by true b w = refl
    by false true w = w refl
    by false false w = refl

-- what rows in which ids were drawn keep
pub carried_drawn : (settings : SettingsParts) (rows : RowLists) (project : List ℕ) (many : ℕ) (d : Drawing) → IsDrawing rows project many d → AreCarried (carries settings.hosts) rows.networks rows.ports → AreCarried (carries settings.hosts) d.rows.networks d.rows.ports
carried_drawn settings rows project many d drawn h =
    subst (λ networks. AreCarried (carries settings.hosts) networks d.rows.ports) (sym drawn.networks) (subst (AreCarried (carries settings.hosts) rows.networks) (sym drawn.ports) h)

-- who owns ports of services

pub interface_is : is_interface interface_owner ≡ true
unfolding is_interface
interface_is = bytes_itself interface_owner

pub gateway_is : is_gateway gateway_owner ≡ true
unfolding is_gateway
gateway_is = bytes_itself gateway_owner

pub floating_is : is_floating floating_owner ≡ true
unfolding is_floating
floating_is = bytes_itself floating_owner

other_owner : (owner service : List ℕ) → is_service owner ≡ false → is_service service ≡ true → bytes_eq owner service ≡ false
other_owner owner service none is = by_test (bytes_eq owner service) (bytes_eq owner service ≡ false)
    (λ same. false_true _ (sym none ∙ (ap is_service (bytes_same owner service same) ∙ is)))
    (λ other. other)

-- a port of no service
pub record IsUnserving (owner : List ℕ) : Type 0 where
  pub no_interface : is_interface owner ≡ false
  pub no_gateway : is_gateway owner ≡ false
  pub no_dhcp : is_dhcp owner ≡ false
  pub no_floating : is_floating owner ≡ false

pub unserving : (owner : List ℕ) → is_service owner ≡ false → IsUnserving owner
unfolding is_interface is_gateway is_dhcp is_floating
unserving owner none = record {
  no_interface = other_owner owner interface_owner none refl;
  no_gateway = other_owner owner gateway_owner none refl;
  no_dhcp = other_owner owner dhcp_owner none refl;
  no_floating = other_owner owner floating_owner none refl;
}

pub drawing_is : (state : State) (project : List ℕ) (many : ℕ) (d : Drawing) → IsConsistent state.rows → not (is_empty project) ≡ true → 5 + many < 2 ^ 62 → drawing_at state project many ≡ Some d → IsDrawing state.rows project many d
drawing_is state project many d c named room h = draws state.rows project many d c named room (drawn_is state project many d h)
