-- What migrated ports hold, and where they are, is what the old ones held.
use Rattle.std.proofs.Common.{◌≡◌, ◌∙◌, ℕ, ◌+◌, List, [], ◌∷◌, Bool, true, false, cond, Option, None, Some, map, refl, ap, sym, subst, arith}
use Rattle.std.specs.Prelude.{◌≤◌, ◌==◌, ◌&&◌, ◌||◌, not, count_by, sum_by}
use Rattle.std.specs.List.{list_any, list_all}
use Rattle.std.specs.Str.{bytes_eq}
use Rattle.net_addr.specs.Addresses.{addr_eq, is_four}
use Rattle.net_addr.specs.Prefixes.{contains, overlaps}
use Rattle.net_addr.specs.declared.address.Addr.{Addr}
use Rattle.net_addr.specs.declared.address.Addr.TheVariants.{V4, V6}
use Rattle.api_types.specs.Ident.{Ident}
use Rattle.api_types.specs.Table.{ident_eq}
use Rattle.api_types.specs.Lists.{is_some_so, stands_so}
use Rattle.api_types.specs.Owners.{is_interface, device_is, is_port_of, holds_in}
use Rattle.api_types.specs.Consistent.HeldOnce.{AreHeldOnce, holds_times}
use Rattle.api_types.specs.Consistent.Carried.{AreOnHosts, is_bound}
use Rattle.api_types.specs.Consistent.Disjoint.{AreDisjoint, subnets_clash, share_router, reach_alike, ports_clash}
use Rattle.api_types.specs.Consistent.NextHops.{RoutesLead, is_reached}
use Rattle.api_types.specs.Consistent.Floating.{FloatingsLead, has_interface, is_target_port, is_target_router, leads_to}
use Rattle.api_types.specs.declared.port.PortRow.{PortRow}
use Rattle.api_types.specs.declared.floating.FloatingRow.{FloatingRow}
use Rattle.api_types.specs.declared.floating.Target.{Target}
use Rattle.api_types.proofs.ListLemmas.{sum-none}
use Rattle.old_rows.specs.OldLists.{OldLists}
use Rattle.old_rows.specs.Prefixes4 as prefixes
use Rattle.old_rows.specs.Migrated.{migrated, migrated_prefix, migrated_hop, migrated_fixed, migrated_subnet, migrated_port, migrated_router}
use Rattle.old_rows.specs.declared.subnet.Hop4.{Hop4}
use Rattle.old_rows.specs.declared.subnet.OldSubnet.{OldSubnet}
use Rattle.old_rows.specs.declared.port.Fixed4.{Fixed4}
use Rattle.old_rows.specs.declared.port.OldPort.{OldPort}
use Rattle.old_rows.specs.declared.router.OldRouter.{OldRouter}
use Rattle.old_rows.specs.OldConsistent.HeldOnce as was_held
use Rattle.old_rows.specs.OldConsistent.Disjoint as was
use Rattle.old_rows.specs.OldConsistent.Carried as was_carried
use Rattle.old_rows.specs.OldConsistent.NextHops as was_routed
use Rattle.old_rows.specs.OldConsistent.Floating as was_led
use Rattle.old_rows.proofs.MapLemmas.{any-map, all-map, sum-map, count-map, pass-map, pass-agree, if_some-agree}
use Rattle.old_rows.proofs.LawForms.{contains_same, overlaps_same}

-- addresses

times_same : (network : Ident) (x : ℕ) (p : OldPort) → holds_times network (V4 x) (migrated_port p) ≡ was_held.holds_times network x p
times_same network x p = ap (λ n. cond {A = ℕ} (ident_eq network p.network) n 0) (count-map migrated_fixed _ _ (λ f. refl) p.fixed)

no_sixes : (x : ℕ) (fs : List Fixed4) → count_by (λ f. addr_eq f.address (V6 x)) (map migrated_fixed fs) ≡ 0
no_sixes x fs = count-map migrated_fixed (λ f. addr_eq f.address (V6 x)) (λ f. false) (λ f. refl) fs ∙ sum-none (λ f. 0) fs (λ k f at. refl)

none_held : (network : Ident) (x : ℕ) (p : OldPort) → holds_times network (V6 x) (migrated_port p) ≡ 0
none_held network x p = ap (λ n. cond {A = ℕ} (ident_eq network p.network) n 0) (no_sixes x p.fixed) ∙ zeros (ident_eq network p.network)
  where
    zeros : (b : Bool) → cond {A = ℕ} b 0 0 ≡ 0
    zeros true = refl
    zeros false = refl

pub are_held_once : (ports : List OldPort) → was_held.AreHeldOnce ports → AreHeldOnce (map migrated_port ports)
are_held_once ports c = record {
  macs = λ network mac. subst (λ n. n ≤ 1) (sym (count-map migrated_port _ _ (λ p. refl) ports)) (c.macs network mac);
  addresses = held;
}
  where
    held : (network : Ident) (x : Addr) → sum_by (holds_times network x) (map migrated_port ports) ≤ 1
    held network (V4 x) = subst (λ n. n ≤ 1) (sym (sum-map migrated_port (holds_times network (V4 x)) (was_held.holds_times network x) (times_same network x) ports)) (c.addresses network x)
    held network (V6 x) =
        let zeros : sum_by (holds_times network (V6 x)) (map migrated_port ports) ≡ 0 =
        sum-map migrated_port (holds_times network (V6 x)) (λ p. 0) (none_held network x) ports ∙ sum-none (λ p. 0) ports (λ k p at. refl) in
        omega (arith, zeros)

pub holds_in_same : (i : Ident) (p : OldPort) → holds_in i (migrated_port p) ≡ was.holds_in i p
holds_in_same i p = any-map migrated_fixed _ _ (λ f. refl) p.fixed

-- subnets apart

clash_same : (s t : OldSubnet) → subnets_clash (migrated_subnet s) (migrated_subnet t) ≡ was.subnets_clash s t
clash_same s t = λ j. not (ident_eq s.id t.id) && (ident_eq s.network t.network && overlaps_same s.prefix t.prefix j)

reach_same : (subnets : List OldSubnet) (p q : OldPort) → reach_alike (map migrated_subnet subnets) (migrated_port p) (migrated_port q) ≡ was.reach_alike subnets p q
reach_same subnets p q = any-map migrated_subnet _ _
    (λ s j. holds_in_same s.id p j && any-map migrated_subnet (λ t. holds_in t.id (migrated_port q) && overlaps (migrated_prefix s.prefix) t.prefix) (λ t. was.holds_in t.id q && prefixes.overlaps s.prefix t.prefix) (λ t j. holds_in_same t.id q j && overlaps_same s.prefix t.prefix j) subnets j) subnets

ports_clash_same : (routers : List OldRouter) (subnets : List OldSubnet) (p q : OldPort)
    → ports_clash (map migrated_router routers) (map migrated_subnet subnets) (migrated_port p) (migrated_port q) ≡ was.ports_clash routers subnets p q
ports_clash_same routers subnets p q = λ j. not (ident_eq p.id q.id) && (any-map migrated_router (λ r. is_port_of r (migrated_port p) && is_port_of r (migrated_port q)) (λ r. was.is_port_of r p && was.is_port_of r q) (λ r. refl) routers j && reach_same subnets p q j)

pub are_disjoint : (subnets : List OldSubnet) (ports : List OldPort) (routers : List OldRouter) → was.AreDisjoint subnets ports routers
    → AreDisjoint (map migrated_subnet subnets) (map migrated_port ports) (map migrated_router routers)
are_disjoint subnets ports routers c = record {
  in_network = pass-map migrated_subnet _ _ (λ s. ap not (any-map migrated_subnet _ _ (clash_same s) subnets)) subnets c.in_network;
  at_router = pass-map migrated_port _ _ (λ p. ap not (any-map migrated_port _ _ (ports_clash_same routers subnets p) ports)) ports c.at_router;
}

-- hosts and routes of routers

pub are_on_hosts : (ports : List OldPort) (routers : List OldRouter) → was_carried.AreOnHosts ports routers → AreOnHosts (map migrated_port ports) (map migrated_router routers)
are_on_hosts ports routers c = record {
  at_router = pass-map migrated_port _ _ (λ p. ap (λ b. not (is_bound p.vif) || b) (all-map migrated_router _ _ (λ r. refl) routers)) ports c.at_router;
}

reached_same : (subnets : List OldSubnet) (ports : List OldPort) (r : OldRouter) (hop : Hop4)
    → is_reached (map migrated_subnet subnets) (map migrated_port ports) (migrated_router r) (migrated_hop hop) ≡ was_routed.is_reached subnets ports r hop
reached_same subnets ports r hop = any-map migrated_port _ _
    (λ p j. was.is_port_of r p && any-map migrated_subnet (λ s. holds_in s.id (migrated_port p) && contains s.prefix (V4 hop.next)) (λ s. was.holds_in s.id p && prefixes.contains s.prefix hop.next) (λ s j. holds_in_same s.id p j && contains_same s.prefix hop.next j) subnets j) ports

pub routes_lead : (subnets : List OldSubnet) (ports : List OldPort) (routers : List OldRouter) → was_routed.RoutesLead subnets ports routers
    → RoutesLead (map migrated_subnet subnets) (map migrated_port ports) (map migrated_router routers)
routes_lead subnets ports routers c = record {
  routes = pass-map migrated_router _ _ (λ r. all-map migrated_hop _ _ (reached_same subnets ports r) r.routes) routers c.routes;
}

-- floating addresses

has_interface_same : (ports : List OldPort) (router subnet : Ident) → has_interface (map migrated_port ports) router subnet ≡ was_led.has_interface ports router subnet
has_interface_same ports router subnet = any-map migrated_port _ _ (λ q j. is_interface q.owner && (device_is q.device router && holds_in_same subnet q j)) ports

target_port_same : (ports : List OldPort) (f : FloatingRow) (t : Target) (p : OldPort)
    → is_target_port (map migrated_port ports) f t (migrated_port p) ≡ was_led.is_target_port ports f t p
target_port_same ports f t p = ap (λ b. bytes_eq p.project f.project && b)
    (any-map migrated_fixed _ (λ (x : Fixed4). (x.address == t.fixed) && was_led.has_interface ports t.router x.subnet) (λ x j. (x.address == t.fixed) && has_interface_same ports t.router x.subnet j) p.fixed)

leads_same : (ports : List OldPort) (routers : List OldRouter) (f : FloatingRow) (t : Target)
    → leads_to (map migrated_port ports) (map migrated_router routers) f t ≡ was_led.leads_to ports routers f t
leads_same ports routers f t = λ j.
    any-map migrated_port (λ p. ident_eq t.port p.id && is_target_port (map migrated_port ports) f t p) (λ p. ident_eq t.port p.id && was_led.is_target_port ports f t p) (λ p j. ident_eq t.port p.id && target_port_same ports f t p j) ports j
    && any-map migrated_router (λ r. ident_eq t.router r.id && is_target_router f r) (λ r. ident_eq t.router r.id && was_led.is_target_router f r) (λ r. refl) routers j

pub floatings_lead : (ports : List OldPort) (routers : List OldRouter) (floatings : List FloatingRow) → was_led.FloatingsLead ports routers floatings
    → FloatingsLead (map migrated_port ports) (map migrated_router routers) floatings
floatings_lead ports routers floatings c = record {
  once = c.once;
  targets = pass-agree _ _ (λ (f : FloatingRow). if_some-agree _ _ (leads_same ports routers f) f.target) floatings c.targets;
}
