-- The ports of services serve as they did, and groups too.
use Rattle.std.proofs.Common.{◌≡◌, ◌∙◌, ℕ, ◌+◌, List, [], ◌∷◌, Bool, true, false, cond, Option, None, Some, map, refl, ap, sym, subst, arith}
use Rattle.std.specs.Prelude.{◌≤◌, ◌==◌, ◌&&◌, ◌||◌, not, count_by, option_map}
use Rattle.std.specs.List.{list_any, list_all}
use Rattle.std.specs.Option.{option_eq}
use Rattle.std.specs.Str.{bytes_eq}
use Rattle.api_types.specs.Ident.{Ident}
use Rattle.api_types.specs.Table.{ident_eq}
use Rattle.api_types.specs.Lists.{is_empty, is_one, stands_so, if_some}
use Rattle.api_types.specs.Owners.{is_interface, is_gateway, is_dhcp, is_floating, is_router_port}
use Rattle.api_types.specs.Consistent.Carried.{is_unbound}
use Rattle.api_types.specs.Consistent.Services.{ServicesStand, wants_dhcp, holds_count, leases, is_leased, holds_just, is_port_for, wanted_gateways, is_named_gateway}
use Rattle.api_types.specs.Consistent.Groups.{GroupsServe, prefix_eq, same_match, same_rule, rules_clash, is_direction, is_ethertype}
use Rattle.api_types.specs.declared.network.NetworkRow.{NetworkRow}
use Rattle.api_types.specs.declared.router.Gateway.{Gateway}
use Rattle.api_types.specs.declared.floating.FloatingRow.{FloatingRow}
use Rattle.old_rows.specs.OldLists.{OldLists}
use Rattle.old_rows.specs.Prefixes4 as prefixes
use Rattle.old_rows.specs.Prefixes4.{Prefix}
use Rattle.old_rows.specs.Migrated.{migrated, migrated_prefix, migrated_fixed, migrated_pair, migrated_subnet, migrated_port, migrated_rule, migrated_router}
use Rattle.old_rows.specs.declared.subnet.OldSubnet.{OldSubnet}
use Rattle.old_rows.specs.declared.port.Fixed4.{Fixed4}
use Rattle.old_rows.specs.declared.port.OldPort.{OldPort}
use Rattle.old_rows.specs.declared.rule.OldRule.{OldRule}
use Rattle.old_rows.specs.declared.router.OldRouter.{OldRouter}
use Rattle.old_rows.specs.OldConsistent.Services as was
use Rattle.old_rows.specs.OldConsistent.Groups as was_grouped
use Rattle.old_rows.proofs.MapLemmas.{any-map, all-map, count-map, each-map, pass-map, pass-agree, if_some-agree}

leases_same : (p : OldPort) (s : OldSubnet) → leases (migrated_port p) (migrated_subnet s) ≡ was.leases p s
leases_same p s = ap (λ n. not (ident_eq p.network s.network && s.dhcp) || (n == 1)) (count-map migrated_fixed _ _ (λ f. refl) p.fixed)

one_same : (fs : List Fixed4) → is_one (map migrated_fixed fs) ≡ is_one fs
one_same [] = refl
one_same (f ∷ []) = refl
one_same (f ∷ g ∷ fs) = refl

empty_same : {X Y : Type 0} (f : X → Y) (xs : List X) → is_empty (map f xs) ≡ is_empty xs
empty_same f [] = refl
empty_same f (x ∷ xs) = refl

just_same : (x : ℕ) (fs : List Fixed4) → holds_just x (map migrated_fixed fs) ≡ was.holds_just x fs
just_same x [] = refl
just_same x (f ∷ []) = refl
just_same x (f ∷ g ∷ fs) = refl

pub services_stand : (old : OldLists) → was.ServicesStand old
    → ServicesStand old.networks (map migrated_subnet old.subnets) (map migrated_port old.ports) (map migrated_router old.routers) old.floatings
services_stand old c = record {
  dhcp = record {
    there = λ k n at. count-map migrated_port _ _ (λ p. refl) old.ports ∙ c.dhcp.there k n at
        ∙ ap (λ b. cond {A = ℕ} b 1 0) (sym (any-map migrated_subnet (λ s. ident_eq n.id s.network && s.dhcp) _ (λ s. refl) old.subnets));
    holds = pass-map migrated_port _ _ (λ p. ap (λ b. not (is_dhcp p.owner) || b) (all-map migrated_subnet _ _ (leases_same p) old.subnets)) old.ports c.dhcp.holds;
    no_other = pass-map migrated_port _ _ (λ p. ap (λ b. not (is_dhcp p.owner) || b) (all-map migrated_fixed _ _ (λ f. any-map migrated_subnet _ _ (λ s. refl) old.subnets) p.fixed)) old.ports c.dhcp.no_other;
    unsecured = pass-map migrated_port _ _ (λ p. refl) old.ports c.dhcp.unsecured;
  };
  of_routers = record {
    devices = pass-map migrated_port _ _ (λ p. ap (λ b. not (is_router_port p.owner) || b) (any-map migrated_router _ _ (λ r. refl) old.routers)) old.ports c.of_routers.devices;
    interfaces = pass-map migrated_port _ _ (λ p. ap (λ b. not (is_interface p.owner) || b) (one_same p.fixed)) old.ports c.of_routers.interfaces;
    gateways = pass-map migrated_port _ _ (λ p. ap (λ b. not (is_gateway p.owner) || not b) (empty_same migrated_fixed p.fixed)) old.ports c.of_routers.gateways;
    unsecured = pass-map migrated_port _ _ (λ p. refl) old.ports c.of_routers.unsecured;
    counts = each-map migrated_router (λ r. count_by (was.is_gateway_of r.id) old.ports ≡ wanted_gateways r.gateway) _ (λ r h. count-map migrated_port _ _ (λ p. refl) old.ports ∙ h) old.routers c.of_routers.counts;
    named = pass-map migrated_router _ _ (λ r. if_some-agree _ _ (λ (g : Gateway). any-map migrated_port _ _ (λ p. refl) old.ports) r.gateway) old.routers c.of_routers.named;
  };
  of_floatings = record {
    once = c.of_floatings.once;
    there = pass-agree _ _ (λ (f : FloatingRow). any-map migrated_port _ _
        (λ p j. ident_eq f.own_port p.id && (ident_eq f.network p.network && is_floating p.owner && just_same f.address p.fixed j && is_unbound p.vif)) old.ports) old.floatings c.of_floatings.there;
    unsecured = pass-map migrated_port _ _ (λ p. refl) old.ports c.of_floatings.unsecured;
  };
}

prefixes_same : (a b : Option Prefix) → option_eq prefix_eq (option_map migrated_prefix a) (option_map migrated_prefix b) ≡ option_eq prefixes.prefix_eq a b
prefixes_same None None = refl
prefixes_same None (Some b) = refl
prefixes_same (Some a) None = refl
prefixes_same (Some a) (Some b) = refl

match_same : (a b : OldRule) → same_match (migrated_rule a) (migrated_rule b) ≡ was_grouped.same_match a b
match_same a b = λ j.
    option_eq (λ x y. x == y) a.protocol b.protocol && option_eq (λ x y. x == y) a.low b.low && option_eq (λ x y. x == y) a.high b.high
    && prefixes_same a.remote_prefix b.remote_prefix j && option_eq ident_eq a.remote_group b.remote_group

clash_same : (a b : OldRule) → rules_clash (migrated_rule a) (migrated_rule b) ≡ was_grouped.rules_clash a b
clash_same a b = λ j. not (ident_eq a.id b.id)
    && (ident_eq a.group b.group && (bytes_eq a.project b.project && (is_direction a.direction b.direction && (is_ethertype a.ethertype b.ethertype && match_same a b j))))

pub groups_serve : (old : OldLists) → was_grouped.GroupsServe old → GroupsServe old.projects (map migrated_port old.ports) old.groups (map migrated_rule old.rules)
groups_serve old c = record {
  defaults = c.defaults;
  of_ports = pass-map migrated_port _ _ (λ p. refl) old.ports c.of_ports;
  bare = pass-map migrated_port _ _ (λ p. ap (λ b. p.secured || (is_empty p.groups && b)) (empty_same migrated_pair p.pairs)) old.ports c.bare;
  remotes = pass-map migrated_rule _ _ (λ r. refl) old.rules c.remotes;
  apart = pass-map migrated_rule _ _ (λ r. ap not (any-map migrated_rule _ _ (clash_same r) old.rules)) old.rules c.apart;
}
