-- Migrated rows are in form, and their addresses are host addresses, as the old ones.
use Rattle.std.proofs.Common.{◌≡◌, ◌∙◌, ℕ, ◌+◌, List, [], ◌∷◌, Bool, true, false, Option, None, Some, map, refl, ap, sym, subst, arith}
use Rattle.std.specs.Prelude.{◌&&◌, ◌||◌, not, nat_le, length, option_map}
use Rattle.std.specs.List.{list_any, list_all}
use Rattle.std.proofs.lemmas.List.{length-map}
use Rattle.net_addr.specs.Addresses.{same_version}
use Rattle.net_addr.specs.Macs.{is_unicast}
use Rattle.api_types.specs.Owners.{is_dhcp}
use Rattle.api_types.specs.Table.{ident_eq}
use Rattle.net_addr.specs.declared.address.Addr.TheVariants.{V4, V6}
use Rattle.net_addr.specs.Prefixes.{is_host_of, contains, overlaps, last_number}
use Rattle.net_addr.specs.Spans.{is_within, are_apart}
use Rattle.api_types.specs.Lists.{Pass, if_some}
use Rattle.api_types.specs.Consistent.InForm.{AreInForm, is_pool, all_apart, are_modes, are_versions, is_subnet_form, is_port_form, is_hop_like}
use Rattle.api_types.specs.Consistent.Hosts.{AreHosts}
use Rattle.api_types.specs.declared.subnet.Hop.{Hop}
use Rattle.api_types.proofs.ListLemmas.{both_and}
use Rattle.old_rows.specs.Prefixes4 as prefixes
use Rattle.old_rows.specs.Prefixes4.{Prefix, Span}
use Rattle.old_rows.specs.OldLists.{OldLists}
use Rattle.old_rows.specs.Migrated.{migrated, migrated_address, migrated_prefix, migrated_span, migrated_hop, migrated_fixed, migrated_pair, migrated_subnet, migrated_port, migrated_rule, migrated_router}
use Rattle.old_rows.specs.declared.subnet.OldSubnet.{OldSubnet}
use Rattle.old_rows.specs.declared.port.OldPort.{OldPort}
use Rattle.old_rows.specs.OldConsistent.InForm as was
use Rattle.old_rows.specs.OldConsistent.Hosts as was_hosts
use Rattle.old_rows.proofs.MapLemmas.{any-map, all-map, all-passes, pass-map, some-map, if_some-agree, all-agree}

pub contains_same : (p : Prefix) (x : ℕ) → contains (migrated_prefix p) (V4 x) ≡ prefixes.contains p x
unfolding contains
contains_same p x = refl

pub host_same : (p : Prefix) (x : ℕ) → is_host_of (migrated_prefix p) (V4 x) ≡ prefixes.is_host_of p x
unfolding contains is_host_of last_number
host_same p x = refl

pub overlaps_same : (p q : Prefix) → overlaps (migrated_prefix p) (migrated_prefix q) ≡ prefixes.overlaps p q
unfolding contains overlaps
overlaps_same p q = refl

within_same : (s : Span) (x : ℕ) → is_within (migrated_span s) (V4 x) ≡ prefixes.is_within s x
unfolding is_within
within_same s x = refl

apart_same : (s t : Span) → are_apart (migrated_span s) (migrated_span t) ≡ prefixes.are_apart s t
unfolding are_apart
apart_same s t = refl

all_apart_same : (pools : List Span) → all_apart (map migrated_span pools) ≡ was.all_apart pools
all_apart_same [] = refl
all_apart_same (pool ∷ pools) = λ j. all-map migrated_span (are_apart (migrated_span pool)) (prefixes.are_apart pool) (apart_same pool) pools j && all_apart_same pools j

pool_same : (s : OldSubnet) (pool : Span) → is_pool (migrated_subnet s) (migrated_span pool) ≡ was.is_pool s pool
pool_same s pool = λ j. host_same s.prefix pool.first j && host_same s.prefix pool.last j
    && some-map migrated_address (λ g. not (is_within (migrated_span pool) g)) (λ g. not (prefixes.is_within pool g)) (λ g. ap not (within_same pool g)) s.gateway j

versions_there : (s : OldSubnet) → are_versions (migrated_subnet s) ≡ true
versions_there s =
    both_and _ _ (all-passes migrated_address (same_version (V4 s.prefix.base)) (λ x. refl) s.dns)
    (all-passes migrated_hop (is_hop_like (V4 s.prefix.base)) (λ h. refl) s.host_routes)

and_true : (b : Bool) → b && true ≡ b
and_true true = refl
and_true false = refl

-- with no modes and version 4 alone, these two parts of the form hold, and the others are what they were
subnet_form_same : (s : OldSubnet) → is_subnet_form (migrated_subnet s) ≡ was.is_subnet_form s
subnet_form_same s = between ∙ rest
  where
    between : is_subnet_form (migrated_subnet s)
        ≡ (nat_le 1 s.prefix.len && nat_le s.prefix.len 30 && true && true && if_some (is_host_of (migrated_prefix s.prefix)) (option_map migrated_address s.gateway)
        && list_all (is_pool (migrated_subnet s)) (map migrated_span s.pools) && all_apart (map migrated_span s.pools)
        && nat_le (length s.pools) 20 && nat_le (length s.dns) 5 && nat_le (length s.host_routes) 20)
    between = λ j. nat_le 1 s.prefix.len && nat_le s.prefix.len 30 && true && versions_there s j
        && if_some (is_host_of (migrated_prefix s.prefix)) (option_map migrated_address s.gateway)
        && list_all (is_pool (migrated_subnet s)) (map migrated_span s.pools) && all_apart (map migrated_span s.pools)
        && nat_le (length-map s.pools migrated_span j) 20 && nat_le (length-map s.dns migrated_address j) 5 && nat_le (length-map s.host_routes migrated_hop j) 20

    rest : (nat_le 1 s.prefix.len && nat_le s.prefix.len 30 && true && true && if_some (is_host_of (migrated_prefix s.prefix)) (option_map migrated_address s.gateway)
        && list_all (is_pool (migrated_subnet s)) (map migrated_span s.pools) && all_apart (map migrated_span s.pools)
        && nat_le (length s.pools) 20 && nat_le (length s.dns) 5 && nat_le (length s.host_routes) 20) ≡ was.is_subnet_form s
    rest = λ j. (and_true (nat_le 1 s.prefix.len && nat_le s.prefix.len 30 && true) ∙ and_true (nat_le 1 s.prefix.len && nat_le s.prefix.len 30)) j
        && some-map migrated_address (is_host_of (migrated_prefix s.prefix)) (prefixes.is_host_of s.prefix) (host_same s.prefix) s.gateway j
        && all-map migrated_span (is_pool (migrated_subnet s)) (was.is_pool s) (pool_same s) s.pools j && all_apart_same s.pools j
        && nat_le (length s.pools) 20 && nat_le (length s.dns) 5 && nat_le (length s.host_routes) 20

port_form_same : (p : OldPort) → is_port_form (migrated_port p) ≡ was.is_port_form p
port_form_same p = λ j. is_unicast p.mac && all-map migrated_pair (λ pair. is_unicast pair.mac) (λ pair. is_unicast pair.mac) (λ pair. refl) p.pairs j
    && (nat_le (length-map p.fixed migrated_fixed j) 5 || is_dhcp p.owner) && nat_le (length-map p.pairs migrated_pair j) 10 && nat_le (length p.groups) 20

pub are_in_form : (old : OldLists) → was.AreInForm old
    → AreInForm old.networks (map migrated_subnet old.subnets) (map migrated_port old.ports) old.groups (map migrated_rule old.rules) (map migrated_router old.routers)
are_in_form old c = record {
  segments = c.segments;
  subnet_owners = pass-map migrated_subnet _ _ (λ s. refl) old.subnets c.subnet_owners;
  subnet_forms = pass-map migrated_subnet _ _ subnet_form_same old.subnets c.subnet_forms;
  dhcp_owners = pass-map migrated_port _ _ (λ p. refl) old.ports c.dhcp_owners;
  port_forms = pass-map migrated_port _ _ port_form_same old.ports c.port_forms;
  rule_owners = pass-map migrated_rule _ _ (λ r. refl) old.rules c.rule_owners;
  routes = pass-map migrated_router _ _ (λ r. ap (λ n. nat_le n 30) (length-map r.routes migrated_hop)) old.routers c.routes;
}

pub are_hosts : (old : OldLists) → was_hosts.AreHosts old.subnets old.ports → AreHosts (map migrated_subnet old.subnets) (map migrated_port old.ports)
are_hosts old c = record {
  addresses = pass-map migrated_port _ _ (λ p. all-map migrated_fixed _ _ (λ f. any-map migrated_subnet _ _ (λ s. λ j. ident_eq f.subnet s.id && (and_true (is_host_of (migrated_prefix s.prefix) (V4 f.address)) ∙ host_same s.prefix f.address) j) old.subnets) p.fixed) old.ports c.addresses;
}
