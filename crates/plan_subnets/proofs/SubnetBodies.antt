-- What a subnet's body and the refusals that it passed say.
use Rattle.std.proofs.Common.{Bool, List, None, Option, false, not, refl, sym, true, ◌∷◌, ◌≡◌, []}
use Rattle.std.specs.Prelude.{codes}
use Rattle.std.specs.List.{list_all}
use Rattle.net_addr.specs.Addresses.{same_version}
use Rattle.net_addr.specs.Prefixes.{Prefix, Span, is_host_of}
use Rattle.net_addr.specs.declared.address.Addr.{Addr}
use Rattle.api_types.specs.Consistent.InForm.{all_apart, is_hop_like}
use Rattle.api_types.specs.Lists.{if_some}
use Rattle.api_types.specs.declared.form.SubnetForm.{SubnetForm}
use Rattle.api_types.specs.declared.refusal.Refusal.{Refusal}
use Rattle.api_types.specs.declared.refusal.Refusal.TheVariants.{Invalid}
use Rattle.api_types.proofs.ListLemmas.{and_both, none_some}
use Rattle.kept_laws.proofs.EditedRows.{none_refused}
use Rattle.api_ipam.specs.Addresses.{are_pools, is_pool}
use Rattle.call_parts.specs.InForm.{are_hops, if_value, is_cidr, is_few, is_subnet_body, not_null}
use Rattle.plan_subnets.specs.SubnetRules.{bad_subnet, bad_versions}
use Rattle.api_types.specs.Given.{value_or}
use Rattle.api_types.specs.Refusing.{when}

-- no refusal comes of a condition that has to hold
pub holds_unless : (b : Bool) (refusal : Refusal) → when (not b) refusal ≡ None → b ≡ true
holds_unless true refusal h = refl
holds_unless false refusal h = none_some refusal _ (sym h)

pub record SubnetBodyParts (form : SubnetForm) : Type 0 where
  pub cidr : if_value is_cidr form.cidr ≡ true
  pub apart : all_apart (value_or [] form.allocation_pools) ≡ true
  pub few_pools : is_few 20 form.allocation_pools ≡ true
  pub few_dns : is_few 5 form.dns_nameservers ≡ true
  pub few_routes : is_few 20 form.host_routes ≡ true
  pub dhcp : not_null form.enable_dhcp ≡ true

pub body_parts : (form : SubnetForm) → is_subnet_body form ≡ true → SubnetBodyParts form
body_parts form h =
    let a = and_both _ (not_null form.enable_dhcp) h in
    let b = and_both _ (are_hops form.host_routes) a.0 in
    let d = and_both _ (is_few 20 form.host_routes) b.0 in
    let e = and_both _ (is_few 5 form.dns_nameservers) d.0 in
    let f = and_both _ (is_few 20 form.allocation_pools) e.0 in
    let g = and_both (if_value is_cidr form.cidr) (all_apart (value_or [] form.allocation_pools)) f.0 in
    record { cidr = g.0; apart = g.1; few_pools = f.1; few_dns = e.1; few_routes = d.1; dhcp = a.1 }

-- the gateway and the pools of a subnet that isn't refused
pub record IsGoodSubnet (prefix : Prefix) (gateway : Option Addr) (pools : List Span) : Type 0 where
  pub gateway_in : if_some (is_host_of prefix) gateway ≡ true
  pub pools_in : list_all (is_pool prefix gateway) pools ≡ true
  pub apart : all_apart pools ≡ true

pub good_subnet : (prefix : Prefix) (gateway : Option Addr) (pools : List Span) → bad_subnet prefix gateway pools ≡ None → IsGoodSubnet prefix gateway pools
good_subnet prefix gateway pools h =
    let first = when (not (if_some (is_host_of prefix) gateway)) (Invalid (codes "gateway_ip")) in
    let second = when (not (are_pools prefix gateway pools)) (Invalid (codes "allocation_pools")) in
    let none = none_refused (first ∷ second ∷ []) h in
    let both = and_both (list_all (is_pool prefix gateway) pools) (all_apart pools) (holds_unless (are_pools prefix gateway pools) _ (none 1 second refl)) in
    record { gateway_in = holds_unless (if_some (is_host_of prefix) gateway) _ (none 0 first refl); pools_in = both.0; apart = both.1 }

pub record AreGoodVersions (x : Addr) (form : SubnetForm) : Type 0 where
  pub dns : list_all (same_version x) (value_or [] form.dns_nameservers) ≡ true
  pub routes : list_all (is_hop_like x) (value_or [] form.host_routes) ≡ true

pub good_versions : (x : Addr) (form : SubnetForm) → bad_versions x form ≡ None → AreGoodVersions x form
good_versions x form h =
    let first = when (not (list_all (same_version x) (value_or [] form.dns_nameservers))) (Invalid (codes "dns_nameservers")) in
    let second = when (not (list_all (is_hop_like x) (value_or [] form.host_routes))) (Invalid (codes "host_routes")) in
    let none = none_refused (first ∷ second ∷ []) h in
    record {
      dns = holds_unless (list_all (same_version x) (value_or [] form.dns_nameservers)) _ (none 0 first refl);
      routes = holds_unless (list_all (is_hop_like x) (value_or [] form.host_routes)) _ (none 1 second refl);
    }
