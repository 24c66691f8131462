-- A subnet in form, part by part.
use Rattle.std.proofs.Common.{List, None, ap, false, length, not, refl, true, ◌∙◌, ◌≡◌}
use Rattle.std.specs.Prelude.{nat_le, ◌&&◌, ◌||◌}
use Rattle.std.specs.List.{list_all}
use Rattle.net_addr.specs.Prefixes.{is_host_of}
use Rattle.api_types.specs.Consistent.Hosts.{is_own_address}
use Rattle.api_types.specs.Consistent.InForm.{all_apart, are_modes, are_versions, is_pool, is_subnet_form, longest_of}
use Rattle.api_types.specs.Lists.{if_some}
use Rattle.api_types.specs.Table.{ident_eq}
use Rattle.api_types.specs.declared.port.PortRow.{PortRow}
use Rattle.api_types.specs.declared.subnet.SubnetRow.{SubnetRow}
use Rattle.row_laws.specs.Replaced.{IsReplacedSubnet, is_owned_still}
use Rattle.api_types.proofs.ListLemmas.{and_both, or_true}
use Rattle.api_types.proofs.NameLemmas.{all-true}

pub record FormParts (s : SubnetRow) : Type 0 where
  pub low : nat_le 1 s.prefix.len ≡ true
  pub high : nat_le s.prefix.len (longest_of s.prefix.base) ≡ true
  pub modes : are_modes s ≡ true
  pub versions : are_versions s ≡ true
  pub gateway : if_some (is_host_of s.prefix) s.gateway ≡ true
  pub pools : list_all (is_pool s) s.pools ≡ true
  pub apart : all_apart s.pools ≡ true
  pub few_pools : nat_le (length s.pools) 20 ≡ true
  pub few_dns : nat_le (length s.dns) 5 ≡ true
  pub few_routes : nat_le (length s.host_routes) 20 ≡ true

pub parts_of : (s : SubnetRow) → is_subnet_form s ≡ true → FormParts s
parts_of s h =
    let a = and_both _ (nat_le (length s.host_routes) 20) h in
    let b = and_both _ (nat_le (length s.dns) 5) a.0 in
    let d = and_both _ (nat_le (length s.pools) 20) b.0 in
    let e = and_both _ (all_apart s.pools) d.0 in
    let f = and_both _ (list_all (is_pool s) s.pools) e.0 in
    let g = and_both _ (if_some (is_host_of s.prefix) s.gateway) f.0 in
    let i = and_both _ (are_versions s) g.0 in
    let k = and_both _ (are_modes s) i.0 in
    let l = and_both (nat_le 1 s.prefix.len) (nat_le s.prefix.len (longest_of s.prefix.base)) k.0 in
    record {
      low = l.0;
      high = l.1;
      modes = k.1;
      versions = i.1;
      gateway = g.1;
      pools = f.1;
      apart = e.1;
      few_pools = d.1;
      few_dns = b.1;
      few_routes = a.1;
    }

pub form_of : (s : SubnetRow) → FormParts s → is_subnet_form s ≡ true
form_of s p j =
    p.low j && p.high j && p.modes j && p.versions j && p.gateway j && p.pools j && p.apart j && p.few_pools j && p.few_dns j && p.few_routes j

-- a subnet without DHCP and modes
abbrev pub unleased : SubnetRow → SubnetRow
unleased s = record s { dhcp = false; address_mode = None; ra_mode = None }

pub unleased_form : (s : SubnetRow) → is_subnet_form s ≡ true → is_subnet_form (unleased s) ≡ true
unleased_form s h =
    let p = parts_of s h in
    form_of (unleased s) (record {
      low = p.low;
      high = p.high;
      modes = refl;
      versions = p.versions;
      gateway = p.gateway;
      pools = p.pools;
      apart = p.apart;
      few_pools = p.few_pools;
      few_dns = p.few_dns;
      few_routes = p.few_routes;
    })

-- what is held there stays a port's own address: without a mode any address is
pub unleased_same : (ports : List PortRow) (s : SubnetRow) → IsReplacedSubnet ports s (unleased s)
unleased_same ports s = record {
  id = refl;
  project = refl;
  network = refl;
  prefix = refl;
  own = λ k p at. all-true (is_owned_still s (unleased s) p) p.fixed
      (λ f. ap (λ b. not (ident_eq f.subnet s.id) || b) (or_true (not (is_own_address p f.address s))) ∙ or_true (not (ident_eq f.subnet s.id)));
}
