-- The ports of DHCP, where each network has one at most.
use Rattle.std.proofs.Common.{◌≡◌, ◌≤◌, ◌∙◌, ℕ, List, Bool, true, false, cond, Some, refl, ap, sym, subst, slice_get, arith}
use Rattle.std.specs.Prelude.{◌==◌, ◌&&◌, ◌||◌, not, count_by}
use Rattle.std.specs.List.{list_any, list_all}
use Rattle.api_types.specs.Ident.{Ident}
use Rattle.api_types.specs.Table.{ident_eq}
use Rattle.api_types.specs.Owners.{is_dhcp, is_dhcp_of}
use Rattle.api_types.specs.Consistent.Services.{wants_dhcp, holds_count, leases, is_leased, DhcpPortsServe}
use Rattle.api_types.specs.declared.network.NetworkRow.{NetworkRow}
use Rattle.api_types.specs.declared.subnet.SubnetRow.{SubnetRow}
use Rattle.api_types.specs.declared.port.PortRow.{PortRow}
use Rattle.api_types.proofs.ListLemmas.{and_both, both_and, any-at, at-any, count-none, false_true, one_row}
use Rattle.api_types.proofs.NameLemmas.{by_test, all-at, at-all, ident_itself, ident_same, unless}
use Rattle.api_consistency.specs.Keys.{leases_in, is_subnet_leased, serves_dhcp}
use Rattle.api_consistency.proofs.OnceLemmas.{any_counts}

or_second : (a b : Bool) → not a || b ≡ true → a ≡ true → b ≡ true
or_second true b h e = h
or_second false b h e = false_true _ e

module _ (networks : List NetworkRow) (subnets : List SubnetRow) (ports : List PortRow) (once : (network : Ident) → count_by (is_dhcp_of network) ports ≤ 1)
    (leased : list_all (is_subnet_leased ports) subnets ≡ true) (serve : list_all (serves_dhcp subnets) ports ≡ true) where
  -- a subnet that is leased has a DHCP port that holds one address in it
  of_subnet : (k : ℕ) (s : SubnetRow) → slice_get subnets k ≡ Some s → s.dhcp ≡ true → list_any (leases_in s) ports ≡ true
  of_subnet k s at dhcp = or_second s.dhcp (list_any (leases_in s) ports) (all-at (is_subnet_leased ports) subnets leased k s at) dhcp

  of_port : (k : ℕ) (p : PortRow) → slice_get ports k ≡ Some p → is_dhcp p.owner ≡ true → (wants_dhcp subnets p.network ≡ true) × (list_all (is_leased subnets) p.fixed ≡ true) × (not p.secured ≡ true)
  of_port k p at dhcp =
      let a = and_both (wants_dhcp subnets p.network) _ (or_second (is_dhcp p.owner) _ (all-at (serves_dhcp subnets) ports serve k p at) dhcp) in
      let b = and_both (list_all (is_leased subnets) p.fixed) (not p.secured) a.1 in
      (a.0, b.0, b.1)

  there_of : (i : Ident) (b : Bool) → wants_dhcp subnets i ≡ b → count_by (is_dhcp_of i) ports ≡ cond {A = ℕ} b 1 0
  there_of i true e =
      let s = any-at (λ (s : SubnetRow). ident_eq i s.network && s.dhcp) subnets e in
      let of_s = and_both (ident_eq i s.1.network) s.1.dhcp s.3 in
      let n : i ≡ s.1.network = ident_same i s.1.network of_s.0 in
      let p = any-at (leases_in s.1) ports (of_subnet s.0 s.1 s.2 of_s.1) in
      let of_p = (and_both (is_dhcp_of s.1.network p.1) (holds_count s.1.id p.1 == 1) p.3).0 in
      let some = any_counts (is_dhcp_of i) ports (at-any (is_dhcp_of i) ports p.0 p.1 p.2 (subst (λ j. is_dhcp_of j p.1 ≡ true) (sym n) of_p)) in
      omega (arith, some, once i)
  there_of i false e = count-none (is_dhcp_of i) ports (λ k p at. by_test (is_dhcp_of i p) (is_dhcp_of i p ≡ false)
      (λ is. let both = and_both (ident_eq i p.network) (is_dhcp p.owner) is in
      false_true _ (sym e ∙ (ap (wants_dhcp subnets) (ident_same i p.network both.0) ∙ (of_port k p at both.1).0)))
      (λ fails. fails))

  -- two DHCP ports of a network are one
  held : (k : ℕ) (p : PortRow) → slice_get ports k ≡ Some p → is_dhcp p.owner ≡ true → (l : ℕ) (s : SubnetRow) → slice_get subnets l ≡ Some s → leases p s ≡ true
  held k p at dhcp l s at_s = by_test (ident_eq p.network s.network && s.dhcp) (leases p s ≡ true)
      (λ is. let both = and_both (ident_eq p.network s.network) s.dhcp is in
      let n : p.network ≡ s.network = ident_same p.network s.network both.0 in
      let q = any-at (leases_in s) ports (of_subnet l s at_s both.1) in
      let of_q = and_both (is_dhcp_of s.network q.1) (holds_count s.id q.1 == 1) q.3 in
      let of_p : is_dhcp_of s.network p ≡ true = both_and (ident_eq s.network p.network) (is_dhcp p.owner) (ap (ident_eq s.network) n ∙ ident_itself s.network) dhcp in
      let same : q.1 ≡ p = one_row (is_dhcp_of s.network) ports (once s.network) q.0 k q.1 p q.2 at of_q.0 of_p in
      ap (λ b. not b || (holds_count s.id p == 1)) is ∙ subst (λ (z : PortRow). (holds_count s.id z == 1) ≡ true) same of_q.1)
      (λ fails. unless (ident_eq p.network s.network && s.dhcp) (holds_count s.id p == 1) fails)

  only : (p : PortRow) (b : Bool) → (is_dhcp p.owner ≡ true → b ≡ true) → not (is_dhcp p.owner) || b ≡ true
  only p b h = by_test (is_dhcp p.owner) (not (is_dhcp p.owner) || b ≡ true)
      (λ is. ap (λ a. not a || b) is ∙ h is)
      (λ fails. unless (is_dhcp p.owner) b fails)

  pub dhcp_ports : DhcpPortsServe networks subnets ports
  dhcp_ports = record {
    there = λ k n at. there_of n.id (wants_dhcp subnets n.id) refl;
    holds = λ k p at. only p (list_all (leases p) subnets) (λ dhcp. at-all (leases p) subnets (held k p at dhcp));
    no_other = λ k p at. only p (list_all (is_leased subnets) p.fixed) (λ dhcp. (of_port k p at dhcp).1);
    unsecured = λ k p at. only p (not p.secured) (λ dhcp. (of_port k p at dhcp).2);
  }
