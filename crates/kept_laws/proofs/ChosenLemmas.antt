-- Addresses that are chosen for gateways and floating addresses are host addresses of subnets of the network, which nobody holds.
use Rattle.std.proofs.Common.{◌≡◌, ◌≤◌, ◌<◌, ◌+◌, ◌∙◌, ℕ, suc, List, [], ◌∷◌, Bool, true, false, Option, Some, None, slice_get, length, refl, ap, sym, arith, ◌⊎◌, inl, inr, ◌-◌}
use Rattle.std.specs.Prelude.{filter, option_map, not, nat_le, is_none, ◌&&◌, ◌||◌, ◌==◌, ◌^◌, ◌/◌}
use Rattle.std.specs.List.{list_all}
use Rattle.net_addr.specs.Addresses.{addr_eq, is_v4, number, with_number, same_version}
use Rattle.net_addr.specs.Prefixes.{is_host_of, Prefix, Span, Contains, IsPrefix, eui, eui_number, last_address, last_number, with_flipped_bit}
use Rattle.net_addr.specs.declared.address.Addr.{Addr}
use Rattle.net_addr.specs.declared.address.Addr.TheVariants.{V4, V6}
use Rattle.api_types.specs.Ident.{Ident}
use Rattle.api_types.specs.Lists.{Each, Pass, if_some, is_some_so}
use Rattle.api_types.specs.Table.{ident_eq}
use Rattle.api_types.specs.declared.port.Fixed.{Fixed}
use Rattle.api_types.specs.declared.subnet.SubnetRow.{SubnetRow}
use Rattle.std.specs.Option.{option_or}
use Rattle.std.proofs.lemmas.Bool.Decides.{Decides-eqb}
use Rattle.net_addr.proofs.AddrLemmas.{addr_itself}
use Rattle.net_addr.proofs.PrefixLemmas.{IsBelowTop, eui_contained, host_decides, last_above, number_kept, version_kept, version_on, version_turned}
use Rattle.api_types.specs.Consistent.InForm.{are_modes, are_versions, is_eui, is_pool, is_subnet_form, makes_eui, mode_eq, all_apart}
use Rattle.api_types.specs.declared.subnet.Ipv6Mode.{Ipv6Mode}
use Rattle.api_types.proofs.ListLemmas.{and_both, at_filter, both_and, false_true, none_some, or_true, some_equal}
use Rattle.api_types.proofs.NameLemmas.{not_true}
use Rattle.api_ipam.specs.Addresses.{least_free_address, least_within}
use Rattle.api_types.specs.Least.{least_from}
use Rattle.api_ipam.specs.FixedChoice.{eui_fixed, first_free}
use Rattle.api_types.specs.HeldAddresses.{fixed_at, subnets_on}
use Rattle.api_ipam.specs.MacChoice.{first_mac}
use Rattle.kept_laws.proofs.CallLemmas.{mapped}
use Rattle.kept_laws.proofs.ChoiceLemmas.{lesser_one, pool_passes}
use Rattle.kept_laws.proofs.ServiceMade.{from_bounds}

-- pool addresses

below : (x : Addr) (n m top : ℕ) → n ≤ m → IsBelowTop x m top → IsBelowTop x n top
below (V4 k) n m top less h = omega (arith, less, h)
below (V6 k) n m top less h = omega (arith, less, h)

-- between two host addresses are host addresses
pub between_hosts : (p : Prefix) → IsPrefix p → (first last : Addr) → is_host_of p first ≡ true → is_host_of p last ≡ true → (n : ℕ) → number first ≤ n → n ≤ number last → is_host_of p (with_number first n) ≡ true
between_hosts p is first last h g n low high =
    let a = (host_decides p first is).0 h in
    let b = (host_decides p last is).0 g in
    let same = number_kept first n in
    (host_decides p (with_number first n) is).1 (
      version_on first p.base (with_number first n) (version_turned p.base first a.0) (version_kept first n),
      omega (arith, same, low, a.1),
      omega (arith, same, high, b.2),
      below p.base (number (with_number first n)) (number last) (last_number p) (omega (arith, same, high)) b.3,
    )

within_is : (free : Addr → Bool) (s : Span) (x : Addr) → least_within free s ≡ Some x → (n : ℕ) × (with_number s.first n ≡ x) × (number s.first ≤ n) × (n ≤ number s.last)
within_is free s x h =
    let found = mapped (with_number s.first) (least_from (λ n. free (with_number s.first n)) (number s.first) (number s.last + 1 - number s.first)) x h in
    let bounds = from_bounds (λ n. free (with_number s.first n)) (number s.last + 1 - number s.first) (number s.first) found.0 found.1 in
    (found.0, found.2, bounds.0, omega (arith, bounds.0, bounds.1))

pub pool_host : (p : Prefix) → IsPrefix p → (free : Addr → Bool) (pools : List Span) (x : Addr) → list_all (λ (s : Span). is_host_of p s.first && is_host_of p s.last) pools ≡ true → least_free_address free pools ≡ Some x → is_host_of p x ≡ true
pool_host p is free [] x all h = none_some x _ h
pool_host p is free (s ∷ pools) x all h =
    let both = and_both (is_host_of p s.first && is_host_of p s.last) _ all in
    by both.0 (lesser_one (least_within free s) (least_free_address free pools) x h) (pool_host p is free pools x both.1)
  where
    by : is_host_of p s.first && is_host_of p s.last ≡ true → (least_within free s ≡ Some x) ⊎ (least_free_address free pools ≡ Some x) → (least_free_address free pools ≡ Some x → is_host_of p x ≡ true) → is_host_of p x ≡ true
    by hosts (inl here) rest =
        let ends = and_both (is_host_of p s.first) (is_host_of p s.last) hosts in
        let w = within_is free s x here in
        ap (is_host_of p) (sym w.1) ∙ between_hosts p is s.first s.last ends.0 ends.1 w.0 w.2 w.3
    by hosts (inr there) rest = rest there

-- what is asked of a subnet's form

pub record IsFormed (s : SubnetRow) : Type 0 where
  pub modes : are_modes s ≡ true
  pub pools : list_all (is_pool s) s.pools ≡ true

pub formed : (s : SubnetRow) → is_subnet_form s ≡ true → IsFormed s
formed s h =
    let a = and_both _ (nat_le (length s.host_routes) 20) h in
    let b = and_both _ (nat_le (length s.dns) 5) a.0 in
    let c = and_both _ (nat_le (length s.pools) 20) b.0 in
    let d = and_both _ (all_apart s.pools) c.0 in
    let e = and_both _ (list_all (is_pool s) s.pools) d.0 in
    let f = and_both _ (if_some (is_host_of s.prefix) s.gateway) e.0 in
    let g = and_both _ (are_versions s) f.0 in
    let k = and_both _ (are_modes s) g.0 in
    record { modes = k.1; pools = e.1 }

hosts_of : (s : SubnetRow) (pools : List Span) → list_all (is_pool s) pools ≡ true → list_all (λ (t : Span). is_host_of s.prefix t.first && is_host_of s.prefix t.last) pools ≡ true
hosts_of s [] h = refl
hosts_of s (t ∷ pools) h =
    let both = and_both (is_pool s t) (list_all (is_pool s) pools) h in
    both_and (is_host_of s.prefix t.first && is_host_of s.prefix t.last) _ (and_both (is_host_of s.prefix t.first && is_host_of s.prefix t.last) _ both.0).0 (hosts_of s pools both.1)

-- a subnet whose ports make their addresses is of version 6 and has 64 bits
pub eui_is : (s : SubnetRow) → are_modes s ≡ true → is_eui s ≡ true → (is_v4 s.prefix.base ≡ false) × (s.prefix.len ≡ 64)
eui_is s h eui =
    let last = and_both _ (not (is_eui s) || (s.prefix.len == 64)) h in
    let first = and_both ((is_none s.address_mode && is_none s.ra_mode) || (not (is_v4 s.prefix.base) && s.dhcp)) (if_some (λ a. if_some (mode_eq a) s.ra_mode) s.address_mode) last.0 in
    let long : (s.prefix.len == 64) ≡ true = sym (ap (λ b. not b || (s.prefix.len == 64)) eui) ∙ last.1 in
    (six s.address_mode eui first.0, (Decides-eqb s.prefix.len 64).0 long)
  where
    six : (o : Option Ipv6Mode) → is_some_so makes_eui o ≡ true → (is_none o && is_none s.ra_mode) || (not (is_v4 s.prefix.base) && s.dhcp) ≡ true → is_v4 s.prefix.base ≡ false
    six None e g = false_true _ e
    six (Some m) e g = not_true (is_v4 s.prefix.base) (and_both (not (is_v4 s.prefix.base)) s.dhcp g).0

eui_small : (mac : ℕ) → first_mac ≤ mac → mac < first_mac + 2 ^ 24 → (0 < eui_number mac) × (eui_number mac < 2 ^ 64)
unfolding eui_number
eui_small mac low high =
    let byte : mac / 2 ^ 40 ≡ 250 = omega (arith, low, high) in
    let top : with_flipped_bit (mac / 2 ^ 40) ≡ 248 = ap with_flipped_bit byte in
    (omega (arith, top), omega (arith, top))

pub eui_host : (s : SubnetRow) (mac : ℕ) → IsPrefix s.prefix → are_modes s ≡ true → is_eui s ≡ true → first_mac ≤ mac → mac < first_mac + 2 ^ 24 → is_host_of s.prefix (eui s.prefix mac) ≡ true
unfolding eui last_address
eui_host s mac is modes makes low high =
    let p : Prefix = s.prefix in
    let six = eui_is s modes makes in
    let small = eui_small mac low high in
    let x : Addr = with_number p.base (number p.base + eui_number mac) in
    let inside : Contains p x = eui_contained p (eui_number mac) is six.0 six.1 small.1 in
    let same = number_kept p.base (number p.base + eui_number mac) in
    let last = number_kept p.base (last_number p) in
    let top = last_above p x is inside in
    (host_decides p x is).1 (inside.0, omega (arith, same, small.0), omega (arith, last, top), six_top p.base (number x) (last_number p) six.0 (omega (arith, last, top)))
  where
    six_top : (x : Addr) (n top : ℕ) → is_v4 x ≡ false → n ≤ top → IsBelowTop x n top
    six_top (V4 k) n top six h = false_true _ (sym six)
    six_top (V6 k) n top six h = h

-- an address that is chosen in a subnet of a network

pub record IsChosen (subnets : List SubnetRow) (network : Ident) (held : Addr → Bool) (mac : ℕ) (f : Fixed) : Type 0 where
  pub place : ℕ
  pub subnet : SubnetRow
  pub at : slice_get subnets place ≡ Some subnet
  pub on : ident_eq network subnet.network ≡ true
  pub names : f.subnet ≡ subnet.id
  pub host : is_host_of subnet.prefix f.address ≡ true
  pub own : not (is_eui subnet) || addr_eq f.address (eui subnet.prefix mac) ≡ true
  pub free : held f.address ≡ false

-- a host address is of its prefix's version
pub host_version : (p : Prefix) (x : Addr) → IsPrefix p → is_host_of p x ≡ true → is_v4 x ≡ is_v4 p.base
host_version p x is h = by p.base x ((host_decides p x is).0 h).0
  where
    by : (a b : Addr) → same_version a b ≡ true → is_v4 b ≡ is_v4 a
    by (V4 m) (V4 n) e = refl
    by (V6 m) (V6 n) e = refl
    by (V4 m) (V6 n) e = false_true _ e
    by (V6 m) (V4 n) e = false_true _ e

first_is : (free : Addr → Bool) (ss : List SubnetRow) (f : Fixed) → first_free free ss ≡ Some f → (k : ℕ) × (s : SubnetRow) × (x : Addr) × (slice_get ss k ≡ Some s) × (least_free_address free s.pools ≡ Some x) × (fixed_at s.id x ≡ f)
first_is free [] f h = none_some f _ h
first_is free (s ∷ ss) f h = by (least_free_address free s.pools) refl h (first_is free ss f)
  where
    by : (o : Option Addr) → least_free_address free s.pools ≡ o → option_or (option_map (fixed_at s.id) o) (first_free free ss) ≡ Some f
        → (first_free free ss ≡ Some f → (k : ℕ) × (t : SubnetRow) × (x : Addr) × (slice_get ss k ≡ Some t) × (least_free_address free t.pools ≡ Some x) × (fixed_at t.id x ≡ f))
        → (k : ℕ) × (t : SubnetRow) × (x : Addr) × (slice_get (s ∷ ss) k ≡ Some t) × (least_free_address free t.pools ≡ Some x) × (fixed_at t.id x ≡ f)
    by (Some x) is h rest = (0, s, x, refl, is, some_equal (fixed_at s.id x) f h)
    by None is h rest = let r = rest h in (suc r.0, r.1, r.2, r.3, r.4, r.5)

module _ (subnets : List SubnetRow) (prefixes : Each (λ (s : SubnetRow). IsPrefix s.prefix) subnets) (forms : Pass is_subnet_form subnets) (network : Ident) (held : Addr → Bool) (mac : ℕ) where
  -- of the subnets of the network that pass a test, which those with addresses of MAC addresses don't
  pub pool_chosen : (test : SubnetRow → Bool) → ((s : SubnetRow) → test s ≡ true → is_eui s ≡ false) → (f : Fixed) → first_free (λ x. not (held x)) (filter test (subnets_on subnets network)) ≡ Some f
      → (is : IsChosen subnets network held mac f) × (test is.subnet ≡ true)
  pool_chosen test plain f h =
      let found = first_is (λ x. not (held x)) (filter test (subnets_on subnets network)) f h in
      let s : SubnetRow = found.1 in
      let x : Addr = found.2 in
      let passes = at_filter test (subnets_on subnets network) found.0 s found.3 in
      let here = at_filter (λ (t : SubnetRow). ident_eq network t.network) subnets passes.0 s passes.1 in
      let form = formed s (forms here.0 s here.1) in
      let host = pool_host s.prefix (prefixes here.0 s here.1) (λ y. not (held y)) s.pools x (hosts_of s s.pools form.pools) found.4 in
      let same : x ≡ f.address = ap (λ (g : Fixed). g.address) found.5 in
      let is : IsChosen subnets network held mac f = record {
        place = here.0;
        subnet = s;
        at = here.1;
        on = here.2;
        names = sym (ap (λ (g : Fixed). g.subnet) found.5);
        host = ap (is_host_of s.prefix) (sym same) ∙ host;
        own = ap (λ b. not b || addr_eq f.address (eui s.prefix mac)) (plain s passes.2);
        free = ap held (sym same) ∙ not_true (held x) (pool_passes (λ y. not (held y)) s.pools x found.4);
      } in
      (is, passes.2)

  pub eui_chosen : first_mac ≤ mac → mac < first_mac + 2 ^ 24 → (k : ℕ) (s : SubnetRow) → slice_get (subnets_on subnets network) k ≡ Some s → is_eui s ≡ true → held (eui s.prefix mac) ≡ false
      → (is : IsChosen subnets network held mac (eui_fixed mac s)) × (is_v4 is.subnet.prefix.base ≡ false)
  eui_chosen low high k s at makes free =
      let here = at_filter (λ (t : SubnetRow). ident_eq network t.network) subnets k s at in
      let form = formed s (forms here.0 s here.1) in
      let is : IsChosen subnets network held mac (eui_fixed mac s) = record {
        place = here.0;
        subnet = s;
        at = here.1;
        on = here.2;
        names = refl;
        host = eui_host s mac (prefixes here.0 s here.1) form.modes makes low high;
        own = ap (λ b. not (is_eui s) || b) (addr_itself (eui s.prefix mac)) ∙ or_true (not (is_eui s));
        free = free;
      } in
      (is, (eui_is s form.modes makes).0)
