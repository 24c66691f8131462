-- Chosen addresses are host addresses of their subnet: those of pools, and those that MAC addresses give. Chosen MAC addresses are unicast ones.
use Rattle.std.proofs.Common.{Bool, List, None, Option, Some, [], ap, arith, false, inl, inr, not, refl, subst, suc, sym, true, zero, ℕ, ◌%◌, ◌*◌, ◌+◌, ◌-◌, ◌/◌, ◌<◌, ◌^◌, ◌∙◌, ◌∷◌, ◌≡◌, ◌≤◌, ◌⊎◌}
use Rattle.std.specs.Prelude.{if◌then◌else◌, nat_lt, option_map, ◌&&◌, ◌==◌, ◌||◌}
use Rattle.std.proofs.lemmas.Bool.Decides.{nat_tests}
use Rattle.std.specs.List.{list_all}
use Rattle.net_addr.proofs.AddrLemmas.{addr_same}
use Rattle.net_addr.proofs.PrefixLemmas.{IsBelowTop, eui_contained, host_decides, number_decides, number_kept, shared_numbers, version_kept, version_on, version_turned}
use Rattle.net_addr.specs.Addresses.{addr_eq, is_v4, number, with_number, same_version}
use Rattle.net_addr.specs.Macs.{is_unicast}
use Rattle.net_addr.specs.Prefixes.{Contains, IsPrefix, Prefix, Span, bits_behind, contains, eui, eui_number, is_host_of, last_number, overlaps, with_flipped_bit}
use Rattle.net_addr.specs.declared.address.Addr.{Addr}
use Rattle.net_addr.specs.declared.address.Addr.TheVariants.{V4, V6}
use Rattle.api_types.specs.Consistent.{IsConsistent}
use Rattle.api_types.specs.Consistent.Hosts.{is_host_in, is_own_address}
use Rattle.api_types.specs.Consistent.InForm.{is_pool}
use Rattle.api_types.specs.Consistent.Named.{names_subnet}
use Rattle.api_types.specs.Ident.{Ident}
use Rattle.api_types.specs.Lists.{Each}
use Rattle.api_types.specs.RowLists.{RowLists}
use Rattle.api_types.specs.Table.{ident_eq}
use Rattle.api_types.specs.declared.port.Fixed.{Fixed}
use Rattle.api_types.specs.declared.port.PortRow.{PortRow}
use Rattle.api_types.specs.declared.subnet.SubnetRow.{SubnetRow}
use Rattle.api_types.proofs.ListLemmas.{and_both, any-at, any-none, both_and, both_of, false_true, none_some, or_false, or_true, some_equal}
use Rattle.api_types.proofs.NameLemmas.{all-at, by_test, ident_same, not_true}
use Rattle.kept_laws.proofs.ChoiceLemmas.{from_passes, lesser_one}
use Rattle.api_ipam.specs.Addresses.{least_free_address, least_within}
use Rattle.api_types.specs.Least.{least_from}
use Rattle.api_types.specs.HeldAddresses.{holds_address, is_address_held, is_mac_held}
use Rattle.api_ipam.specs.MacChoice.{first_mac, free_mac}

pub from_bounds : (test : ℕ → Bool) (many first x : ℕ) → least_from test first many ≡ Some x → (first ≤ x) × (x < first + many)
unfolding least_from
from_bounds test zero first x h = none_some x _ h
from_bounds test (suc many) first x h = by (test first) h (from_bounds test many (first + 1) x)
  where
    by : (b : Bool) → (elim b [ true ↦ Some first | false ↦ least_from test (first + 1) many ]) ≡ Some x
        → (least_from test (first + 1) many ≡ Some x → (first + 1 ≤ x) × (x < first + 1 + many)) → (first ≤ x) × (x < first + suc many)
    by true h rest = let e = some_equal first x h in (omega (arith, e), omega (arith, e))
    by false h rest = let r = rest h in (omega (arith, r.0), omega (arith, r.1))

-- an address of a span, by its number
pub within_bounds : (free : Addr → Bool) (s : Span) (x : Addr) → least_within free s ≡ Some x → (same_version s.first x ≡ true) × (number s.first ≤ number x) × (number x ≤ number s.last)
within_bounds free s x h = by (least_from (λ n. free (with_number s.first n)) (number s.first) (number s.last + 1 - number s.first)) refl h
  where
    by : (o : Option ℕ) → least_from (λ n. free (with_number s.first n)) (number s.first) (number s.last + 1 - number s.first) ≡ o → option_map (with_number s.first) o ≡ Some x
        → (same_version s.first x ≡ true) × (number s.first ≤ number x) × (number x ≤ number s.last)
    by None is h = none_some x _ h
    by (Some n) is h =
        let e = some_equal (with_number s.first n) x h in
        let r = from_bounds (λ m. free (with_number s.first m)) (number s.last + 1 - number s.first) (number s.first) n is in
        let has : number x ≡ n = ap number (sym e) ∙ number_kept s.first n in
        (ap (same_version s.first) (sym e) ∙ version_kept s.first n, omega (arith, has, r.0), omega (arith, has, r.0, r.1))

-- what lies between two host addresses is one
pub host_between : (p : Prefix) (a b x : Addr) → IsPrefix p → is_host_of p a ≡ true → is_host_of p b ≡ true → same_version a x ≡ true → number a ≤ number x → number x ≤ number b → is_host_of p x ≡ true
host_between p a b x is ha hb version low high =
    let first = (host_decides p a is).0 ha in
    let last = (host_decides p b is).0 hb in
    (host_decides p x is).1 (
      version_on a p.base x (version_turned p.base a first.0) version,
      omega (arith, first.1, low),
      omega (arith, last.2, high),
      below p.base (number x) (number b) (last_number p) high last.3,
    )
  where
    below : (base : Addr) (n m top : ℕ) → n ≤ m → IsBelowTop base m top → IsBelowTop base n top
    below (V4 i) n m top h l = omega (arith, h, l)
    below (V6 i) n m top h l = omega (arith, h, l)

-- a chosen pool address is a host address
pub pool_host : (s : SubnetRow) (free : Addr → Bool) (pools : List Span) (x : Addr) → IsPrefix s.prefix → list_all (is_pool s) pools ≡ true → least_free_address free pools ≡ Some x
    → is_host_of s.prefix x ≡ true
pool_host s free [] x is all h = none_some x _ h
pool_host s free (pool ∷ pools) x is all h =
    let both = and_both (is_pool s pool) (list_all (is_pool s) pools) all in
    let ends = and_both (is_host_of s.prefix pool.first) (is_host_of s.prefix pool.last) (and_both _ _ both.0).0 in
    by ends.0 ends.1 (lesser_one (least_within free pool) (least_free_address free pools) x h) (pool_host s free pools x is both.1)
  where
    by : is_host_of s.prefix pool.first ≡ true → is_host_of s.prefix pool.last ≡ true → (least_within free pool ≡ Some x) ⊎ (least_free_address free pools ≡ Some x)
        → (least_free_address free pools ≡ Some x → is_host_of s.prefix x ≡ true) → is_host_of s.prefix x ≡ true
    by a b (inl here) rest = let w = within_bounds free pool x here in host_between s.prefix pool.first pool.last x is a b w.0 w.1 w.2
    by a b (inr there) rest = rest there

-- a generated MAC address is unicast, has 48 bits, and is held by no port of the network
pub record IsFreeMac (ports : List PortRow) (network : Ident) (mac : ℕ) : Type 0 where
  pub unicast : is_unicast mac ≡ true
  pub small : mac < 2 ^ 48
  pub free : is_mac_held ports network mac ≡ false

pub free_mac_is : (ports : List PortRow) (network : Ident) (mac : ℕ) → free_mac ports network ≡ Some mac → IsFreeMac ports network mac
unfolding is_unicast
free_mac_is ports network mac h =
    let b = from_bounds (λ m. not (is_mac_held ports network m)) (2 ^ 24) first_mac mac h in
    let low : 0xfa16_3e00_0000 ≤ mac = b.0 in
    let high : mac < 0xfa16_3e00_0000 + 2 ^ 24 = b.1 in
    let quotient : mac / 2 ^ 40 ≡ 250 = omega (arith, low, high) in
    record {
      unicast = both_and (nat_lt 0 mac) _ (grind (arith, nat_tests, low)) (ap (λ q. q % 2 == 0) quotient);
      small = omega (arith, high);
      free = not_true (is_mac_held ports network mac) (from_passes (λ m. not (is_mac_held ports network m)) (2 ^ 24) first_mac mac h);
    }

-- tests of prefixes

pub contains_is : (p : Prefix) (x : Addr) → contains p x ≡ true → Contains p x
unfolding contains
contains_is p x h =
    let both = and_both (same_version p.base x) _ h in
    (both.0, (number_decides (number x / 2 ^ bits_behind p) (number p.base / 2 ^ bits_behind p)).0 both.1)

pub is_contained : (p : Prefix) (x : Addr) → Contains p x → contains p x ≡ true
unfolding contains
is_contained p x h = both_and (same_version p.base x) _ h.0 ((number_decides (number x / 2 ^ bits_behind p) (number p.base / 2 ^ bits_behind p)).1 h.1)

pub host_contained : (p : Prefix) (x : Addr) → is_host_of p x ≡ true → contains p x ≡ true
unfolding is_host_of
host_contained p x h = (and_both (contains p x) (not (number x == number p.base)) (and_both _ (not (is_v4 p.base && (number x == last_number p))) h).0).0

-- two prefixes that contain an address overlap, and whether they do is the same both ways
pub overlap_shared : (p q : Prefix) (x : Addr) → contains p x ≡ true → contains q x ≡ true → overlaps p q ≡ true
unfolding overlaps
overlap_shared p q x hp hq = by (shared_numbers p q x (contains_is p x hp) (contains_is q x hq))
  where
    by : Contains p q.base ⊎ Contains q p.base → contains p q.base || contains q p.base ≡ true
    by (inl h) = ap (λ b. b || contains q p.base) (is_contained p q.base h)
    by (inr h) = ap (λ b. contains p q.base || b) (is_contained q p.base h) ∙ or_true (contains p q.base)

pub overlaps_turned : (p q : Prefix) → overlaps p q ≡ overlaps q p
unfolding overlaps
overlaps_turned p q = by (contains p q.base) (contains q p.base)
  where
    by : (a b : Bool) → a || b ≡ b || a
    by true b = sym (or_true b)
    by false b = sym (or_false b)

-- the address that a MAC address gives

turned_small : (b : ℕ) → b < 256 → with_flipped_bit b < 256
turned_small b small = by (b / 2 % 2 == 0) refl
  where
    by : (t : Bool) → (b / 2 % 2 == 0) ≡ t → (if t then b + 2 else b - 2) < 256
    by true e = let even : b / 2 % 2 ≡ 0 = (number_decides (b / 2 % 2) 0).0 e in omega (arith, small, even)
    by false e = omega (arith, small)

pub eui_bounds : (mac : ℕ) → mac < 2 ^ 48 → (0 < eui_number mac) × (eui_number mac < 2 ^ 64)
unfolding eui_number
eui_bounds mac small =
    let byte : mac / 2 ^ 40 < 256 = omega (arith, small) in
    let t : with_flipped_bit (mac / 2 ^ 40) < 256 = turned_small (mac / 2 ^ 40) byte in
    let m : mac / 2 ^ 24 % 2 ^ 16 < 2 ^ 16 = omega arith in
    let l : mac % 2 ^ 24 < 2 ^ 24 = omega arith in
    (omega arith, bounds (with_flipped_bit (mac / 2 ^ 40)) (mac / 2 ^ 24 % 2 ^ 16) (mac % 2 ^ 24) t m l)
  where
    bounds : (a b d : ℕ) → a < 256 → b < 2 ^ 16 → d < 2 ^ 24 → a * 2 ^ 56 + b * 2 ^ 40 + 255 * 2 ^ 32 + 254 * 2 ^ 24 + d < 2 ^ 64
    bounds a b d ha hb hd = omega (arith, ha, hb, hd)

pub eui_host : (p : Prefix) (mac : ℕ) → IsPrefix p → is_v4 p.base ≡ false → p.len ≡ 64 → mac < 2 ^ 48 → is_host_of p (eui p mac) ≡ true
unfolding is_host_of eui
eui_host p mac is six long small =
    let bounds = eui_bounds mac small in
    let inside = is_contained p (with_number p.base (number p.base + eui_number mac)) (eui_contained p (eui_number mac) is six long bounds.1) in
    let above : number (with_number p.base (number p.base + eui_number mac)) == number p.base ≡ false =
    ap (λ n. n == number p.base) (number_kept p.base (number p.base + eui_number mac)) ∙ unequal (number p.base) (eui_number mac) bounds.0 in
    both_and _ _ (both_and _ _ inside (ap not above)) (ap (λ b. not (b && (number (with_number p.base (number p.base + eui_number mac)) == last_number p))) six)
  where
    unequal : (a b : ℕ) → 0 < b → (a + b == a) ≡ false
    unequal a b h = grind (arith, nat_tests, h)

-- an address of a prefix that overlaps no subnet of the network is held by no port there
pub unheld_there : (rows : RowLists) (network : Ident) (prefix : Prefix) (x : Addr) → IsConsistent rows → contains prefix x ≡ true
    → Each (λ t. ident_eq network t.network ≡ true → overlaps prefix t.prefix ≡ false) rows.subnets → is_address_held rows.ports network x ≡ false
unheld_there rows network prefix x c inside apart = any-none (holds_address network x) rows.ports (λ k q at. by_test (holds_address network x q) (holds_address network x q ≡ false)
    (λ holds.
    let both = and_both (ident_eq network q.network) _ holds in
    let found = any-at (λ (f : Fixed). addr_eq f.address x) q.fixed both.1 in
    let f : Fixed = found.1 in
    let joined = both_of (λ (t : SubnetRow). ident_eq f.subnet t.id) (λ t. ident_eq t.network q.network) (λ t. is_host_of t.prefix f.address && is_own_address q f.address t) rows.subnets (omega (arith, c.numbered.ids f.subnet))
    (all-at (names_subnet rows.subnets q) q.fixed (c.named.subnets.of_ports k q at) found.0 f found.2)
    (all-at (is_host_in rows.subnets q) q.fixed (c.hosts.addresses k q at) found.0 f found.2) in
    let row = any-at (λ (t : SubnetRow). ident_eq f.subnet t.id && (ident_eq t.network q.network && (is_host_of t.prefix f.address && is_own_address q f.address t))) rows.subnets joined in
    let t : SubnetRow = row.1 in
    let parts = and_both (ident_eq t.network q.network) _ (and_both (ident_eq f.subnet t.id) _ row.3).1 in
    let host = (and_both (is_host_of t.prefix f.address) _ parts.1).0 in
    let there : ident_eq network t.network ≡ true = subst (λ i. ident_eq network i ≡ true) (sym (ident_same t.network q.network parts.0)) both.0 in
    let shared = overlap_shared prefix t.prefix x inside (subst (λ y. contains t.prefix y ≡ true) (addr_same f.address x found.3) (host_contained t.prefix f.address host)) in
    false_true _ (sym (apart row.0 t row.2 there) ∙ shared))
    (λ fails. fails))
