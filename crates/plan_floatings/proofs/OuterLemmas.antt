-- The address that a new floating address takes is of version 4.
use Rattle.std.proofs.Common.{◌≡◌, ◌∙◌, ℕ, suc, ◌+◌, ◌-◌, Bool, true, false, List, [], ◌∷◌, Option, Some, None, ap, refl, sym}
use Rattle.std.specs.Prelude.{filter, if◌then◌else◌, option_map, not, ◌&&◌, ◌==◌}
use Rattle.std.specs.List.{list_all}
use Rattle.std.specs.Option.{option_or}
use Rattle.net_addr.specs.Addresses.{is_v4, number, with_number, same_version}
use Rattle.net_addr.specs.Prefixes.{Prefix, Span, contains, is_host_of, last_number}
use Rattle.net_addr.specs.declared.address.Addr.{Addr}
use Rattle.net_addr.specs.declared.address.Addr.TheVariants.{V4, V6}
use Rattle.api_ipam.specs.Addresses.{least_free_address, least_within, lesser}
use Rattle.api_ipam.specs.FixedChoice.{first_free, is_pool_four}
use Rattle.api_types.specs.Consistent.{IsConsistent}
use Rattle.api_types.specs.Consistent.InForm.{all_apart, is_eui, is_pool, is_subnet_form}
use Rattle.api_types.specs.HeldAddresses.{fixed_at, is_address_held, subnets_on}
use Rattle.api_types.specs.Ident.{Ident}
use Rattle.api_types.specs.Least.{least_from}
use Rattle.api_types.specs.Lists.{Each}
use Rattle.api_types.specs.RowLists.{RowLists}
use Rattle.api_types.specs.Table.{ident_eq}
use Rattle.api_types.specs.declared.port.Fixed.{Fixed}
use Rattle.api_types.specs.declared.subnet.SubnetRow.{SubnetRow}
use Rattle.api_types.proofs.ListLemmas.{and_both, at_filter, false_true, none_some, some_equal}
use Rattle.plan_floatings.specs.FloatingCalls.{outer_address}
use Rattle.plan_floatings.specs.FloatingRules.{subnet_with}

mapped : {X Y : Type 0} (f : X → Y) (o : Option X) (y : Y) → option_map f o ≡ Some y → (x : X) × (f x ≡ y)
mapped f None y h = none_some y _ h
mapped f (Some x) y h = (x, some_equal (f x) y h)

-- a host address is of its prefix's version
host_four : (p : Prefix) (x : Addr) → is_v4 p.base ≡ true → is_host_of p x ≡ true → is_v4 x ≡ true
unfolding is_host_of contains
host_four p x four host =
    let inside = and_both (contains p x && not (number x == number p.base)) (not (is_v4 p.base && (number x == last_number p))) host in
    let within = and_both (contains p x) (not (number x == number p.base)) inside.0 in
    by p.base x four (and_both (same_version p.base x) _ within.0).0
  where
    by : (a b : Addr) → is_v4 a ≡ true → same_version a b ≡ true → is_v4 b ≡ true
    by (V4 m) (V4 n) f s = refl
    by (V4 m) (V6 n) f s = s
    by (V6 m) b f s = false_true _ f

renumbered_four : (x : Addr) (n : ℕ) → is_v4 x ≡ true → is_v4 (with_number x n) ≡ true
renumbered_four (V4 m) n h = refl
renumbered_four (V6 m) n h = h

within_four : (free : Addr → Bool) (s : Span) (x : Addr) → is_v4 s.first ≡ true → least_within free s ≡ Some x → is_v4 x ≡ true
within_four free s x four h =
    let found = mapped (with_number s.first) (least_from (λ n. free (with_number s.first n)) (number s.first) (number s.last + 1 - number s.first)) x h in
    ap is_v4 (sym found.1) ∙ renumbered_four s.first found.0 four

-- the least of the pools' addresses is of their version
pools_four : (s : SubnetRow) (free : Addr → Bool) (pools : List Span) (x : Addr) → is_v4 s.prefix.base ≡ true → list_all (is_pool s) pools ≡ true → least_free_address free pools ≡ Some x → is_v4 x ≡ true
pools_four s free [] x four all h = none_some x _ h
pools_four s free (pool ∷ pools) x four all h =
    let both = and_both (is_pool s pool) (list_all (is_pool s) pools) all in
    let first = and_both (is_host_of s.prefix pool.first && is_host_of s.prefix pool.last) _ both.0 in
    let ends = and_both (is_host_of s.prefix pool.first) (is_host_of s.prefix pool.last) first.0 in
    by (least_within free pool) (least_free_address free pools) h
    (within_four free pool x (host_four s.prefix pool.first four ends.0))
    (pools_four s free pools x four both.1)
  where
    by : (a b : Option Addr) → lesser a b ≡ Some x → (a ≡ Some x → is_v4 x ≡ true) → (b ≡ Some x → is_v4 x ≡ true) → is_v4 x ≡ true
    by None b h one two = two h
    by (Some y) None h one two = one h
    by (Some y) (Some z) h one two = either _ h
      where
        either : (c : Bool) → Some (if c then z else y) ≡ Some x → is_v4 x ≡ true
        either true h = two h
        either false h = one h

abbrev IsFour : SubnetRow → Type 0
IsFour s = (is_v4 s.prefix.base ≡ true) × (list_all (is_pool s) s.pools ≡ true)

first_four : (free : Addr → Bool) (ss : List SubnetRow) (f : Fixed) → Each IsFour ss → first_free free ss ≡ Some f → is_v4 f.address ≡ true
first_four free [] f all h = none_some f _ h
first_four free (s ∷ ss) f all h = by (least_free_address free s.pools) refl h (first_four free ss f (λ k t at. all (suc k) t at))
  where
    by : (o : Option Addr) → least_free_address free s.pools ≡ o → option_or (option_map (fixed_at s.id) o) (first_free free ss) ≡ Some f → (first_free free ss ≡ Some f → is_v4 f.address ≡ true) → is_v4 f.address ≡ true
    by None is h rest = rest h
    by (Some x) is h rest = ap (λ (g : Fixed). is_v4 g.address) (sym (some_equal (fixed_at s.id x) f h)) ∙ pools_four s free s.pools x (all 0 s refl).0 (all 0 s refl).1 is

-- a subnet's pools are in form
pools_formed : (s : SubnetRow) → is_subnet_form s ≡ true → list_all (is_pool s) s.pools ≡ true
pools_formed s h =
    let a = and_both _ _ h in
    let b = and_both _ _ a.0 in
    let c = and_both _ _ b.0 in
    let d = and_both _ (all_apart s.pools) c.0 in
    (and_both _ (list_all (is_pool s) s.pools) d.0).1

pub outer_four : (rows : RowLists) (network : Ident) (address : Option ℕ) (outer : Fixed) → IsConsistent rows → outer_address rows network address ≡ Some outer → is_v4 outer.address ≡ true
outer_four rows network None outer c h = first_four (λ x. not (is_address_held rows.ports network x)) (filter is_pool_four (subnets_on rows.subnets network)) outer each h
  where
    each : Each IsFour (filter is_pool_four (subnets_on rows.subnets network))
    each k s at =
        let pool = at_filter is_pool_four (subnets_on rows.subnets network) k s at in
        let on = at_filter (λ (t : SubnetRow). ident_eq network t.network) rows.subnets pool.0 s pool.1 in
        ((and_both (is_v4 s.prefix.base) (not (is_eui s)) pool.2).0, pools_formed s (c.in_form.subnet_forms on.0 s on.1))
outer_four rows network (Some x) outer c h =
    let found = mapped (λ (s : SubnetRow). fixed_at s.id (V4 x)) (subnet_with rows network (V4 x)) outer h in
    ap (λ (f : Fixed). is_v4 f.address) (sym found.1)
