-- At a number that isn't looked at, the lease of a port is as before.
use Rattle.std.proofs.Common.{◌≡◌, ◌∙◌, ℕ, zero, suc, ◌+◌, List, [], ◌∷◌, ◌++◌, Bool, true, false, Option, Some, None, length, slice_get, refl, ap, sym, subst, arith}
use Rattle.std.specs.Prelude.{◌&&◌, ◌||◌, if◌then◌else◌, is_some, nat_lt, option_and_then}
use Rattle.std.specs.List.{list_any}
use Rattle.std.proofs.lemmas.Bool.Decides.{nat_tests}
use Rattle.api_types.specs.Ident.{Ident}
use Rattle.api_types.specs.Live.{is_at, is_live}
use Rattle.api_types.specs.RowLists.{RowLists}
use Rattle.api_types.specs.RowsWith.{subnet_with}
use Rattle.api_types.specs.declared.change.Item.{Item}
use Rattle.api_types.specs.declared.port.Fixed.{Fixed}
use Rattle.api_types.specs.declared.port.PortRow.{PortRow}
use Rattle.api_types.proofs.ListLemmas.{any-none, false_true, none_some, or_none, or_true, some_equal}
use Rattle.api_types.proofs.NameLemmas.{by_test}
use Rattle.plane_types.specs.Keyed.{are_one}
use Rattle.plane_types.specs.TableRows.{lease_row, tag_of}
use Rattle.plane_types.specs.declared.table.TagRow.{TagRow}
use Rattle.table_edits.specs.EditsAt.{among}
use Rattle.table_edits.specs.NumbersSeen.{Renumbered, at_after, at_before}
use Rattle.table_edits.specs.Untouched.{SubnetStays}
use Rattle.touched_rows.specs.CanLive.{can_live}
use Rattle.touched_rows.specs.TouchedNumbers.{holds_in_any, numbers_from}
use Rattle.kept_rows.proofs.FoundLemmas.{place_of_number}
use Rattle.kept_rows.proofs.NumberLists.{none_any}
use Rattle.dhcp_delta.specs.Serving.{dhcp_here, is_dhcp_on, is_led, is_served, serves_any}
use Rattle.dhcp_delta.proofs.RowLemmas.{lease_stays, leased_alike, unserved}
use Rattle.dhcp_delta.proofs.ServerLemmas.{Stays, server_stays}

one_itself : (k m : ℕ) → k ≡ m → are_one nat_lt k m ≡ true
one_itself k m h = grind (arith, nat_tests, h)

-- what isn't among two lists one after the other is in neither
pub among_neither : (k : ℕ) (ms ns : List ℕ) → among nat_lt k (ms ++ ns) ≡ false
    → (among nat_lt k ms ≡ false) × (among nat_lt k ns ≡ false)
among_neither k [] ns h = (refl, h)
among_neither k (m ∷ ms) ns h =
    let first = or_none (are_one nat_lt k m) (among nat_lt k (ms ++ ns)) h in
    let rest = among_neither k ms ns first.1 in
    (ap (λ b. b || among nat_lt k ms) first.0 ∙ rest.0, rest.1)

module _ {R : Type 0} (test : R → Bool) where
  from_first : (n : ℕ) (rows : List R) (k : ℕ) (r : R) → slice_get rows k ≡ Some r
      → test r ≡ true → among nat_lt (n + k) (numbers_from test n rows) ≡ true
  from_first n [] k r at h = none_some r _ at
  from_first n (x ∷ rows) zero r at h =
      let passes : test x ≡ true = ap test (some_equal x r at) ∙ h in
      let here : n + 0 ≡ n = omega arith in
      ap (λ b. among nat_lt (n + 0) (if b then n ∷ numbers_from test (n + 1) rows else numbers_from test (n + 1) rows)) passes
      ∙ ap (λ b. b || among nat_lt (n + 0) (numbers_from test (n + 1) rows)) (one_itself (n + 0) n here)
  from_first n (x ∷ rows) (suc k) r at h =
      let next : n + 1 + k ≡ n + suc k = omega arith in
      let rest : among nat_lt (n + suc k) (numbers_from test (n + 1) rows) ≡ true = subst (λ m. among nat_lt m (numbers_from test (n + 1) rows) ≡ true) next (from_first (n + 1) rows k r at h) in
      go (test x) rest
    where
      go : (b : Bool) → among nat_lt (n + suc k) (numbers_from test (n + 1) rows) ≡ true → among nat_lt (n + suc k) (if b then n ∷ numbers_from test (n + 1) rows else numbers_from test (n + 1) rows) ≡ true
      go true rest = ap (λ b. are_one nat_lt (n + suc k) n || b) rest ∙ or_true (are_one nat_lt (n + suc k) n)
      go false rest = rest

  -- a row whose number isn't among those of the rows that pass fails
  not_among : (rows : List R) (k : ℕ) (r : R) → slice_get rows k ≡ Some r
      → among nat_lt k (numbers_from test 0 rows) ≡ false → test r ≡ false
  not_among rows k r at away = by_test (test r) (test r ≡ false)
      (λ passes.
      let start : 0 + k ≡ k = omega arith in
      false_true _ (sym away ∙ subst (λ m. among nat_lt m (numbers_from test 0 rows) ≡ true) start (from_first 0 rows k r at passes)))
      (λ fails. fails)

  -- none, if none passes
  pub no_numbers : ((r : R) → test r ≡ false) → (n : ℕ) (rows : List R) → numbers_from test n rows ≡ []
  no_numbers none n [] = refl
  no_numbers none n (r ∷ rows) = ap (λ b. if b then n ∷ numbers_from test (n + 1) rows else numbers_from test (n + 1) rows) (none r) ∙ no_numbers none (n + 1) rows

-- nothing is in a list of length 0
pub none_of_none : {X : Type 0} (test : X → Bool) (xs : List X) → length xs ≡ 0 → list_any test xs ≡ false
none_of_none test [] h = refl
none_of_none test (x ∷ xs) h = absurd (omega (arith, h))

-- no port is led by no network and no subnet
pub led_by_none : (served networks subnets : Ident → Bool) → ((i : Ident) → networks i ≡ false)
    → ((i : Ident) → subnets i ≡ false) → (p : PortRow) → is_led served networks subnets p ≡ false
led_by_none served networks subnets none_n none_s p =
    ap (λ b. (b || holds_in_any subnets p) && served p.network) (none_n p.network)
    ∙ ap (λ b. b && served p.network) (any-none (λ (f : Fixed). subnets f.subnet) p.fixed (λ k f at. none_s f.subnet))

-- a port that is no DHCP port of the network doesn't serve it
no_server : (rows : RowLists) (host : List ℕ) (n : Ident) (o : Option PortRow) → is_dhcp_on n o ≡ false
    → serves_any rows host n o ≡ false
no_server rows host n None h = refl
no_server rows host n (Some p) h = ap (λ b. b && is_live rows p && is_at host p) h

none_is : {X : Type 0} (o : Option X) → is_some o ≡ false → o ≡ None
none_is None h = refl
none_is (Some x) h = cc

module _ (before after : RowLists) (items : List Item) (ports : Renumbered PortRow) (touched : List ℕ)
    (s : Stays before after items ports touched) (host : List ℕ) (old new : List TagRow)
    (tag : (k : ℕ) (p : PortRow) → among nat_lt k touched ≡ false → at_before ports k ≡ Some p → can_live p ≡ true → tag_of old p.network ≡ tag_of new p.network)
    (networks subnets : Ident → Bool)
    (dhcp : (n : Ident) → networks n ≡ list_any (λ k. is_dhcp_on n (slice_get ports.rows k) || is_dhcp_on n (at_after ports k)) touched)
    (told : (i : Ident) → subnets i ≡ false → SubnetStays (subnet_with before i) (subnet_with after i)) where
  led : PortRow → Bool
  led = is_led (is_served before after host) networks subnets

  -- the server of a network without a touched DHCP port
  same_server : (n : Ident) → networks n ≡ false → dhcp_here before host n ≡ dhcp_here after host n
  same_server n none =
      let off : (k : ℕ) → among nat_lt k touched ≡ true → (is_dhcp_on n (slice_get ports.rows k) || is_dhcp_on n (at_after ports k)) ≡ false =
      λ k there. none_any (λ k. is_dhcp_on n (slice_get ports.rows k) || is_dhcp_on n (at_after ports k)) touched k (sym (dhcp n) ∙ none) there in
      server_stays before after items ports touched s host n
      (λ k there. ap (serves_any before host n) (place_of_number ports.rows k)
      ∙ no_server before host n (slice_get ports.rows k) (or_none (is_dhcp_on n (slice_get ports.rows k)) (is_dhcp_on n (at_after ports k)) (off k there)).0)
      (λ k there. no_server after host n (at_after ports k) (or_none (is_dhcp_on n (slice_get ports.rows k)) (is_dhcp_on n (at_after ports k)) (off k there)).1)

  at_port : (k : ℕ) (p : PortRow) → among nat_lt k touched ≡ false → at_before ports k ≡ Some p
      → led p ≡ false → lease_row before host old p ≡ lease_row after host new p
  unfolding led
  at_port k p off at fails = by_test (is_served before after host p.network) _
      (λ served.
      let away : (networks p.network || holds_in_any subnets p) ≡ false = unled (networks p.network || holds_in_any subnets p) (is_served before after host p.network) served fails in
      let parts = or_none (networks p.network) (holds_in_any subnets p) away in
      lease_stays before after host old new p (s.live k p off at) (tag k p off at) (same_server p.network parts.0)
      (λ d. leased_alike before after subnets d p told parts.1))
      (λ none.
      let parts = or_none (is_some (dhcp_here before host p.network)) (is_some (dhcp_here after host p.network)) none in
      unserved before after host old new p (none_is (dhcp_here before host p.network) parts.0) (none_is (dhcp_here after host p.network) parts.1))
    where
      unled : (a b : Bool) → b ≡ true → a && b ≡ false → a ≡ false
      unled true true e h = cc
      unled true false e h = cc
      unled false b e h = refl

  pub leases_stay : (k : ℕ) → among nat_lt k touched ≡ false
      → among nat_lt k (numbers_from (is_led (is_served before after host) networks subnets) 0 ports.rows) ≡ false
      → option_and_then (lease_row before host old) (at_before ports k)
      ≡ option_and_then (lease_row after host new) (at_after ports k)
  unfolding led
  leases_stay k off away =
      go (at_before ports k) refl ∙ ap (option_and_then (lease_row after host new)) (s.stay k off)
    where
      go : (o : Option PortRow) → at_before ports k ≡ o
          → option_and_then (lease_row before host old) o ≡ option_and_then (lease_row after host new) o
      go None at = refl
      go (Some p) at =
          at_port k p off at
          (not_among led ports.rows k p (sym (place_of_number ports.rows k) ∙ at) away)
