-- Hosts by their places, and the places of hosts.
use Rattle.std.proofs.Common.{◌≡◌, ◌∙◌, ◌⊎◌, inl, inr, ℕ, zero, suc, ◌+◌, ◌<◌, ◌≤◌, List, [], ◌∷◌, length, get_or, drop, drop-cons, Bool, true, false, cond, Option, Some, None, refl, ap, sym, subst, arith, Bor}
use Rattle.std.specs.Prelude.{MatchOption, find, if◌then◌else◌, option_copied, option_map, slice_get}
use Rattle.std.specs.List.{HoldsAt}
use Rattle.std.proofs.lemmas.Option.{get_or_from_slice_get, none-some, same_Some, slice_get_cases, slice_get_past}
use Rattle.api_types.proofs.NameLemmas.{bytes_itself}
use Rattle.dvr_types.specs.DvrFabric.{DvrHost, is_dvr_named}
use Rattle.dvr_types.specs.DvrHosts.{dvr_host, dvr_hosts}
use Rattle.dvr_types.specs.DvrVerdicts.{plain_hosts}
use Rattle.dvr_types.specs.declared.tables.DvrTables.{DvrTables}
use Rattle.plane_laws.proofs.Facts.{AtMostOne}
use Rattle.plane_types.specs.Spare.{WithSpare}
use Rattle.plane_types.specs.Verdicts.{index_among}
use Rattle.plane_types.specs.declared.entry.Entry.{Entry}

module _ {X : Type 0} where
  -- what stands at a place below the length
  pub there : (xs : List X) (i : ℕ) → i < length xs → (x : X) × (slice_get xs i ≡ Some x)
  there xs i below = go (slice_get_cases xs i).1
    where
      go : ((x : X) × (i < length xs) × (slice_get xs i ≡ Some x) × (get_or xs i x ≡ x)) ⊎ ((length xs ≤ i) × (slice_get xs i ≡ None)) → (x : X) × (slice_get xs i ≡ Some x)
      go (inl w) = (w.0, w.2)
      go (inr w) = absurd (omega (arith, below, w.0))

  pub got : (xs : List X) (i : ℕ) (x : X) → i < length xs → x ≡ get_or xs i x → slice_get xs i ≡ Some x
  got xs i x below is =
      let w = there xs i below in
      w.1 ∙ ap Some (sym (is ∙ get_or_from_slice_get xs i w.0 x w.1))

  pub at_place : (xs : List X) (i : ℕ) (x : X) → i < length xs → slice_get xs i ≡ Some x → drop i xs ≡ x ∷ drop (i + 1) xs
  at_place xs i x below here =
      let next : suc i ≡ i + 1 = omega arith in
      drop-cons xs i x below ∙ ap (λ y. y ∷ drop (suc i) xs) (get_or_from_slice_get xs i x x here) ∙ ap (λ n. x ∷ drop n xs) next

  -- the first that passes is the one here, or after it
  pub found_here : (test : X → Bool) (xs : List X) (i : ℕ) (x : X) → i < length xs → slice_get xs i ≡ Some x → test x ≡ true → find test (drop i xs) ≡ find test xs → slice_get xs i ≡ find test xs
  found_here test xs i x below here passes so_far =
      here ∙ sym (ap (find test) (at_place xs i x below here) ∙ ap (λ b. cond b (Some x) (find test (drop (i + 1) xs))) passes) ∙ so_far

  pub not_here : (test : X → Bool) (xs : List X) (i : ℕ) (x : X) → i < length xs → slice_get xs i ≡ Some x → test x ≡ false → find test (drop i xs) ≡ find test xs → find test (drop (i + 1) xs) ≡ find test xs
  not_here test xs i x below here fails so_far =
      sym (ap (find test) (at_place xs i x below here) ∙ ap (λ b. cond b (Some x) (find test (drop (i + 1) xs))) fails) ∙ so_far

  not_none : (test : X → Bool) (xs : List X) (i : ℕ) (x : X) → slice_get xs i ≡ Some x → test x ≡ true → find test xs ≡ None → ⊥
  not_none test [] i x here passes none = none-some x here
  not_none test (y ∷ ys) zero x here passes none =
      let same : y ≡ x = same_Some y x here in
      none-some y (sym none ∙ ap (λ b. cond b (Some y) (find test ys)) (ap test same ∙ passes))
  not_none test (y ∷ ys) (suc i) x here passes none = go (test y) (not_none test ys i x here passes) none
    where
      go : (b : Bool) → (find test ys ≡ None → ⊥) → cond b (Some y) (find test ys) ≡ None → ⊥
      go true rest e = none-some y (sym e)
      go false rest e = rest e

-- a host by its tables and entries
pub hosts_long : (hosts : List DvrTables) (entries : List (WithSpare Entry)) → length hosts ≡ length entries → length (dvr_hosts hosts entries) ≡ length hosts
hosts_long [] entries long = refl
hosts_long (d ∷ hosts) [] long = absurd (omega (arith, long))
hosts_long (d ∷ hosts) (e ∷ entries) long = ap suc (hosts_long hosts entries (omega (arith, long)))

pub host_there : (hosts : List DvrTables) (entries : List (WithSpare Entry)) (i : ℕ) (d : DvrTables) (e : WithSpare Entry) → slice_get hosts i ≡ Some d → slice_get entries i ≡ Some e → slice_get (dvr_hosts hosts entries) i ≡ Some (dvr_host d e)
host_there [] entries i d e a b = absurd (none-some d a)
host_there (x ∷ hosts) [] i d e a b = absurd (none-some e b)
host_there (x ∷ hosts) (y ∷ entries) zero d e a b =
    let first : x ≡ d = same_Some x d a in
    let second : y ≡ e = same_Some y e b in
    λ j. Some (dvr_host (first j) (second j))
host_there (x ∷ hosts) (y ∷ entries) (suc i) d e a b = host_there hosts entries i d e a b

-- if names differ, the place of a host's name is the host's place
pub place_of : (hosts : List DvrHost) → ((name : List ℕ) → AtMostOne (is_dvr_named name) hosts) → (at : ℕ) (d : DvrHost) → slice_get hosts at ≡ Some d → index_among d.host.name (plain_hosts hosts) ≡ Some at
place_of [] names at d here = absurd (none-some d here)
place_of (x ∷ xs) names zero d here =
    let same : x ≡ d = same_Some x d here in
    ap (λ b. if b then Some zero else option_map suc (index_among d.host.name (plain_hosts xs))) (subst (λ (y : DvrHost). is_dvr_named d.host.name y ≡ true) (sym same) (bytes_itself d.host.name))
place_of (x ∷ xs) names (suc k) d here = go (is_dvr_named d.host.name x) refl (place_of xs (λ n. (names n).1) k d here)
  where
    go : (b : Bool) → is_dvr_named d.host.name x ≡ b → index_among d.host.name (plain_hosts xs) ≡ Some k → (if b then Some zero else option_map suc (index_among d.host.name (plain_hosts xs))) ≡ Some (suc k)
    go true e rest = absurd (not_none (is_dvr_named d.host.name) xs k d here (bytes_itself d.host.name) ((names d.host.name).0 e))
    go false e rest = ap (option_map suc) rest

-- what `get` finds none of, stands nowhere
pub nothing_got : {X : Type 0} (xs : List X) (i : ℕ) (o : Option (Bor X)) → option_copied o ≡ None → MatchOption o (length xs ≤ i) (λ x. (i < length xs) × HoldsAt (λ y. x.now ≡ y) xs i) → slice_get xs i ≡ None
nothing_got xs i None e over = slice_get_past xs i over
nothing_got xs i (Some x) e at = absurd (none-some x.now (sym e))
