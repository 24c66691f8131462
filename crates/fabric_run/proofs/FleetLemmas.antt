-- Hosts by their places, and the places of hosts.
use Rattle.std.proofs.Common.{◌≡◌, ◌∙◌, ◌⊎◌, inl, inr, ℕ, zero, suc, ◌+◌, ◌<◌, ◌≤◌, List, [], ◌∷◌, length, map, get_or, drop, drop-cons, Bool, true, false, cond, Option, Some, None, refl, ap, sym, subst, arith, Bor}
use Rattle.std.specs.Prelude.{MatchOption, find, if◌then◌else◌, option_copied, option_map, slice_get}
use Rattle.std.specs.List.{HoldsAt}
use Rattle.std.proofs.lemmas.Option.{get_or_from_slice_get, none-some, same_Some, slice_get_cases, slice_get_past}
use Rattle.api_types.proofs.NameLemmas.{bytes_itself}
use Rattle.plane_laws.proofs.Facts.{AtMostOne}
use Rattle.plane_types.specs.Hosts.{Host, is_named}
use Rattle.plane_types.specs.Verdicts.{index_among}
use Rattle.plane_types.specs.declared.entry.Entry.{Entry}
use Rattle.plane_types.specs.declared.lists.TableLists.{TableLists}

module _ {X : Type 0} where
  -- what stands at a place below the length
  pub there : (xs : List X) (i : ℕ) → i < length xs → (x : X) × (slice_get xs i ≡ Some x)
  there xs i below = go (slice_get_cases xs i).1
    where
      go : ((x : X) × (i < length xs) × (slice_get xs i ≡ Some x) × (get_or xs i x ≡ x)) ⊎ ((length xs ≤ i) × (slice_get xs i ≡ None)) → (x : X) × (slice_get xs i ≡ Some x)
      go (inl w) = (w.0, w.2)
      go (inr w) = absurd (omega (arith, below, w.0))

  pub at_place : (xs : List X) (i : ℕ) (x : X) → i < length xs → slice_get xs i ≡ Some x → drop i xs ≡ x ∷ drop (i + 1) xs
  at_place xs i x below here =
      let next : suc i ≡ i + 1 = omega arith in
      drop-cons xs i x below ∙ ap (λ y. y ∷ drop (suc i) xs) (get_or_from_slice_get xs i x x here) ∙ ap (λ n. x ∷ drop n xs) next

  -- the first that passes is the one here, or behind it
  pub found_here : (test : X → Bool) (xs : List X) (i : ℕ) (x : X) → i < length xs → slice_get xs i ≡ Some x → test x ≡ true → find test (drop i xs) ≡ find test xs → slice_get xs i ≡ find test xs
  found_here test xs i x below here passes so_far =
      here ∙ sym (ap (find test) (at_place xs i x below here) ∙ ap (λ b. cond b (Some x) (find test (drop (i + 1) xs))) passes) ∙ so_far

  pub not_here : (test : X → Bool) (xs : List X) (i : ℕ) (x : X) → i < length xs → slice_get xs i ≡ Some x → test x ≡ false → find test (drop i xs) ≡ find test xs → find test (drop (i + 1) xs) ≡ find test xs
  not_here test xs i x below here fails so_far =
      sym (ap (find test) (at_place xs i x below here) ∙ ap (λ b. cond b (Some x) (find test (drop (i + 1) xs))) fails) ∙ so_far

  not_none : (test : X → Bool) (xs : List X) (i : ℕ) (x : X) → slice_get xs i ≡ Some x → test x ≡ true → find test xs ≡ None → ⊥
  not_none test [] i x here passes none = none-some x here
  not_none test (y ∷ ys) zero x here passes none =
      let same : y ≡ x = same_Some y x here in
      none-some y (sym none ∙ ap (λ b. cond b (Some y) (find test ys)) (ap test same ∙ passes))
  not_none test (y ∷ ys) (suc i) x here passes none = go (test y) (not_none test ys i x here passes) none
    where
      go : (b : Bool) → (find test ys ≡ None → ⊥) → cond b (Some y) (find test ys) ≡ None → ⊥
      go true rest e = none-some y (sym e)
      go false rest e = rest e

-- a host by its name, tables and entries
pub host_there : (hosts : List Host) (i : ℕ) (n : List ℕ) (t : TableLists) (es : List Entry) → slice_get (map (λ (h : Host). h.name) hosts) i ≡ Some n → slice_get (map (λ (h : Host). h.tables) hosts) i ≡ Some t → slice_get (map (λ (h : Host). h.entries) hosts) i ≡ Some es → slice_get hosts i ≡ Some (record { name = n; tables = t; entries = es })
host_there [] i n t es a b c = absurd (none-some n a)
host_there (h ∷ hosts) zero n t es a b c =
    let x : h.name ≡ n = same_Some h.name n a in
    let y : h.tables ≡ t = same_Some h.tables t b in
    let z : h.entries ≡ es = same_Some h.entries es c in
    λ j. Some (record { name = x j; tables = y j; entries = z j })
host_there (h ∷ hosts) (suc i) n t es a b c = host_there hosts i n t es a b c

-- where names differ, the place of a host's name is the host's place
pub place_of : (hosts : List Host) → ((name : List ℕ) → AtMostOne (is_named name) hosts) → (at : ℕ) (h : Host) → slice_get hosts at ≡ Some h → index_among h.name hosts ≡ Some at
place_of [] names at h here = absurd (none-some h here)
place_of (x ∷ xs) names zero h here =
    let same : x ≡ h = same_Some x h here in
    ap (λ b. if b then Some zero else option_map suc (index_among h.name xs)) (subst (λ (y : Host). is_named h.name y ≡ true) (sym same) (bytes_itself h.name))
place_of (x ∷ xs) names (suc k) h here = go (is_named h.name x) refl (place_of xs (λ n. (names n).1) k h here)
  where
    go : (b : Bool) → is_named h.name x ≡ b → index_among h.name xs ≡ Some k → (if b then Some zero else option_map suc (index_among h.name xs)) ≡ Some (suc k)
    go true e rest = absurd (not_none (is_named h.name) xs k h here (bytes_itself h.name) ((names h.name).0 e))
    go false e rest = ap (option_map suc) rest

-- what `get` finds none of, stands nowhere
pub nothing_got : {X : Type 0} (xs : List X) (i : ℕ) (o : Option (Bor X)) → option_copied o ≡ None → MatchOption o (length xs ≤ i) (λ x. (i < length xs) × HoldsAt (λ y. x.now ≡ y) xs i) → slice_get xs i ≡ None
nothing_got xs i None e over = slice_get_past xs i over
nothing_got xs i (Some x) e at = absurd (none-some x.now (sym e))
