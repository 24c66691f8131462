-- Kept changes after one more is accepted: the rows of the versions that can still be told stay the same.
use Rattle.std.proofs.Common.{inl, inr, ◌⊎◌, ◌≡◌, ℕ, zero, suc, ◌+◌, ◌-◌, ◌<◌, ◌≤◌, List, [], ◌∷◌, ◌++◌, Bool, true, false, cond, None, Some, refl, ap, sym, subst, ◌∙◌, arith, drop, length, slice_get, lit≤}
use Rattle.std.specs.Prelude.{nat_lt}
use Rattle.std.proofs.lemmas.Bool.Decides.{nat_tests}
use Rattle.std.proofs.lemmas.List.{drop-append-le, drop-drop, drop_all, length-append, length-drop}
use Rattle.std.proofs.lemmas.Option.{slice_get_past, slice_get_within}
use Rattle.api_types.specs.RowLists.{RowLists}
use Rattle.api_types.specs.Rows.{Fits, after, before}
use Rattle.api_types.specs.declared.change.Item.{Item}
use Rattle.api_types.proofs.ChangeLemmas.{change_undone}
use Rattle.api_types.proofs.ListLemmas.{at_push, none_some}
use Rattle.bus_core.specs.History.{History, IsHistory, accepted, before_all, change_at, first_kept, history_from, rows_at}
use Rattle.bus_core.specs.Kept.{with_newest}

before_all-push : (rows : RowLists) (cs : List (List Item)) (c : List Item) → before_all rows (cs ++ c ∷ []) ≡ before_all (before rows c) cs
unfolding before_all
before_all-push rows [] c = refl
before_all-push rows (x ∷ cs) c = ap (λ r. before r x) (before_all-push rows cs c)

none_back : (rows : RowLists) → before_all rows [] ≡ rows
unfolding before_all
none_back rows = refl

get-drop : {X : Type 0} (i : ℕ) (xs : List X) (k : ℕ) → slice_get (drop i xs) k ≡ slice_get xs (i + k)
get-drop zero xs k = ap (slice_get xs) (omega arith)
get-drop (suc i) [] k = refl
get-drop (suc i) (x ∷ xs) k = let same : suc i + k ≡ suc (i + k) = omega arith in get-drop i xs k ∙ ap (slice_get (x ∷ xs)) (sym same)

-- a kept change is at its place
pub kept_place : (h : History) (n : ℕ) (c : List Item) → change_at h n ≡ Some c → (first_kept h ≤ n) × (slice_get h.kept (n - first_kept h) ≡ Some c)
kept_place h n c at = by (nat_lt n (first_kept h)) refl at
  where
    by : (b : Bool) → nat_lt n (first_kept h) ≡ b → cond b None (slice_get h.kept (n - first_kept h)) ≡ Some c → (first_kept h ≤ n) × (slice_get h.kept (n - first_kept h) ≡ Some c)
    by true e at = none_some c _ at
    by false e at = (grind (arith, nat_tests, e), at)

pub place_kept : (h : History) (n : ℕ) → first_kept h ≤ n → change_at h n ≡ slice_get h.kept (n - first_kept h)
place_kept h n from = let e : nat_lt n (first_kept h) ≡ false = grind (arith, nat_tests, from) in ap (λ (b : Bool). cond b None (slice_get h.kept (n - first_kept h))) e

-- a number before the first kept change, or behind the last, has none
pub gone_none : (h : History) (n : ℕ) → length h.kept ≤ h.version → (n < first_kept h) ⊎ (h.version < n) → change_at h n ≡ None
gone_none h n numbered (inl less) = let e : nat_lt n (first_kept h) ≡ true = grind (arith, nat_tests, less) in ap (λ (b : Bool). cond b None (slice_get h.kept (n - first_kept h))) e
gone_none h n numbered (inr more) = place_kept h n (omega (arith, more, numbered)) ∙ slice_get_past h.kept (n - first_kept h) (omega (arith, more, numbered))

-- a kept change has a number up to the current version
pub kept_within : (h : History) (n : ℕ) (c : List Item) → length h.kept ≤ h.version → change_at h n ≡ Some c → (first_kept h ≤ n) × (n ≤ h.version)
kept_within h n c numbered at =
    let place = kept_place h n c at in
    let within = slice_get_within h.kept (n - first_kept h) c place.1 in
    (place.0, omega (arith, within, numbered, place.0))

-- the current rows are those of the current version
pub rows_now : (h : History) → length h.kept ≤ h.version → rows_at h h.version ≡ h.rows
rows_now h numbered = ap (before_all h.rows) (drop_all (h.version + 1 - first_kept h) h.kept (omega (arith, numbered))) ∙ none_back h.rows

module _ (h : History) (c : List Item) (few : length h.kept ≤ 1024) (numbered : length h.kept ≤ h.version) where
  longer : length (h.kept ++ c ∷ []) ≡ length h.kept + 1
  longer = length-append h.kept (c ∷ []) ∙ omega arith

  gone : ℕ
  gone = length (h.kept ++ c ∷ []) - 1024

  new_length : length (with_newest h.kept c) ≡ length h.kept + 1 - gone
  unfolding gone
  new_length = length-drop (length (h.kept ++ c ∷ []) - 1024) (h.kept ++ c ∷ []) ∙ ap (λ n. n - (length (h.kept ++ c ∷ []) - 1024)) longer

  new_few : length (with_newest h.kept c) ≤ 1024
  unfolding gone
  new_few = omega (arith, new_length, longer, few)

  new_numbered : length (with_newest h.kept c) ≤ h.version + 1
  unfolding gone
  new_numbered = omega (arith, new_length, longer, numbered)

  -- what is kept begins where it began, or one later
  first_moves : first_kept (accepted h c) ≡ first_kept h + gone
  unfolding gone
  first_moves = omega (arith, new_length, longer, few, numbered)

  -- the version before can still be told
  last_told : first_kept (accepted h c) ≤ h.version + 1
  unfolding gone
  last_told = omega (arith, new_length, longer, few, numbered)

  -- the rows of a version that can still be told
  rows_stay : Fits h.rows c → (k : ℕ) → first_kept (accepted h c) ≤ k + 1 → k ≤ h.version → rows_at (accepted h c) k ≡ rows_at h k
  unfolding gone
  rows_stay fits k from to =
      let place : gone + (k + 1 - first_kept (accepted h c)) ≡ k + 1 - first_kept h = omega (arith, first_moves, from) in
      let within : k + 1 - first_kept h ≤ length h.kept = omega (arith, to, numbered) in
      let left : drop (k + 1 - first_kept (accepted h c)) (with_newest h.kept c) ≡ drop (k + 1 - first_kept h) h.kept ++ c ∷ [] =
      drop-drop (k + 1 - first_kept (accepted h c)) gone (h.kept ++ c ∷ []) ∙ ap (λ n. drop n (h.kept ++ c ∷ [])) place ∙ drop-append-le (k + 1 - first_kept h) h.kept (c ∷ []) within in
      ap (before_all (after h.rows c)) left
      ∙ before_all-push (after h.rows c) (drop (k + 1 - first_kept h) h.kept) c
      ∙ ap (λ r. before_all r (drop (k + 1 - first_kept h) h.kept)) (change_undone h.rows c fits)

  -- the rows of the new version
  rows_new : rows_at (accepted h c) (h.version + 1) ≡ after h.rows c
  rows_new = rows_now (accepted h c) new_numbered

  -- a kept change was kept, or is the new one
  change_was : (n : ℕ) (x : List Item) → change_at (accepted h c) n ≡ Some x → (P : Type 0) → (first_kept (accepted h c) ≤ n → change_at h n ≡ Some x → P) → (n ≡ h.version + 1 → c ≡ x → P) → P
  unfolding gone
  change_was n x at P old new =
      let place = kept_place (accepted h c) n x at in
      let same : gone + (n - first_kept (accepted h c)) ≡ n - first_kept h = omega (arith, first_moves, place.0) in
      let there : slice_get (h.kept ++ c ∷ []) (n - first_kept h) ≡ Some x =
      sym (get-drop gone (h.kept ++ c ∷ []) (n - first_kept (accepted h c)) ∙ ap (slice_get (h.kept ++ c ∷ [])) same) ∙ place.1 in
      at_push h.kept c x (n - first_kept h) there P
      (λ g. old place.0 (place_kept h n (omega (arith, first_moves, place.0)) ∙ g))
      (λ e s. new (omega (arith, e, first_moves, place.0, numbered)) s)

get-last : {X : Type 0} (xs : List X) (x : X) → slice_get (xs ++ x ∷ []) (length xs) ≡ Some x
get-last [] x = refl
get-last (y ∷ xs) x = get-last xs x

-- the rows of a version that can still be told after one more is accepted
pub rows_still : (h : History) (c : List Item) → length h.kept ≤ 1024 → length h.kept ≤ h.version → Fits h.rows c → (k : ℕ) → first_kept (accepted h c) ≤ k + 1 → k ≤ h.version
    → (first_kept h ≤ k + 1) × (rows_at (accepted h c) k ≡ rows_at h k)
rows_still h c few numbered fits k from to = let moves = first_moves h c few numbered in (omega (arith, moves, from), rows_stay h c few numbered fits k from to)

-- the new change is kept
pub newest_kept : (h : History) (c : List Item) → length h.kept ≤ 1024 → length h.kept ≤ h.version → change_at (accepted h c) (h.version + 1) ≡ Some c
unfolding gone
newest_kept h c few numbered =
    let moves = first_moves h c few numbered in
    let longer = longer h c few numbered in
    let long = new_length h c few numbered in
    let place : gone h c few numbered + (h.version + 1 - first_kept (accepted h c)) ≡ length h.kept = omega (arith, moves, longer, long, few, numbered) in
    place_kept (accepted h c) (h.version + 1) (omega (arith, moves, longer, long, few, numbered))
    ∙ get-drop (gone h c few numbered) (h.kept ++ c ∷ []) (h.version + 1 - first_kept (accepted h c))
    ∙ ap (slice_get (h.kept ++ c ∷ [])) place ∙ get-last h.kept c

pub newest_length : (kept : List (List Item)) (c : List Item) → length (with_newest kept c) ≡ length kept + 1 - (length kept + 1 - 1024)
newest_length kept c =
    let longer : length (kept ++ c ∷ []) ≡ length kept + 1 = length-append kept (c ∷ []) ∙ omega arith in
    length-drop (length (kept ++ c ∷ []) - 1024) (kept ++ c ∷ []) ∙ ap (λ n. n - (n - 1024)) longer

-- what is at a place of a list as long
at_place : (xs ys : List (List Item)) (i : ℕ) (x : List Item) → length xs ≡ length ys → slice_get xs i ≡ Some x → (y : List Item) × (slice_get ys i ≡ Some y)
at_place [] ys i x same at = none_some x _ at
at_place (a ∷ xs) [] i x same at = absurd (omega (arith, same))
at_place (a ∷ xs) (b ∷ ys) zero x same at = (b, refl)
at_place (a ∷ xs) (b ∷ ys) (suc i) x same at = at_place xs ys i x (omega (arith, same)) at

-- as many changes are kept up to the same version: a number is kept of both or of none
pub both_kept : (h g : History) (n : ℕ) (c : List Item) → h.version ≡ g.version → length h.kept ≡ length g.kept → change_at h n ≡ Some c → (d : List Item) × (change_at g n ≡ Some d)
both_kept h g n c version long at =
    let place = kept_place h n c at in
    let first : first_kept g ≡ first_kept h = omega (arith, version, long) in
    let there = at_place h.kept g.kept (n - first_kept h) c long place.1 in
    (there.0, place_kept g n (omega (arith, first, place.0)) ∙ ap (λ i. slice_get g.kept (n - i)) first ∙ there.1)

-- kept changes lead still where one more is accepted that fits and leads to sound rows
pub accepted_history : (Sound : RowLists → Type 0) (h : History) (c : List Item) → IsHistory Sound h → Fits h.rows c → Sound (after h.rows c) → IsHistory Sound (accepted h c)
accepted_history Sound h c is fits sound = record {
  few = new_few h c is.few is.numbered;
  numbered = new_numbered h c is.few is.numbered;
  sound = λ k from to. sound_at k from to (is_last k to);
  fits = λ n x at. change_was h c is.few is.numbered n x at (Fits (rows_at (accepted h c) (n - 1)) x)
      (λ from old. subst (λ r. Fits r x) (sym (stays (n - 1) (before_first n from) (before_last n x old))) (is.fits n x old))
      (λ last same. subst (λ y. Fits (rows_at (accepted h c) (n - 1)) y) same (subst (λ r. Fits r c) (sym (now_before n last)) fits));
  leads = λ n x at. change_was h c is.few is.numbered n x at (rows_at (accepted h c) n ≡ after (rows_at (accepted h c) (n - 1)) x)
      (λ from old. stays n (omega (arith, from)) (kept_within h n x is.numbered old).1 ∙ is.leads n x old ∙ ap (λ r. after r x) (sym (stays (n - 1) (before_first n from) (before_last n x old))))
      (λ last same. ap (rows_at (accepted h c)) last ∙ rows_new h c is.few is.numbered ∙ ap (after h.rows) same ∙ ap (λ r. after r x) (sym (now_before n last)));
}
  where
    moves : first_kept (accepted h c) ≡ first_kept h + gone h c is.few is.numbered
    moves = first_moves h c is.few is.numbered

    stays : (k : ℕ) → first_kept (accepted h c) ≤ k + 1 → k ≤ h.version → rows_at (accepted h c) k ≡ rows_at h k
    stays = rows_stay h c is.few is.numbered fits

    is_last : (k : ℕ) → k ≤ h.version + 1 → (k ≡ h.version + 1) ⊎ (k ≤ h.version)
    is_last k to = grind (arith, to)

    sound_at : (k : ℕ) → first_kept (accepted h c) ≤ k + 1 → k ≤ h.version + 1 → (k ≡ h.version + 1) ⊎ (k ≤ h.version) → Sound (rows_at (accepted h c) k)
    sound_at k from to (inl last) = subst Sound (sym (ap (rows_at (accepted h c)) last ∙ rows_new h c is.few is.numbered)) sound
    sound_at k from to (inr earlier) = subst Sound (sym (stays k from earlier)) (is.sound k (omega (arith, from, moves)) earlier)

    before_first : (n : ℕ) → first_kept (accepted h c) ≤ n → first_kept (accepted h c) ≤ n - 1 + 1
    before_first n from = omega (arith, from)

    before_last : (n : ℕ) (x : List Item) → change_at h n ≡ Some x → n - 1 ≤ h.version
    before_last n x old = let w = kept_within h n x is.numbered old in omega (arith, w)

    now_before : (n : ℕ) → n ≡ h.version + 1 → rows_at (accepted h c) (n - 1) ≡ h.rows
    now_before n last =
        let one_less : n - 1 ≡ h.version = omega (arith, last) in
        ap (rows_at (accepted h c)) one_less ∙ stays h.version (last_told h c is.few is.numbered) (omega arith) ∙ rows_now h is.numbered

abbrev no_changes : List (List Item)
no_changes = []

-- rows without kept changes
pub history_starts : (Sound : RowLists → Type 0) (rows : RowLists) (version : ℕ) → Sound rows → IsHistory Sound (history_from rows version)
history_starts Sound rows version sound = record {
  few = lit≤ tt;
  numbered = omega arith;
  sound = λ k from to. subst Sound (sym (ap (before_all rows) (nothing_left k) ∙ none_back rows)) sound;
  fits = λ n x at. none_some x _ (sym (nothing_kept n) ∙ at);
  leads = λ n x at. none_some x _ (sym (nothing_kept n) ∙ at);
}
  where
    nothing_left : (k : ℕ) → drop (k + 1 - first_kept (history_from rows version)) no_changes ≡ no_changes
    nothing_left k = drop_all (k + 1 - first_kept (history_from rows version)) no_changes (omega arith)

    nothing_kept : (n : ℕ) → change_at (history_from rows version) n ≡ None
    nothing_kept n = by (nat_lt n (first_kept (history_from rows version)))
      where
        by : (b : Bool) → cond b None (slice_get no_changes (n - first_kept (history_from rows version))) ≡ None
        by true = refl
        by false = refl
