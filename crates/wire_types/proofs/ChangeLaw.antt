-- What a server has after the changes that it accepted.
use Rattle.std.proofs.Common.{inl, inr, ◌⊎◌, ◌≡◌, ℕ, zero, suc, ◌+◌, ◌-◌, ◌≤◌, List, [], ◌∷◌, ◌++◌, Some, refl, ap, sym, subst, ◌∙◌, arith, drop, length, slice_get, take_all}
use Rattle.std.proofs.lemmas.List.{append-nil, append_assoc, drop-append-le, drop-drop, length-append, length-drop, take-append-le}
use Rattle.api_types.specs.RowLists.{RowLists}
use Rattle.api_types.specs.Rows.{Fits, after}
use Rattle.api_types.specs.declared.change.Item.{Item}
use Rattle.api_types.proofs.ListLemmas.{none_some, some_equal}
use Rattle.bus_core.specs.History.{History, IsHistory, accepted, change_at, first_kept, history_from, rows_at}
use Rattle.bus_core.specs.Kept.{with_newest}
use Rattle.bus_core.proofs.HistoryLaw.{accepted_history, history_starts, kept_place, rows_now, rows_still}
use Rattle.wire_types.specs.Changes.{AreAccepted, accepted_all, after_all, history_of, rows_after}

after_all-push : (rows : RowLists) (cs : List (List Item)) (c : List Item) → after_all rows (cs ++ c ∷ []) ≡ after (after_all rows cs) c
unfolding after_all
after_all-push rows [] c = refl
after_all-push rows (d ∷ cs) c = after_all-push (after rows d) cs c

nothing_after : (rows : RowLists) → after_all rows [] ≡ rows
unfolding after_all
nothing_after rows = refl

get-drop : {X : Type 0} (i : ℕ) (xs : List X) (k : ℕ) → slice_get (drop i xs) k ≡ slice_get xs (i + k)
get-drop zero xs k = ap (slice_get xs) (omega arith)
get-drop (suc i) [] k = refl
get-drop (suc i) (x ∷ xs) k = let same : suc i + k ≡ suc (i + k) = omega arith in get-drop i xs k ∙ ap (slice_get (x ∷ xs)) (sym same)

module _ (Sound : RowLists → Type 0) where
  -- after these changes a server has this history
  pub record Reached (opening : RowLists) (cs : List (List Item)) (h : History) : Type 0 where
    pub version : h.version ≡ length cs
    pub rows : h.rows ≡ after_all opening cs
    pub kept : h.kept ≡ drop (length cs - 1024) cs
    pub is : IsHistory Sound h
    pub derived : (k : ℕ) → first_kept h ≤ k + 1 → k ≤ h.version → rows_at h k ≡ rows_after opening cs k

  start : (opening : RowLists) → Sound opening → Reached opening [] (history_from opening 0)
  start opening sound =
      let is = history_starts Sound opening 0 sound in
      record {
        version = refl;
        rows = sym (nothing_after opening);
        kept = refl;
        is = is;
        derived = λ k from to. let none : k ≡ 0 = omega (arith, to) in ap (rows_at (history_from opening 0)) none ∙ rows_now (history_from opening 0) is.numbered ∙ sym (ap (λ n. rows_after opening [] n) none ∙ nothing_after opening);
      }

  push : (opening : RowLists) (cs : List (List Item)) (h : History) (c : List Item) → Reached opening cs h → Fits h.rows c → Sound (after h.rows c) → Reached opening (cs ++ c ∷ []) (accepted h c)
  push opening cs h c r fits sound = record {
    version = let v = r.version in omega (arith, v, longer);
    rows = ap (λ rows. after rows c) r.rows ∙ sym (after_all-push opening cs c);
    kept = newest;
    is = is;
    derived = λ k from to. rows_at_version k from to (last_or k to);
  }
    where
      longer : length (cs ++ c ∷ []) ≡ length cs + 1
      longer = length-append cs (c ∷ []) ∙ omega arith

      is : IsHistory Sound (accepted h c)
      is = accepted_history Sound h c r.is fits sound

      -- what was dropped before, and one more where too many are kept
      some : ℕ
      some = length cs - 1024

      left : h.kept ++ c ∷ [] ≡ drop (length cs - 1024) (cs ++ c ∷ [])
      left = ap (λ l. l ++ c ∷ []) r.kept ∙ sym (drop-append-le (length cs - 1024) cs (c ∷ []) (omega arith))

      newest : with_newest h.kept c ≡ drop (length (cs ++ c ∷ []) - 1024) (cs ++ c ∷ [])
      newest =
          let many : length (h.kept ++ c ∷ []) ≡ length (cs ++ c ∷ []) - (length cs - 1024) = ap length left ∙ length-drop (length cs - 1024) (cs ++ c ∷ []) in
          let both : length cs - 1024 + (length (h.kept ++ c ∷ []) - 1024) ≡ length (cs ++ c ∷ []) - 1024 = omega (arith, many, longer) in
          ap (drop (length (h.kept ++ c ∷ []) - 1024)) left
          ∙ drop-drop (length (h.kept ++ c ∷ []) - 1024) (length cs - 1024) (cs ++ c ∷ [])
          ∙ ap (λ n. drop n (cs ++ c ∷ [])) both

      last_or : (k : ℕ) → k ≤ h.version + 1 → (k ≡ h.version + 1) ⊎ (k ≤ h.version)
      last_or k to = grind (arith, to)

      rows_at_version : (k : ℕ) → first_kept (accepted h c) ≤ k + 1 → k ≤ h.version + 1 → (k ≡ h.version + 1) ⊎ (k ≤ h.version) → rows_at (accepted h c) k ≡ rows_after opening (cs ++ c ∷ []) k
      rows_at_version k from to (inl last) =
          let v = r.version in
          let most : length (cs ++ c ∷ []) ≤ k = omega (arith, last, v, longer) in
          ap (rows_at (accepted h c)) last ∙ rows_now (accepted h c) is.numbered
          ∙ ap (λ rows. after rows c) r.rows ∙ sym (after_all-push opening cs c)
          ∙ sym (ap (after_all opening) (take_all k (cs ++ c ∷ []) most))
      rows_at_version k from to (inr earlier) =
          let v = r.version in
          let still = rows_still h c r.is.few r.is.numbered fits k from earlier in
          still.1 ∙ r.derived k still.0 earlier ∙ sym (ap (after_all opening) (take-append-le k cs (c ∷ []) (omega (arith, v, earlier))))

  reach : (opening : RowLists) (cs ds : List (List Item)) (h : History) → Reached opening cs h → AreAccepted Sound h.rows ds → Reached opening (cs ++ ds) (accepted_all h ds)
  unfolding accepted_all AreAccepted
  reach opening cs [] h r may = subst (λ l. Reached opening l h) (sym (append-nil cs)) r
  reach opening cs (d ∷ ds) h r may =
      subst (λ l. Reached opening l (accepted_all (accepted h d) ds)) (append_assoc cs (d ∷ []) ds)
      (reach opening (cs ++ d ∷ []) ds (accepted h d) (push opening cs h d r may.0 may.1) may.2)

  pub reached : (opening : RowLists) (cs : List (List Item)) → Sound opening → AreAccepted Sound opening cs → Reached opening cs (history_of opening cs)
  reached opening cs sound may = reach opening [] cs (history_from opening 0) (start opening sound) may

  -- a kept change is the one with its number
  pub change_is : (opening : RowLists) (cs : List (List Item)) (h : History) → Reached opening cs h → (n : ℕ) (c : List Item) → change_at h n ≡ Some c → (1 ≤ n) × (slice_get cs (n - 1) ≡ Some c)
  change_is opening cs h r n c at =
      let place = kept_place h n c at in
      let v = r.version in
      let long : length h.kept ≡ length cs - (length cs - 1024) = ap length r.kept ∙ length-drop (length cs - 1024) cs in
      let first : first_kept h ≡ length cs - 1024 + 1 = omega (arith, long, v) in
      let same : length cs - 1024 + (n - first_kept h) ≡ n - 1 = omega (arith, first, place.0) in
      (omega (arith, first, place.0), sym (ap (slice_get cs) same) ∙ sym (get-drop (length cs - 1024) cs (n - first_kept h)) ∙ sym (ap (λ l. slice_get l (n - first_kept h)) r.kept) ∙ place.1)

  pub record Leads (opening : RowLists) (cs : List (List Item)) (i : ℕ) (c : List Item) : Type 0 where
    pub fits : Fits (rows_after opening cs i) c
    pub sound : Sound (after (rows_after opening cs i) c)
    pub rows : rows_after opening cs (suc i) ≡ after (rows_after opening cs i) c
    pub within : suc i ≤ length cs

  pub leads : (opening : RowLists) (cs : List (List Item)) → AreAccepted Sound opening cs → (i : ℕ) (c : List Item) → slice_get cs i ≡ Some c → Leads opening cs i c
  unfolding AreAccepted after_all
  leads opening [] may i c at = none_some c _ at
  leads opening (d ∷ cs) may zero c at =
      let same : d ≡ c = some_equal d c at in
      subst (λ x. Leads opening (d ∷ cs) zero x) same (record { fits = may.0; sound = may.1; rows = refl; within = omega arith })
  leads opening (d ∷ cs) may (suc i) c at = let l = leads (after opening d) cs may.2 i c at in record { fits = l.fits; sound = l.sound; rows = l.rows; within = let w = l.within in omega (arith, w) }

  pub sound_at : (opening : RowLists) (cs : List (List Item)) → Sound opening → AreAccepted Sound opening cs → (n : ℕ) → Sound (rows_after opening cs n)
  unfolding AreAccepted after_all
  sound_at opening cs sound may zero = sound
  sound_at opening [] sound may (suc n) = sound
  sound_at opening (d ∷ cs) sound may (suc n) = sound_at (after opening d) cs may.1 may.2 n

  -- the changes up to some moment
  pub earlier_accepted : (opening : RowLists) (xs ys : List (List Item)) → AreAccepted Sound opening (xs ++ ys) → AreAccepted Sound opening xs
  unfolding AreAccepted
  earlier_accepted opening [] ys may = tt
  earlier_accepted opening (x ∷ xs) ys may = (may.0, may.1, earlier_accepted (after opening x) xs ys may.2)

pub earlier_rows : (opening : RowLists) (xs ys : List (List Item)) (n : ℕ) → n ≤ length xs → rows_after opening (xs ++ ys) n ≡ rows_after opening xs n
earlier_rows opening xs ys n within = ap (after_all opening) (take-append-le n xs ys within)

pub earlier_at : {X : Type 0} (xs ys : List X) (i : ℕ) (x : X) → slice_get xs i ≡ Some x → slice_get (xs ++ ys) i ≡ Some x
earlier_at [] ys i x at = none_some x _ at
earlier_at (y ∷ xs) ys zero x at = at
earlier_at (y ∷ xs) ys (suc i) x at = earlier_at xs ys i x at
