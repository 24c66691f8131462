-- Edits at keys at which two tables differ write no more rows than stand in one of the two alone.
use Rattle.std.proofs.Common.{◌≡◌, ◌∙◌, suc, ◌+◌, ◌≤◌, List, [], ◌∷◌, ◌++◌, map, length, Option, Bool, false, refl, sym, ap, subst}
use Rattle.std.specs.Prelude.{⊤, is_some}
use Rattle.plane_types.specs.Keyed.{IsTotal, are_one, Others, AreApart, Rises, row_at, Say, AllBefore, Descends}
use Rattle.plane_types.specs.Edits.{edit_at, all_writes, StandIn, Differ, AreFew}
use Rattle.plane_types.proofs.KeyedLemmas.{three_ways, apart_first, apart_second}
use Rattle.plane_types.proofs.LeadLemmas.{keys_of, AllHeld, writes_bound}

module _ {K : Type 0} (before : K → K → Bool) where
  others_append : (k : K) (xs ys : List K) → Others before k xs → Others before k ys
      → Others before k (xs ++ ys)
  others_append k [] ys h g = g
  others_append k (x ∷ xs) ys h g = (h.0, others_append k xs ys h.1 g)

  abbrev AllOthers : List K → List K → Type 0
  AllOthers [] ys = ⊤
  AllOthers (x ∷ xs) ys = Others before x ys × AllOthers xs ys

  apart_append : (xs ys : List K) → AreApart before xs → AreApart before ys → AllOthers xs ys
      → AreApart before (xs ++ ys)
  apart_append [] ys h g o = g
  apart_append (x ∷ xs) ys h g o = (others_append x xs ys h.0 o.0, apart_append xs ys h.1 g o.1)

module _ {K R : Type 0} (before : K → K → Bool) (order : IsTotal before) where
  others_before : (k : K) (os : List (K × Option R)) → AllBefore before k os
      → Others before k (keys_of before order os)
  others_before k [] h = tt
  others_before k (o ∷ os) h = (apart_first before order o.0 k h.0, others_before k os h.1)

  descends_apart : (os : List (K × Option R)) → Descends before os
      → AreApart before (keys_of before order os)
  descends_apart [] h = tt
  descends_apart (o ∷ os) h = (others_before o.0 os h.0, descends_apart os h.1)

  abbrev keys_in : List (K × R) → List K
  keys_in xs = map (λ (x : K × R). x.0) xs

  -- where both have one row they don't differ
  others_both : (old new both : List (K × R)) (k : K) → (row_at before k old ≡ row_at before k new
      → ⊥) → StandIn before old both → StandIn before new both → Others before k (keys_in both)
  others_both old new [] k differ h g = tt
  others_both old new (b ∷ bs) k differ h g = (
    three_ways before order b.0 k (are_one before b.0 k ≡ false)
        (λ e. apart_first before order b.0 k e)
        (λ e. apart_second before order b.0 k e)
        (λ e f.
        let key : b.0 ≡ k = order.same b.0 k e f in
        absurd (differ (subst (λ q. row_at before q old ≡ row_at before q new) key (h.0
        ∙ sym g.0)))),
    others_both old new bs k differ h.1 g.1,
  )

  all_others : (old new both : List (K × R)) (os : List (K × Option R)) → Differ before old new os
      → StandIn before old both → StandIn before new both
      → AllOthers before (keys_of before order os) (keys_in both)
  all_others old new both [] differ h g = tt
  all_others old new both (o ∷ os) differ h g =
      (others_both old new both o.0 differ.0 h g, all_others old new both os differ.1 h g)

  all_held : (xs both : List (K × R)) → StandIn before xs both
      → AllHeld before order xs (keys_in both)
  all_held xs [] h = tt
  all_held xs (b ∷ bs) h = (ap is_some h.0, all_held xs bs h.1)

  same_length : (both : List (K × R)) → length (keys_in both) ≡ length both
  same_length [] = refl
  same_length (b ∷ bs) = ap (λ n. suc n) (same_length bs)

  pub few : (old new : List (K × R)) → Rises before old → Rises before new
      → (os : List (K × Option R)) → Descends before os → Say before (λ k. row_at before k new) os
      → Differ before old new os
      → AreFew before old new (map (edit_at before old) os)
  few old new up_old up_new os down say differ both apart in_old in_new =
      subst (λ n. all_writes (map (edit_at before old) os) + (n + n) ≤ length old + length new)
      (same_length both)
      (writes_bound before order os old new (keys_in both) up_old up_new say
      (apart_append before (keys_of before order os) (keys_in both) (descends_apart os down)
      apart (all_others old new both os differ in_old in_new))
      (all_held old both in_old)
      (all_held new both in_new))
