-- The edits at touched keys lead from a table's rows to those of what is to stand, and are few.
use Rattle.std.proofs.Common.{◌≡◌, ◌∙◌, inl, inr, List, [], ◌∷◌, ◌++◌, map, Option, Some, None, Bool, true, false, true≢false, refl, sym, ap, subst}
use Rattle.std.specs.Prelude.{◌||◌, ⊤}
use Rattle.plane_types.specs.Keyed.{AllBefore, Descends, Enumerates, IsTotal, Say, are_one, names_key, row_at}
use Rattle.plane_types.specs.Edits.{AreFew, Differ, edit_at, with_edits}
use Rattle.plane_types.specs.declared.delta.Edit.{Edit}
use Rattle.plane_types.proofs.KeyedLemmas.{apart_first, apart_second, three_ways}
use Rattle.plane_types.proofs.LeadLemmas.{leads_from_back}
use Rattle.plane_types.proofs.FewLemmas.{few}
use Rattle.table_edits.specs.EditsAt.{AreEditsAt, IsEditAt, KeysBefore, KeysDescend, among}

module _ {K R : Type 0} (before : K → K → Bool) (order : IsTotal before) (xs : List (K × R)) (after : K → Option R) where
  abbrev DifferAt : List (K × Option R) → Type 0
  DifferAt [] = ⊤
  DifferAt (o ∷ os) = (row_at before o.0 xs ≡ after o.0 → ⊥) × DifferAt os

  -- the puts that edits at these keys are
  pub record Puts (ks : List K) (es : List (Edit R)) : Type 0 where
    pub os : List (K × Option R)
    pub is : es ≡ map (edit_at before xs) os
    pub down : Descends before os
    pub say : Say before after os
    pub differ : DifferAt os
    pub covers : (q : K) → among before q ks ≡ true → names_key before q os ≡ false → row_at before q xs ≡ after q
    pub within : (k : K) → KeysBefore before k ks → AllBefore before k os

  or_none : (a b : Bool) → a || b ≡ false → (a ≡ false) × (b ≡ false)
  or_none true b h = cc
  or_none false b h = (refl, h)

  -- a key of these is the first or one of the others
  covers_more : (k : K) (ks : List K) (q : K) (P : Type 0) → among before q (k ∷ ks) ≡ true → (q ≡ k → P) → (among before q ks ≡ true → P) → P
  covers_more k ks q P there here later = three_ways before order q k P
      (λ e. later (sym (ap (λ b. b || among before q ks) (apart_first before order q k e)) ∙ there))
      (λ e. later (sym (ap (λ b. b || among before q ks) (apart_second before order q k e)) ∙ there))
      (λ e f. here (order.same q k e f))

  pub puts_of : (ks : List K) (es : List (Edit R)) → KeysDescend before ks → AreEditsAt before xs after ks es → Puts ks es
  puts_of [] es down is = record {
    os = [];
    is = is;
    down = tt;
    say = tt;
    differ = tt;
    covers = λ q there none. absurd (true≢false (sym there));
    within = λ k h. tt;
  }
  puts_of (k ∷ ks) es down (inl h) =
      let p = puts_of ks es down.1 h.1 in
      record {
        os = p.os;
        is = p.is;
        down = p.down;
        say = p.say;
        differ = p.differ;
        covers = λ q there none. covers_more k ks q (row_at before q xs ≡ after q) there (λ e. subst (λ z. row_at before z xs ≡ after z) (sym e) h.0) (λ later. p.covers q later none);
        within = λ q h'. p.within q h'.1;
      }
  puts_of (k ∷ ks) es down (inr h) =
      let p = puts_of ks h.1.0 down.1 h.1.2 in
      record {
        os = (k, after k) ∷ p.os;
        is = h.1.1 ∙ ap (λ l. edit_at before xs (k, after k) ∷ l) p.is;
        down = (p.within k down.0, p.down);
        say = (refl, p.say);
        differ = (h.0, p.differ);
        covers = λ q there none.
            let both = or_none (are_one before q k) (names_key before q p.os) none in
            p.covers q (sym (ap (λ b. b || among before q ks) both.0) ∙ there) both.1;
        within = λ q h'. (h'.0, p.within q h'.1);
      }

module _ {K R : Type 0} (before : K → K → Bool) (order : IsTotal before) where
  say_at : (new : List (K × R)) (after : K → Option R) → ((k : K) → row_at before k new ≡ after k) → (os : List (K × Option R)) → Say before after os → Say before (λ k. row_at before k new) os
  say_at new after at [] h = tt
  say_at new after at (o ∷ os) h = (h.0 ∙ sym (at o.0), say_at new after at os h.1)

  differ_at : (old new : List (K × R)) (after : K → Option R) → ((k : K) → row_at before k new ≡ after k) → (os : List (K × Option R)) → DifferAt before order old after os → Differ before old new os
  differ_at old new after at [] h = tt
  differ_at old new after at (o ∷ os) h = ((λ e. h.0 (e ∙ at o.0)), differ_at old new after at os h.1)

  -- where the two functions agree at all keys but these
  pub edits_at_lead : (f g : K → Option R) (rows ys : List R) (old : Enumerates before f rows) (new : Enumerates before g ys) (ks : List K) (es : List (Edit R))
      → KeysDescend before ks → AreEditsAt before old.entries g ks es → ((q : K) → among before q ks ≡ false → f q ≡ g q)
      → (with_edits rows es ≡ ys) × AreFew before old.entries new.entries es
  edits_at_lead f g rows ys old new ks es down are agree =
      let p : Puts before order old.entries g ks es = puts_of before order old.entries g ks es down are in (
        ap (with_edits rows) p.is ∙ leads_from_back before order f g rows ys old new p.os p.down p.say (λ q none. alike p q none (among before q ks) refl),
        subst (AreFew before old.entries new.entries) (sym p.is)
            (few before order old.entries new.entries old.rises new.rises p.os p.down (say_at new.entries g new.at_is p.os p.say) (differ_at old.entries new.entries g new.at_is p.os p.differ)),
      )
    where
      alike : (p : Puts before order old.entries g ks es) (q : K) → names_key before q p.os ≡ false → (b : Bool) → among before q ks ≡ b → f q ≡ g q
      alike p q none true there = sym (old.at_is q) ∙ p.covers q there none
      alike p q none false away = agree q away

-- ---- the loop that finds them
module _ {K R : Type 0} (before : K → K → Bool) (xs : List (K × R)) (after : K → Option R) where
  push : (es : List (Edit R)) (e : Edit R) (rest : List (Edit R)) → (es ++ e ∷ []) ++ rest ≡ es ++ e ∷ rest
  push [] e rest = refl
  push (x ∷ es) e rest = ap (λ l. x ∷ l) (push es e rest)

  append_none : (es : List (Edit R)) → es ++ [] ≡ es
  append_none [] = refl
  append_none (x ∷ es) = ap (λ l. x ∷ l) (append_none es)

  -- the edits so far before any at the keys that are left
  abbrev pub AreSoFar : List K → List K → List (Edit R) → Type 0
  AreSoFar all left es = (rest : List (Edit R)) → AreEditsAt before xs after left rest → AreEditsAt before xs after all (es ++ rest)

  pub step_some : (all ks : List K) (k : K) (es : List (Edit R)) (e : Edit R) → AreSoFar all (k ∷ ks) es
      → IsEditAt before xs after k (Some e) → AreSoFar all ks (es ++ e ∷ [])
  step_some all ks k es e so_far is rest h =
      subst (AreEditsAt before xs after all) (sym (push es e rest))
      (so_far (e ∷ rest) (inr (is.0, (rest, ap (λ y. y ∷ rest) is.1, h))))

  pub step_none : (all ks : List K) (k : K) (es : List (Edit R)) → AreSoFar all (k ∷ ks) es
      → IsEditAt before xs after k None → AreSoFar all ks es
  step_none all ks k es so_far is rest h = so_far rest (inl (is, h))

  pub done : (all : List K) (es : List (Edit R)) → AreSoFar all [] es → AreEditsAt before xs after all es
  done all es so_far = subst (AreEditsAt before xs after all) (append_none es) (so_far [] refl)
