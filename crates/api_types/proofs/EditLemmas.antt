-- Edits of lists of rows with ids of their own, and edits taken back.
use Rattle.std.proofs.Common.{◌≡◌, ℕ, zero, suc, List, [], ◌∷◌, ◌++◌, Bool, true, false, cond, Option, None, Some, length, map, slice_get, slice_set, insert, remove, refl, ap, sym, ◌∙◌, subst, arith}
use Rattle.std.specs.Prelude.{option_and_then, is_some}
use Rattle.std.specs.List.{IsDistinct, AllByRecursion}
use Rattle.api_types.specs.Ident.{Ident}
use Rattle.api_types.specs.Table.{row_of, ident_eq, HaveOwnIds}
use Rattle.api_types.specs.Edits.{list_after_at, list_before_at, FitsAt, CameFrom}
use Rattle.api_types.specs.declared.kind.Row.{Row}
use Rattle.api_types.specs.declared.change.Item.{Item}
use Rattle.api_types.proofs.TableLemmas.{ident_eq-sym, differs}

module _ {R : Type 0} where
  -- a row that was added last is taken off
  removed_last : (rows : List R) (r : R) (place : ℕ) → place ≡ length rows → remove (rows ++ r ∷ []) place ≡ rows
  removed_last [] r zero e = refl
  removed_last [] r (suc place) e = absurd (omega arith)
  removed_last (x ∷ rows) r zero e = absurd (omega arith)
  removed_last (x ∷ rows) r (suc place) e = ap (λ l. x ∷ l) (removed_last rows r place (omega arith))

  -- a row that was taken out stands at its place again
  back_in : (rows : List R) (place : ℕ) (r : R) → slice_get rows place ≡ Some r → insert (remove rows place) place r ≡ rows
  back_in [] place r at = cc
  back_in (x ∷ rows) zero r at = let same : r ≡ x = cc in ap (λ y. y ∷ rows) same
  back_in (x ∷ rows) (suc place) r at = ap (λ l. x ∷ l) (back_in rows place r at)

  -- a row that was replaced is put in its place again
  set_back : (rows : List R) (place : ℕ) (old row : R) → slice_get rows place ≡ Some old → slice_set (slice_set rows place row) place old ≡ rows
  set_back [] place old row at = cc
  set_back (x ∷ rows) zero old row at = let same : old ≡ x = cc in ap (λ y. y ∷ rows) same
  set_back (x ∷ rows) (suc place) old row at = ap (λ l. x ∷ l) (set_back rows place old row at)

module _ {R : Type 0} (id_of : R → Ident) where
  -- an item that is taken back leaves the rows as they were
  pub undone : (rows : List R) (place : ℕ) (before after : Option R) → FitsAt id_of rows place before after → list_before_at (list_after_at rows place before after) place before after ≡ rows
  undone rows place None None fits = absurd fits
  undone rows place None (Some row) fits = removed_last rows row place fits.0
  undone rows place (Some old) None fits = back_in rows place old fits
  undone rows place (Some old) (Some row) fits = set_back rows place old row fits.0

  none_of : (k : Ident) (rows : List R) → AllByRecursion (λ y. ident_eq k y ≡ false) (map id_of rows) → row_of id_of k rows ≡ None
  none_of k [] all = refl
  none_of k (x ∷ rows) all = ap (λ b. cond b (Some x) (row_of id_of k rows)) all.0 ∙ none_of k rows all.1

  -- the id of a row that is taken out is no other row's
  pub absent_removed : (rows : List R) (place : ℕ) (r : R) → HaveOwnIds id_of rows → slice_get rows place ≡ Some r → row_of id_of (id_of r) (remove rows place) ≡ None
  unfolding IsDistinct
  absent_removed [] place r own at = cc
  absent_removed (x ∷ rows) zero r own at = let same : x ≡ r = cc in subst (λ y. row_of id_of (id_of y) rows ≡ None) same (none_of (id_of x) rows own.0)
  absent_removed (x ∷ rows) (suc place) r own at =
      let apart : ident_eq (id_of r) (id_of x) ≡ false = ident_eq-sym (id_of r) (id_of x) ∙ differs id_of place r (id_of x) rows own.0 at in
      ap (λ b. cond b (Some x) (row_of id_of (id_of r) (remove rows place))) apart ∙ absent_removed rows place r own.1 at

  all-removed : (P : Ident → Type 0) (rows : List R) (place : ℕ) → AllByRecursion P (map id_of rows) → AllByRecursion P (map id_of (remove rows place))
  all-removed P [] zero all = all
  all-removed P [] (suc place) all = all
  all-removed P (x ∷ rows) zero all = all.1
  all-removed P (x ∷ rows) (suc place) all = (all.0, all-removed P rows place all.1)

  own-removed : (rows : List R) (place : ℕ) → HaveOwnIds id_of rows → HaveOwnIds id_of (remove rows place)
  unfolding IsDistinct
  own-removed [] zero own = own
  own-removed [] (suc place) own = own
  own-removed (x ∷ rows) zero own = own.1
  own-removed (x ∷ rows) (suc place) own = (all-removed _ rows place own.0, own-removed rows place own.1)

  all-push : (P : Ident → Type 0) (rows : List R) (r : R) → AllByRecursion P (map id_of rows) → P (id_of r) → AllByRecursion P (map id_of (rows ++ r ∷ []))
  all-push P [] r all one = (one, tt)
  all-push P (x ∷ rows) r all one = (all.0, all-push P rows r all.1 one)

  first_differs : (k : Ident) (x : R) (rows : List R) → row_of id_of k (x ∷ rows) ≡ None → (ident_eq k (id_of x) ≡ false) × (row_of id_of k rows ≡ None)
  first_differs k x rows e = by (ident_eq k (id_of x)) e
    where
      by : (b : Bool) → cond b (Some x) (row_of id_of k rows) ≡ None → (b ≡ false) × (row_of id_of k rows ≡ None)
      by true h = cc
      by false h = (refl, h)

  own-push : (rows : List R) (r : R) → HaveOwnIds id_of rows → row_of id_of (id_of r) rows ≡ None → HaveOwnIds id_of (rows ++ r ∷ [])
  unfolding IsDistinct
  own-push [] r own e = (tt, tt)
  own-push (x ∷ rows) r own e =
      let d = first_differs (id_of r) x rows e in
      (all-push _ rows r own.0 (ident_eq-sym (id_of x) (id_of r) ∙ d.0), own-push rows r own.1 d.1)

  ids-set : (rows : List R) (place : ℕ) (old row : R) → slice_get rows place ≡ Some old → id_of row ≡ id_of old → map id_of (slice_set rows place row) ≡ map id_of rows
  ids-set [] place old row at same = cc
  ids-set (x ∷ rows) zero old row at same = let is : old ≡ x = cc in ap (λ i. i ∷ map id_of rows) (same ∙ ap id_of is)
  ids-set (x ∷ rows) (suc place) old row at same = ap (λ l. id_of x ∷ l) (ids-set rows place old row at same)

  -- an item that fits leaves each row an id of its own
  pub own_still : (rows : List R) (place : ℕ) (before after : Option R) → HaveOwnIds id_of rows → FitsAt id_of rows place before after → HaveOwnIds id_of (list_after_at rows place before after)
  own_still rows place None None own fits = absurd fits
  own_still rows place None (Some row) own fits = own-push rows row own fits.1
  own_still rows place (Some old) None own fits = own-removed rows place own
  own_still rows place (Some old) (Some row) own fits = subst (IsDistinct ident_eq) (sym (ids-set rows place old row fits.0 fits.1)) own

-- what an item took out is in no row that is left, so it can be put in again
pub new_again : {R : Type 0} (part : Row → Option R) (id_of : R → Ident) (now : List R) (item : Item) (row : R) → CameFrom part id_of now item
    → option_and_then part item.before ≡ Some row → is_some item.after ≡ false → row_of id_of (id_of row) now ≡ None
new_again {R} part id_of now item row came old gone = by (option_and_then part item.before) (option_and_then part item.after) old (none_left item.after gone) came.fits.2 came.now_is
  where
    none_left : (o : Option Row) → is_some o ≡ false → option_and_then part o ≡ None
    none_left None e = refl
    none_left (Some x) e = cc

    by : (b a : Option R) → b ≡ Some row → a ≡ None → FitsAt id_of came.rows item.place b a → now ≡ list_after_at came.rows item.place b a → row_of id_of (id_of row) now ≡ None
    by None a e f fits is = cc
    by (Some x) (Some y) e f fits is = cc
    by (Some x) None e f fits is = ap (row_of id_of (id_of row)) is ∙ absent_removed id_of came.rows item.place row came.own_ids (fits ∙ e)
