-- The table of one kind after the items of a change: its rows, its length and its ids.
use Rattle.std.proofs.Common.{◌≡◌, ℕ, zero, suc, ◌+◌, ◌-◌, ◌<◌, ◌≤◌, List, [], ◌∷◌, ◌++◌, Bool, true, false, cond, Option, None, Some, length, take, get_or, slice_get, slice_set, remove, refl, ap, sym, ◌∙◌, subst, arith, true≢false}
use Rattle.std.specs.Prelude.{option_and_then, is_some, nat_le, ◌==◌, IsSome, if◌then◌else◌}
use Rattle.std.proofs.lemmas.Bool.Decides.{nat_tests}
use Rattle.api_types.specs.Ident.{Ident}
use Rattle.api_types.specs.Table.{row_of, ident_eq, HaveOwnIds}
use Rattle.api_types.specs.Edits.{list_after, list_after_at, FitsAt, IsOfKind}
use Rattle.api_types.specs.TableItems.{same_kind, place_before, after_one, after_all, FitsIf, FitAll, said_of, said_by}
use Rattle.api_types.specs.declared.change.Item.{Item}
use Rattle.api_types.specs.declared.kind.Kind.{Kind}
use Rattle.api_types.specs.declared.kind.Row.{Row}
use Rattle.api_types.proofs.NameLemmas.{ident_same}
use Rattle.api_types.proofs.EditLemmas.{own_still, absent_removed}
use Rattle.api_types.proofs.ChangeLemmas.{last_of}

module _ {R : Type 0} where
  -- a place behind the one that closed up, and one in front of it
  got_past : (rows : List R) (q p : ℕ) → q ≤ p → slice_get (remove rows q) p ≡ slice_get rows (suc p)
  got_past [] zero p le = refl
  got_past [] (suc q) p le = refl
  got_past (x ∷ rows) zero p le = refl
  got_past (x ∷ rows) (suc q) zero le = absurd (omega arith)
  got_past (x ∷ rows) (suc q) (suc p) le = got_past rows q p (omega arith)

  got_front : (rows : List R) (q p : ℕ) → p < q → slice_get (remove rows q) p ≡ slice_get rows p
  got_front [] zero p lt = absurd (omega arith)
  got_front [] (suc q) p lt = refl
  got_front (x ∷ rows) zero p lt = absurd (omega arith)
  got_front (x ∷ rows) (suc q) zero lt = refl
  got_front (x ∷ rows) (suc q) (suc p) lt = got_front rows q p (omega arith)

  got_set : (rows : List R) (q : ℕ) (old row : R) → slice_get rows q ≡ Some old → slice_get (slice_set rows q row) q ≡ Some row
  got_set [] q old row at = cc
  got_set (x ∷ rows) zero old row at = refl
  got_set (x ∷ rows) (suc q) old row at = got_set rows q old row at

  got_other : (rows : List R) (q p : ℕ) (row : R) → (q ≡ p → ⊥) → slice_get (slice_set rows q row) p ≡ slice_get rows p
  got_other [] q p row off = refl
  got_other (x ∷ rows) zero zero row off = absurd (off refl)
  got_other (x ∷ rows) zero (suc p) row off = refl
  got_other (x ∷ rows) (suc q) zero row off = refl
  got_other (x ∷ rows) (suc q) (suc p) row off = got_other rows q p row (λ e. off (ap suc e))

  got_last : (rows : List R) (row : R) (q : ℕ) → q ≡ length rows → slice_get (rows ++ row ∷ []) q ≡ Some row
  got_last [] row zero e = refl
  got_last [] row (suc q) e = absurd (omega arith)
  got_last (x ∷ rows) row zero e = absurd (omega arith)
  got_last (x ∷ rows) row (suc q) e = got_last rows row q (omega arith)

  got_earlier : (rows : List R) (row : R) (q p : ℕ) → q ≡ length rows → (q ≡ p → ⊥) → slice_get (rows ++ row ∷ []) p ≡ slice_get rows p
  got_earlier [] row q zero e off = absurd (off e)
  got_earlier [] row q (suc p) e off = refl
  got_earlier (x ∷ rows) row q zero e off = refl
  got_earlier (x ∷ rows) row q (suc p) e off = got_earlier rows row (length rows) p refl (λ z. off (e ∙ ap suc z))

  -- one more item at the end
  pub all-push : (kind : Kind) (part : Row → Option R) (rows : List R) (items : List Item) (item : Item)
      → after_all kind part rows (items ++ item ∷ []) ≡ after_one kind part (after_all kind part rows items) item
  all-push kind part rows [] item = refl
  all-push kind part rows (x ∷ items) item = all-push kind part (after_one kind part rows x) items item

module _ {R : Type 0} (kind : Kind) (part : Row → Option R) (id_of : R → Ident) where
  pub all-parts : (rows : List R) (items : List Item) (item : Item) → FitAll kind part id_of rows (items ++ item ∷ [])
      → FitAll kind part id_of rows items × FitsIf (same_kind item.kind kind) part id_of (after_all kind part rows items) item
  all-parts rows [] item fits = (tt, fits.0)
  all-parts rows (x ∷ items) item fits = let rest = all-parts (after_one kind part rows x) items item fits.1 in ((fits.0, rest.0), rest.1)

  -- the last of the items that are left, apart
  pub record Apart (rows : List R) (left fewer : List Item) (item : Item) : Type 0 where
    pub rest : FitAll kind part id_of rows fewer
    pub fits : FitsIf (same_kind item.kind kind) part id_of (after_all kind part rows fewer) item
    pub leads : after_one kind part (after_all kind part rows fewer) item ≡ after_all kind part rows left

  pub last_apart : (rows : List R) (items : List Item) (i : ℕ) (item : Item) → i < length items → item ≡ get_or items (length items - 1 - i) item
      → FitAll kind part id_of rows (take (length items - i) items) → Apart rows (take (length items - i) items) (take (length items - (i + 1)) items) item
  last_apart rows items i item within is fits =
      let fewer = take (length items - (i + 1)) items in
      let last = last_of items i item within is in
      let parts = all-parts rows fewer item (subst (FitAll kind part id_of rows) last fits) in
      record {
        rest = parts.0;
        fits = parts.1;
        leads = sym (all-push kind part rows fewer item) ∙ ap (after_all kind part rows) (sym last);
      }

  own_one : (rows : List R) (item : Item) → HaveOwnIds id_of rows → FitsIf (same_kind item.kind kind) part id_of rows item → HaveOwnIds id_of (after_one kind part rows item)
  own_one rows item own fits = by (same_kind item.kind kind) fits
    where
      by : (b : Bool) → FitsIf b part id_of rows item → HaveOwnIds id_of (cond b (list_after part rows item) rows)
      by true fits = own_still id_of rows item.place (option_and_then part item.before) (option_and_then part item.after) own fits.2
      by false fits = own

  -- each row keeps an id of its own
  pub own_all : (rows : List R) (items : List Item) → HaveOwnIds id_of rows → FitAll kind part id_of rows items → HaveOwnIds id_of (after_all kind part rows items)
  own_all rows [] own fits = own
  own_all rows (x ∷ items) own fits = own_all (after_one kind part rows x) items (own_one rows x own fits.0) fits.1

  -- what stands at a place after an item stood at another before it

  put_at : (rows : List R) (place : ℕ) (before : Option R) (row : R) → FitsAt id_of rows place before (Some row)
      → slice_get (list_after_at rows place before (Some row)) place ≡ Some row
  put_at rows place None row fits = got_last rows row place fits.0
  put_at rows place (Some old) row fits = got_set rows place old row fits.0

  left_at : (rows : List R) (place at : ℕ) (before : Option R) (row : R) → FitsAt id_of rows place before (Some row) → (place ≡ at → ⊥)
      → slice_get (list_after_at rows place before (Some row)) at ≡ slice_get rows at
  left_at rows place at None row fits off = got_earlier rows row place at fits.0 off
  left_at rows place at (Some old) row fits off = got_other rows place at row off

-- what stands at a place after an item: what it put there, or what stood at a place before it
abbrev IsBack : {R : Type 0} → List R → List R → ℕ → Option R → Option ℕ → Type 0
IsBack now rows at put None = slice_get now at ≡ put
IsBack now rows at put (Some before) = slice_get now at ≡ slice_get rows before

at_most : (a b : ℕ) → nat_le a b ≡ true → a ≤ b
at_most a b h = grind (arith, nat_tests)

above : (a b : ℕ) → nat_le a b ≡ false → b < a
above a b h = grind (arith, nat_tests)

equal : (a b : ℕ) → (a == b) ≡ true → a ≡ b
equal a b h = grind (arith, nat_tests)

apart : (a b : ℕ) → (a == b) ≡ false → a ≡ b → ⊥
apart a b h e = grind (arith, nat_tests)

module _ {R : Type 0} (kind : Kind) (part : Row → Option R) (id_of : R → Ident) where
  back_removed : (rows : List R) (place at : ℕ) (put : Option R) (b : Bool) → nat_le place at ≡ b
      → IsBack (remove rows place) rows at put (if b then Some (at + 1) else Some at)
  back_removed rows place at put true e =
      let more : suc at ≡ at + 1 = omega arith in
      got_past rows place at (at_most place at e) ∙ ap (slice_get rows) more
  back_removed rows place at put false e = got_front rows place at (above place at e)

  back_put : (rows : List R) (place at : ℕ) (before : Option R) (row : R) → FitsAt id_of rows place before (Some row) → (b : Bool) → (place == at) ≡ b
      → IsBack (list_after_at rows place before (Some row)) rows at (Some row) (if b then None else Some at)
  back_put rows place at before row fits true e =
      ap (slice_get (list_after_at rows place before (Some row))) (sym (equal place at e)) ∙ put_at kind part id_of rows place before row fits
  back_put rows place at before row fits false e = left_at kind part id_of rows place at before row fits (apart place at e)

  back_some : (rows : List R) (place at : ℕ) (before after : Option R) → IsSome after → FitsAt id_of rows place before after
      → IsBack (list_after_at rows place before after) rows at after (if place == at then None else Some at)
  back_some rows place at before None is fits = absurd (true≢false (sym is))
  back_some rows place at before (Some row) is fits = back_put rows place at before row fits (place == at) refl

  back_item : (rows : List R) (place at : ℕ) (before : Option R) (after : Option Row) → IsOfKind part after → FitsAt id_of rows place before (option_and_then part after)
      → IsBack (list_after_at rows place before (option_and_then part after)) rows at (option_and_then part after)
      (if is_some after then (if place == at then None else Some at) else (if nat_le place at then Some (at + 1) else Some at))
  back_item rows place at before None is fits = back_removed rows place at None (nat_le place at) refl
  back_item rows place at before (Some row) is fits = back_some rows place at before (part row) is fits

  back_one : (rows : List R) (item : Item) (at : ℕ) (b : Bool) → FitsIf b part id_of rows item
      → IsBack (cond b (list_after part rows item) rows) rows at (option_and_then part item.after)
      (if b then
      (if is_some item.after then (if item.place == at then None else Some at)
      else (if nat_le item.place at then Some (at + 1) else Some at))
      else Some at)
  back_one rows item at true fits = back_item rows item.place at (option_and_then part item.before) item.after fits.1 fits.2
  back_one rows item at false fits = refl

  -- the row at a place after an item stood at the place before it that is told
  pub stood_at : (rows : List R) (item : Item) (at before : ℕ) → FitsIf (same_kind item.kind kind) part id_of rows item → Some before ≡ place_before kind item at
      → slice_get (after_one kind part rows item) at ≡ slice_get rows before
  stood_at rows item at before fits told =
      subst (IsBack (after_one kind part rows item) rows at (option_and_then part item.after)) (sym told) (back_one rows item at (same_kind item.kind kind) fits)

  -- or else it is the one that the item put there
  pub was_put : (rows : List R) (item : Item) (at : ℕ) → FitsIf (same_kind item.kind kind) part id_of rows item → None ≡ place_before kind item at
      → slice_get (after_one kind part rows item) at ≡ option_and_then part item.after
  was_put rows item at fits told =
      subst (IsBack (after_one kind part rows item) rows at (option_and_then part item.after)) (sym told) (back_one rows item at (same_kind item.kind kind) fits)

-- whether an id is there after an item

module _ {R : Type 0} (id_of : R → Ident) where
  found_pushed : (i : Ident) (rows : List R) (row : R) → ident_eq i (id_of row) ≡ true → is_some (row_of id_of i (rows ++ row ∷ [])) ≡ true
  found_pushed i [] row e = ap (λ b. is_some (cond b (Some row) None)) e
  found_pushed i (x ∷ rows) row e = by (ident_eq i (id_of x)) (found_pushed i rows row e)
    where
      by : (b : Bool) → is_some (row_of id_of i (rows ++ row ∷ [])) ≡ true → is_some (cond b (Some x) (row_of id_of i (rows ++ row ∷ []))) ≡ true
      by true h = refl
      by false h = h

  other_pushed : (i : Ident) (rows : List R) (row : R) → ident_eq i (id_of row) ≡ false → row_of id_of i (rows ++ row ∷ []) ≡ row_of id_of i rows
  other_pushed i [] row e = ap (λ b. cond b (Some row) None) e
  other_pushed i (x ∷ rows) row e = ap (cond (ident_eq i (id_of x)) (Some x)) (other_pushed i rows row e)

  other_removed : (i : Ident) (rows : List R) (place : ℕ) (old : R) → slice_get rows place ≡ Some old → ident_eq i (id_of old) ≡ false
      → row_of id_of i (remove rows place) ≡ row_of id_of i rows
  other_removed i [] place old at e = cc
  other_removed i (x ∷ rows) zero old at e =
      let same : x ≡ old = cc in
      sym (ap (λ b. cond b (Some x) (row_of id_of i rows)) (ap (λ r. ident_eq i (id_of r)) same ∙ e))
  other_removed i (x ∷ rows) (suc place) old at e = ap (cond (ident_eq i (id_of x)) (Some x)) (other_removed i rows place old at e)

  gone_removed : (i : Ident) (rows : List R) (place : ℕ) (old : R) → HaveOwnIds id_of rows → slice_get rows place ≡ Some old → ident_eq i (id_of old) ≡ true
      → row_of id_of i (remove rows place) ≡ None
  gone_removed i rows place old own at e =
      ap (λ k. row_of id_of k (remove rows place)) (ident_same i (id_of old) e) ∙ absent_removed id_of rows place old own at

  some_by : (b : Bool) (x y : R) (o p : Option R) → is_some o ≡ is_some p → is_some (cond b (Some x) o) ≡ is_some (cond b (Some y) p)
  some_by true x y o p e = refl
  some_by false x y o p e = e

  -- a row in the place of one with its id
  same_set : (i : Ident) (rows : List R) (place : ℕ) (old row : R) → slice_get rows place ≡ Some old → id_of row ≡ id_of old
      → is_some (row_of id_of i (slice_set rows place row)) ≡ is_some (row_of id_of i rows)
  same_set i [] place old row at same = cc
  same_set i (x ∷ rows) zero old row at same =
      let is : old ≡ x = cc in
      ap (λ k. is_some (cond (ident_eq i k) (Some row) (row_of id_of i rows))) (same ∙ ap id_of is)
      ∙ some_by (ident_eq i (id_of x)) row x (row_of id_of i rows) (row_of id_of i rows) refl
  same_set i (x ∷ rows) (suc place) old row at same =
      some_by (ident_eq i (id_of x)) x x (row_of id_of i (slice_set rows place row)) (row_of id_of i rows) (same_set i rows place old row at same)

  found_at : (i : Ident) (rows : List R) (place : ℕ) (row : R) → slice_get rows place ≡ Some row → ident_eq i (id_of row) ≡ true → is_some (row_of id_of i rows) ≡ true
  found_at i [] place row at e = cc
  found_at i (x ∷ rows) zero row at e =
      let same : x ≡ row = cc in
      ap (λ b. is_some (cond b (Some x) (row_of id_of i rows))) (ap (λ r. ident_eq i (id_of r)) same ∙ e)
  found_at i (x ∷ rows) (suc place) row at e = by (ident_eq i (id_of x)) (found_at i rows place row at e)
    where
      by : (b : Bool) → is_some (row_of id_of i rows) ≡ true → is_some (cond b (Some x) (row_of id_of i rows)) ≡ true
      by true h = refl
      by false h = h

  -- what an item says of an id, and where it says nothing
  abbrev IsSaid : Ident → List R → List R → Option Bool → Type 0
  IsSaid i now rows None = is_some (row_of id_of i now) ≡ is_some (row_of id_of i rows)
  IsSaid i now rows (Some there) = is_some (row_of id_of i now) ≡ there

  said_added : (i : Ident) (rows : List R) (row : R) (b : Bool) → ident_eq i (id_of row) ≡ b
      → IsSaid i (rows ++ row ∷ []) rows (if b then Some true else None)
  said_added i rows row true e = found_pushed i rows row e
  said_added i rows row false e = ap is_some (other_pushed i rows row e)

  said_removed : (i : Ident) (rows : List R) (place : ℕ) (old : R) → HaveOwnIds id_of rows → slice_get rows place ≡ Some old → (b : Bool) → ident_eq i (id_of old) ≡ b
      → IsSaid i (remove rows place) rows (if b then Some false else None)
  said_removed i rows place old own at true e = ap is_some (gone_removed i rows place old own at e)
  said_removed i rows place old own at false e = ap is_some (other_removed i rows place old at e)

  said_set : (i : Ident) (rows : List R) (place : ℕ) (old row : R) → slice_get rows place ≡ Some old → id_of row ≡ id_of old → (b : Bool) → ident_eq i (id_of old) ≡ b
      → IsSaid i (slice_set rows place row) rows (if b then Some true else (if b then Some false else None))
  said_set i rows place old row at same true e = same_set i rows place old row at same ∙ found_at i rows place old at e
  said_set i rows place old row at same false e = same_set i rows place old row at same

  said_at : (i : Ident) (rows : List R) (place : ℕ) (before after : Option R) → HaveOwnIds id_of rows → FitsAt id_of rows place before after
      → IsSaid i (list_after_at rows place before after) rows (said_of id_of i before after)
  said_at i rows place None None own fits = absurd fits
  said_at i rows place None (Some row) own fits = said_added i rows row (ident_eq i (id_of row)) refl
  said_at i rows place (Some old) None own fits = said_removed i rows place old own fits (ident_eq i (id_of old)) refl
  said_at i rows place (Some old) (Some row) own fits =
      subst (λ k. IsSaid i (slice_set rows place row) rows (if ident_eq i k then Some true else (if ident_eq i (id_of old) then Some false else None))) (sym fits.1)
      (said_set i rows place old row fits.0 fits.1 (ident_eq i (id_of old)) refl)

module _ {R : Type 0} (kind : Kind) (part : Row → Option R) (id_of : R → Ident) where
  said_one : (i : Ident) (rows : List R) (item : Item) (b : Bool) → HaveOwnIds id_of rows → FitsIf b part id_of rows item
      → IsSaid id_of i (cond b (list_after part rows item) rows) rows (if b then said_of id_of i (option_and_then part item.before) (option_and_then part item.after) else None)
  said_one i rows item true own fits = said_at id_of i rows item.place (option_and_then part item.before) (option_and_then part item.after) own fits.2
  said_one i rows item false own fits = refl

  -- an id is there after an item as the item says
  pub said_there : (i : Ident) (rows : List R) (item : Item) (there : Bool) → HaveOwnIds id_of rows → FitsIf (same_kind item.kind kind) part id_of rows item
      → Some there ≡ said_by kind part id_of i item → is_some (row_of id_of i (after_one kind part rows item)) ≡ there
  said_there i rows item there own fits told =
      subst (IsSaid id_of i (after_one kind part rows item) rows) (sym told) (said_one i rows item (same_kind item.kind kind) own fits)

  -- and as before it, where the item says nothing
  pub said_nothing : (i : Ident) (rows : List R) (item : Item) → HaveOwnIds id_of rows → FitsIf (same_kind item.kind kind) part id_of rows item
      → None ≡ said_by kind part id_of i item → is_some (row_of id_of i (after_one kind part rows item)) ≡ is_some (row_of id_of i rows)
  said_nothing i rows item own fits told =
      subst (IsSaid id_of i (after_one kind part rows item) rows) (sym told) (said_one i rows item (same_kind item.kind kind) own fits)
