-- The row with an id that no item of a change names stays.
use Rattle.std.proofs.Common.{◌≡◌, ◌∙◌, ℕ, zero, suc, List, [], ◌∷◌, ◌++◌, Bool, true, false, Option, Some, None, cond, slice_get, slice_set, remove, refl, ap, sym, subst}
use Rattle.std.specs.Prelude.{◌||◌, if◌then◌else◌, option_and_then}
use Rattle.api_types.specs.Edits.{FitsAt, list_after_at}
use Rattle.api_types.specs.Ident.{Ident}
use Rattle.api_types.specs.Live.{network_up, segment, segment_of}
use Rattle.api_types.specs.RowLists.{RowLists}
use Rattle.api_types.specs.RowsWith.{network_with}
use Rattle.api_types.specs.Table.{ident_eq, row_of}
use Rattle.api_types.specs.declared.change.Item.{Item}
use Rattle.api_types.specs.declared.kind.Kind.{Kind}
use Rattle.api_types.specs.declared.kind.Row.{Row}
use Rattle.api_types.specs.declared.network.NetworkRow.{NetworkRow}
use Rattle.api_types.specs.declared.subnet.SubnetRow.{SubnetRow}
use Rattle.api_types.proofs.ListLemmas.{none_some, or_none, some_equal}
use Rattle.plane_types.specs.Numbered.{RowItem, rows_after}
use Rattle.plane_types.specs.NumberedRows.{is_kind, row_item, row_items}
use Rattle.plane_types.specs.TableRows.{tag_of}
use Rattle.plane_types.specs.declared.table.TagRow.{TagRow}
use Rattle.plane_types.proofs.UnnamedLemmas.{is_id, names}
use Rattle.table_edits.specs.NumbersTold.{FitRows}
use Rattle.table_edits.specs.Untouched.{SaysTheSame, StaysAlike, SubnetStays}
use Rattle.touched_rows.specs.RowStays.{CarriesTheSame, RowStays}

module _ {R : Type 0} (id_of : R → Ident) (n : Ident) where
  removed : (rows : List R) (place : ℕ) (r : R) → slice_get rows place ≡ Some r → ident_eq n (id_of r) ≡ false → row_of id_of n (remove rows place) ≡ row_of id_of n rows
  removed [] place r at other = none_some r _ at
  removed (x ∷ rows) zero r at other =
      let off : ident_eq n (id_of x) ≡ false = ap (λ y. ident_eq n (id_of y)) (some_equal x r at) ∙ other in
      sym (ap (λ b. cond b (Some x) (row_of id_of n rows)) off)
  removed (x ∷ rows) (suc place) r at other = ap (λ o. cond (ident_eq n (id_of x)) (Some x) o) (removed rows place r at other)

  replaced : (rows : List R) (place : ℕ) (r row : R) → slice_get rows place ≡ Some r → ident_eq n (id_of r) ≡ false → ident_eq n (id_of row) ≡ false → row_of id_of n (slice_set rows place row) ≡ row_of id_of n rows
  replaced [] place r row at other new = none_some r _ at
  replaced (x ∷ rows) zero r row at other new =
      let off : ident_eq n (id_of x) ≡ false = ap (λ y. ident_eq n (id_of y)) (some_equal x r at) ∙ other in
      ap (λ b. cond b (Some row) (row_of id_of n rows)) new ∙ sym (ap (λ b. cond b (Some x) (row_of id_of n rows)) off)
  replaced (x ∷ rows) (suc place) r row at other new = ap (λ o. cond (ident_eq n (id_of x)) (Some x) o) (replaced rows place r row at other new)

  pushed : (rows : List R) (row : R) → ident_eq n (id_of row) ≡ false → row_of id_of n (rows ++ row ∷ []) ≡ row_of id_of n rows
  pushed [] row new = ap (λ b. cond b (Some row) None) new
  pushed (x ∷ rows) row new = ap (λ o. cond (ident_eq n (id_of x)) (Some x) o) (pushed rows row new)

  item_stays : (rows : List R) (place : ℕ) (old new : Option R) → FitsAt id_of rows place old new → is_id id_of n old ≡ false → is_id id_of n new ≡ false → row_of id_of n (list_after_at rows place old new) ≡ row_of id_of n rows
  item_stays rows place None None fits other new = absurd fits
  item_stays rows place (Some r) None fits other new = removed rows place r fits other
  item_stays rows place None (Some row) fits other new = pushed rows row new
  item_stays rows place (Some r) (Some row) fits other new = replaced rows place r row fits.0 other new

  unnamed_stays : (rows : List R) (items : List (RowItem R)) → FitRows id_of rows items → names id_of n items ≡ false → row_of id_of n (rows_after rows items) ≡ row_of id_of n rows
  unnamed_stays rows [] fits none = refl
  unnamed_stays rows (i ∷ is) fits none =
      let first = or_none (is_id id_of n i.old) (is_id id_of n i.new || names id_of n is) none in
      let rest = or_none (is_id id_of n i.new) (names id_of n is) first.1 in
      unnamed_stays (list_after_at rows i.place i.old i.new) is fits.1 rest.1 ∙ item_stays rows i.place i.old i.new fits.0 first.0 rest.0

  -- none of some items names it, where their first doesn't, and none of the others
  pub none_named : (kind : Kind) (part : Row → Option R) (item : Item) (items : List Item) → is_id id_of n (option_and_then part item.before) ≡ false → is_id id_of n (option_and_then part item.after) ≡ false
      → names id_of n (row_items kind part items) ≡ false → names id_of n (row_items kind part (item ∷ items)) ≡ false
  none_named kind part item items old new rest = go (is_kind kind item.kind)
    where
      go : (b : Bool) → names id_of n (if b then row_item kind part item ∷ row_items kind part items else row_items kind part items) ≡ false
      go true = (λ j. old j || (new j || names id_of n (row_items kind part items))) ∙ rest
      go false = rest

module _ {R : Type 0} (alike : R → R → Type 0) (itself : (r : R) → alike r r) where
  stays_itself : (o : Option R) → RowStays alike o o
  stays_itself None = tt
  stays_itself (Some r) = itself r

  -- a row that no item names stays alike
  pub unnamed_alike : (id_of : R → Ident) (n : Ident) (before after : List R) (items : List (RowItem R)) → FitRows id_of before items → after ≡ rows_after before items → names id_of n items ≡ false
      → RowStays alike (row_of id_of n before) (row_of id_of n after)
  unnamed_alike id_of n before after items fits leads none =
      let same : row_of id_of n before ≡ row_of id_of n after = sym (unnamed_stays id_of n before items fits none) ∙ ap (row_of id_of n) (sym leads) in
      subst (RowStays alike (row_of id_of n before)) same (stays_itself (row_of id_of n before))

-- ---- networks

carried : (old new : Option NetworkRow) → RowStays CarriesTheSame old new → (network_up old ≡ network_up new) × (segment_of old ≡ segment_of new)
carried None None h = (refl, refl)
carried (Some a) (Some b) h = (h.up, h.segment)
carried None (Some b) h = absurd h
carried (Some a) None h = absurd h

pub stays_alike : (before after : RowLists) (old new : List TagRow) (n : Ident) → RowStays CarriesTheSame (network_with before n) (network_with after n) → tag_of old n ≡ tag_of new n → StaysAlike before after old new n
unfolding segment
stays_alike before after old new n stays tag =
    let both = carried (network_with before n) (network_with after n) stays in record { up = both.0; on = both.1; tag = tag }

-- ---- subnets

pub subnet_stays : (old new : Option SubnetRow) → RowStays SaysTheSame old new → SubnetStays old new
subnet_stays None None h = tt
subnet_stays (Some a) (Some b) h = h
subnet_stays None (Some b) h = absurd h
subnet_stays (Some a) None h = absurd h
