-- Edits at touched numbers lead from the rows that a table has of rows of a kind to those after a
-- change, and are few.
use Rattle.std.proofs.Common.{◌≡◌, ◌∙◌, ℕ, List, Option, Some, None, false, refl, ap}
use Rattle.std.specs.Prelude.{nat_lt, option_and_then}
use Rattle.std.specs.List.{filter_map}
use Rattle.plane_types.specs.Keyed.{Enumerates, row_at, rows_by_key}
use Rattle.plane_types.specs.Numbered.{RowItem, numbered_after, rows_after, with_numbers}
use Rattle.plane_types.specs.declared.delta.Edit.{Edit}
use Rattle.plane_types.proofs.NumberedLemmas.{after_plain, after_rises, number_order, numbered_rises, plain_numbered}
use Rattle.plane_types.proofs.TableLemmas.{at_keyed, keyed_rises, keyed_rows}
use Rattle.table_edits.specs.EditsAt.{AreEditsAt, KeysDescend, among}
use Rattle.table_edits.specs.Rewires.{Rewires}
use Rattle.table_edits.proofs.EditsAtLemmas.{edits_at_lead}

module _ {X R : Type 0} (rows : List X) (is : List (RowItem X)) (h g : X → Option R) where
  abbrev before_at : ℕ → Option X
  before_at k = row_at nat_lt k (with_numbers 0 rows)

  abbrev after_at : ℕ → Option X
  after_at k = row_at nat_lt k (numbered_after rows is)

  abbrev old_rows : Enumerates nat_lt (λ k. option_and_then h (before_at k)) (filter_map h rows)
  old_rows = record {
    entries = rows_by_key nat_lt h (with_numbers 0 rows);
    rows_are = keyed_rows nat_lt number_order h (with_numbers 0 rows) ∙ ap (filter_map h) (plain_numbered 0 rows);
    rises = keyed_rises nat_lt number_order h (with_numbers 0 rows) (numbered_rises 0 rows);
    at_is = λ k. at_keyed nat_lt number_order h k (with_numbers 0 rows) (numbered_rises 0 rows);
  }

  abbrev new_rows : Enumerates nat_lt (λ k. option_and_then g (after_at k)) (filter_map g (rows_after rows is))
  new_rows = record {
    entries = rows_by_key nat_lt g (numbered_after rows is);
    rows_are = keyed_rows nat_lt number_order g (numbered_after rows is) ∙ ap (filter_map g) (after_plain rows is);
    rises = keyed_rises nat_lt number_order g (numbered_after rows is) (after_rises rows is);
    at_is = λ k. at_keyed nat_lt number_order g k (numbered_after rows is) (after_rises rows is);
  }

  pub rows_lead : (ks : List ℕ) (es : List (Edit R)) → KeysDescend nat_lt ks
      → AreEditsAt nat_lt (rows_by_key nat_lt h (with_numbers 0 rows)) (λ k. option_and_then g (after_at k)) ks es
      → ((k : ℕ) → among nat_lt k ks ≡ false → option_and_then h (before_at k) ≡ option_and_then g (after_at k))
      → Rewires nat_lt (rows_by_key nat_lt h (with_numbers 0 rows)) (rows_by_key nat_lt g (numbered_after rows is)) (filter_map h rows) (filter_map g (rows_after rows is)) es
  rows_lead ks es down are same =
      let p = edits_at_lead nat_lt number_order (λ k. option_and_then h (before_at k)) (λ k. option_and_then g (after_at k)) (filter_map h rows) (filter_map g (rows_after rows is)) old_rows new_rows ks es down are same in
      record { leads = p.0; few = p.1 }

  -- where an untouched row is as before, and what comes of it too
  pub untouched_rows : (ks : List ℕ) → ((k : ℕ) → among nat_lt k ks ≡ false → before_at k ≡ after_at k)
      → ((k : ℕ) (x : X) → among nat_lt k ks ≡ false → before_at k ≡ Some x → h x ≡ g x)
      → (k : ℕ) → among nat_lt k ks ≡ false → option_and_then h (before_at k) ≡ option_and_then g (after_at k)
  untouched_rows ks stays same k away = go (before_at k) refl ∙ ap (option_and_then g) (stays k away)
    where
      go : (o : Option X) → before_at k ≡ o → option_and_then h o ≡ option_and_then g o
      go None e = refl
      go (Some x) e = same k x away e
