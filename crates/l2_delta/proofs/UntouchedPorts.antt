-- Ports that a change doesn't touch stay what they are to a host, and rows by numbers are those of
-- the lists.
use Rattle.std.proofs.Common.{◌≡◌, ◌∙◌, ℕ, ◌+◌, arith, List, [], ◌∷◌, Option, Some, None, Bool, true, false, refl, sym, ap, subst}
use Rattle.std.specs.Prelude.{if◌then◌else◌, nat_lt, option_and_then, slice_get}
use Rattle.std.specs.List.{filter_map}
use Rattle.api_types.specs.Live.{is_live}
use Rattle.api_types.specs.RowLists.{RowLists}
use Rattle.api_types.specs.declared.port.PortRow.{PortRow}
use Rattle.api_types.proofs.NameLemmas.{by_test}
use Rattle.plane_laws.proofs.Facts.{AllOf}
use Rattle.plane_types.specs.Keyed.{are_one, row_at}
use Rattle.plane_types.specs.Numbered.{with_numbers}
use Rattle.plane_types.specs.declared.table.TagRow.{TagRow}
use Rattle.plane_types.proofs.KeyedTablesLemmas.{unkeyed}
use Rattle.plane_types.proofs.LocalLemmas.{IsAlike}
use Rattle.table_edits.specs.ChunksSeen.{chunk_at}
use Rattle.table_edits.specs.Untouched.{StaysAlike}
use Rattle.table_edits.proofs.NumberSteps.{place_row}
use Rattle.touched_rows.specs.CanLive.{can_live}
use Rattle.touched_rows.specs.SeesAlike.{SeesAlike}
use Rattle.touched_rows.proofs.SeesLemmas.{not_live}
use Rattle.l2_delta.proofs.MapLaw.{as_list}
use Rattle.l2_delta.proofs.NumberedSources.{at_numbers, of_number}

-- something holds of each row with a number
pub of_row : {X : Type 0} (P : X → Type 0) (xs : List (ℕ × X)) → AllOf P (unkeyed xs) → (k : ℕ) (x : X) → row_at nat_lt k xs ≡ Some x → P x
of_row P [] all k x h = let bad : None ≡ Some x = h in cc
of_row {X} P (z ∷ xs) all k x h = go (are_one nat_lt k z.0) h (of_row P xs all.1 k x)
  where
    go : (b : Bool) → (if b then Some z.1 else row_at nat_lt k xs) ≡ Some x → (row_at nat_lt k xs ≡ Some x → P x) → P x
    go true h rest = let same : z.1 ≡ x = cc in subst P same all.0
    go false h rest = rest h

pub alike : (before after : RowLists) (old new : List TagRow) (n : _) → StaysAlike before after old new n → IsAlike before after old new n
alike before after old new n s = record { up = s.up; on = s.on; tag = s.tag }

-- what a port that sees its network alike gives stays, if a port that isn't live gives the same
pub seen : {X : Type 0} (before after : RowLists) (old new : List TagRow) (p : PortRow)
    → SeesAlike before after old new p → (gave gives : X)
    → (IsAlike before after old new p.network → gave ≡ gives)
    → (is_live before p ≡ false → is_live after p ≡ false → gave ≡ gives)
    → gave ≡ gives
seen before after old new p sees gave gives live dead =
    by_test (can_live p) (gave ≡ gives)
    (λ can. live (alike before after old new p.network (sees can)))
    (λ off. dead (not_live before p off) (not_live after p off))

module _ {X R : Type 0} where
  pub number_stays : (gave gives : X → List R) (xs xs_now : List (ℕ × X)) (k : ℕ) → row_at nat_lt k xs ≡ row_at nat_lt k xs_now → ((x : X) → row_at nat_lt k xs ≡ Some x → gave x ≡ gives x) → of_number gave xs k ≡ of_number gives xs_now k
  number_stays gave gives xs xs_now k same each = go (row_at nat_lt k xs) refl ∙ ap (chunk_at gives) same
    where
      go : (o : Option X) → row_at nat_lt k xs ≡ o → chunk_at gave o ≡ chunk_at gives o
      go None e = refl
      go (Some x) e = each x e

  listed : (gives : X → Option R) (o : Option X) → chunk_at (λ x. as_list (gives x)) o ≡ as_list (option_and_then gives o)
  listed gives None = refl
  listed gives (Some x) = refl

  pub option_stays : (gave gives : X → Option R) (xs xs_now : List (ℕ × X)) (k : ℕ) → option_and_then gave (row_at nat_lt k xs) ≡ option_and_then gives (row_at nat_lt k xs_now)
      → of_number (λ x. as_list (gave x)) xs k ≡ of_number (λ x. as_list (gives x)) xs_now k
  option_stays gave gives xs xs_now k same = listed gave (row_at nat_lt k xs) ∙ ap as_list same ∙ sym (listed gives (row_at nat_lt k xs_now))

-- before a change a row's number is its place
pub places : {X : Type 0} (rows : List X) (ks : List ℕ) → filter_map (λ k. slice_get rows k) ks ≡ at_numbers (with_numbers 0 rows) ks
places {X} rows ks = λ j. filter_map (λ k. sym (place k) j) ks
  where
    place : (k : ℕ) → row_at nat_lt k (with_numbers 0 rows) ≡ slice_get rows k
    place k = let start : k ≡ 0 + k = omega arith in ap (λ n. row_at nat_lt n (with_numbers 0 rows)) start ∙ place_row 0 rows k
