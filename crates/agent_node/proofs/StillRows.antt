-- A still change makes rows that differ in their networks alone, and in these by neither ids nor
-- states nor segments.
use Rattle.std.proofs.Common.{◌≡◌, ◌∙◌, ℕ, zero, suc, List, [], ◌∷◌, map, Option, Some, None, Bool, true, false, cond, slice_get, slice_set, refl, sym, ap, subst}
use Rattle.std.specs.Prelude.{option_and_then}
use Rattle.api_types.specs.Edits.{FitsAt, list_after, list_after_at}
use Rattle.api_types.specs.Ident.{Ident}
use Rattle.api_types.specs.Live.{network_up, segment_of}
use Rattle.api_types.specs.Parts.{network_of}
use Rattle.api_types.specs.RowLists.{RowLists}
use Rattle.api_types.specs.Rows.{Fits, FitsItem, FitsOfKind, after, after_item, after_of_kind}
use Rattle.api_types.specs.RowsWith.{network_with}
use Rattle.api_types.specs.Table.{ident_eq, row_of}
use Rattle.api_types.specs.declared.change.Item.{Item}
use Rattle.api_types.specs.declared.network.NetworkRow.{NetworkRow}
use Rattle.api_types.proofs.ListLemmas.{none_some, some_equal}
use Rattle.agent_node.specs.Still.{AreStill, CarriesOn, IsStill}

abbrev pub network_id : NetworkRow → Ident
network_id n = n.id

-- rows with these networks
abbrev pub with_networks : RowLists → List NetworkRow → RowLists
with_networks rows networks = record rows { networks = networks }

-- the networks of rows, otherwise named
pub record AreRenamed (rows : RowLists) (networks : List NetworkRow) : Type 0 where
  pub ids : map network_id networks ≡ map network_id rows.networks
  pub up : (i : Ident) → network_up (network_with rows i)
      ≡ network_up (row_of network_id i networks)
  pub on : (i : Ident) → segment_of (network_with rows i)
      ≡ segment_of (row_of network_id i networks)

-- one of them
same_ids : (ns : List NetworkRow) (place : ℕ) (old new : NetworkRow)
    → slice_get ns place ≡ Some old → new.id ≡ old.id
    → map network_id (slice_set ns place new) ≡ map network_id ns
same_ids [] place old new at same = none_some old _ at
same_ids (n ∷ ns) zero old new at same =
    λ j. (same ∙ ap network_id (sym (some_equal n old at))) j ∷ map network_id ns
same_ids (n ∷ ns) (suc place) old new at same =
    λ j. n.id ∷ same_ids ns place old new at same j

module _ {X : Type 0} (of : Option NetworkRow → X) (i : Ident) where
  same_found : (ns : List NetworkRow) (place : ℕ) (old new : NetworkRow)
      → slice_get ns place ≡ Some old → new.id ≡ old.id → of (Some old) ≡ of (Some new)
      → of (row_of network_id i ns) ≡ of (row_of network_id i (slice_set ns place new))
  same_found [] place old new at same alike = none_some old _ at
  same_found (n ∷ ns) zero old new at same alike =
      go (ident_eq i n.id)
      ∙ (λ j. of (cond (ident_eq i (its j)) (Some new) (row_of network_id i ns)))
    where
      its : n.id ≡ new.id
      its = ap network_id (some_equal n old at) ∙ sym same

      go : (b : Bool) → of (cond b (Some n) (row_of network_id i ns))
          ≡ of (cond b (Some new) (row_of network_id i ns))
      go true = ap (λ (m : NetworkRow). of (Some m)) (some_equal n old at) ∙ alike
      go false = refl
  same_found (n ∷ ns) (suc place) old new at same alike =
      go (ident_eq i n.id) (same_found ns place old new at same alike)
    where
      go : (b : Bool)
          → of (row_of network_id i ns) ≡ of (row_of network_id i (slice_set ns place new))
          → of (cond b (Some n) (row_of network_id i ns))
          ≡ of (cond b (Some n) (row_of network_id i (slice_set ns place new)))
      go true rest = refl
      go false rest = rest

one_renamed : (rows : RowLists) (place : ℕ) (old new : Option NetworkRow)
    → FitsAt network_id rows.networks place old new → CarriesOn old new
    → AreRenamed rows (list_after_at rows.networks place old new)
one_renamed rows place None new fits carries = absurd carries
one_renamed rows place (Some old) None fits carries = absurd carries
one_renamed rows place (Some old) (Some new) fits carries = record {
  ids = same_ids rows.networks place old new fits.0 fits.1;
  up = λ i. same_found network_up i rows.networks place old new fits.0 fits.1 carries.0;
  on = λ i. same_found segment_of i rows.networks place old new fits.0 fits.1 carries.1;
}

item_renamed : (rows : RowLists) (item : Item) → FitsItem rows item → IsStill item
    → AreRenamed rows (list_after network_of rows.networks item)
item_renamed rows item fits still =
    one_renamed rows item.place (option_and_then network_of item.before)
    (option_and_then network_of item.after)
    (subst (λ k. FitsOfKind k rows item) still.kind fits).2 still.carries

pub all_renamed : (rows : RowLists) (items : List Item) → Fits rows items → AreStill items
    → (networks : List NetworkRow) × (after rows items ≡ with_networks rows networks)
    × AreRenamed rows networks
all_renamed rows [] fits still =
    (rows.networks, refl, record { ids = refl; up = λ i. refl; on = λ i. refl })
all_renamed rows (item ∷ items) fits still =
    let first = item_renamed rows item fits.0 still.0 in
    let made : after_item rows item
    ≡ with_networks rows (list_after network_of rows.networks item) =
    λ j. after_of_kind (still.0.kind j) rows item in
    let rest = all_renamed (after_item rows item) items fits.1 still.1 in
    let last = subst (λ (r : RowLists). AreRenamed r rest.0) made rest.2 in (
      rest.0,
      rest.1 ∙ (λ j. with_networks (made j) rest.0),
      record {
        ids = last.ids ∙ first.ids;
        up = λ i. first.up i ∙ last.up i;
        on = λ i. first.on i ∙ last.on i;
      },
    )
