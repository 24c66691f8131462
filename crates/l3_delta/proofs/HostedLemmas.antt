-- At a number that isn't one of a touched router on the host, the router's row is as before.
use Rattle.std.proofs.Common.{◌≡◌, ◌∙◌, ℕ, List, true, false, Option, Some, None, slice_get, refl, ap, sym}
use Rattle.std.specs.Prelude.{if◌then◌else◌, nat_lt, option_and_then}
use Rattle.std.specs.List.{list_any}
use Rattle.api_types.specs.RowLists.{RowLists}
use Rattle.api_types.specs.declared.change.Item.{Item}
use Rattle.api_types.specs.declared.port.PortRow.{PortRow}
use Rattle.api_types.specs.declared.router.RouterRow.{RouterRow}
use Rattle.api_types.proofs.ListLemmas.{or_none}
use Rattle.api_types.proofs.NameLemmas.{by_test}
use Rattle.plane_types.specs.KeyedTables.{hosted_router}
use Rattle.plane_types.specs.NumberedRows.{numbered_rows}
use Rattle.plane_types.specs.TableRows.{is_hosted, router_row}
use Rattle.plane_types.specs.declared.table.RouterTable.{RouterTable}
use Rattle.plane_types.specs.declared.table.TagRow.{TagRow}
use Rattle.table_edits.specs.EditsAt.{among}
use Rattle.table_edits.specs.NumbersSeen.{Renumbered, at_after, at_before}
use Rattle.kept_rows.proofs.FoundLemmas.{place_of_number}
use Rattle.kept_rows.proofs.NumberLists.{none_any}
use Rattle.l3_delta.specs.RouterStays.{RoutersStay, is_hosted_at}
use Rattle.l3_delta.proofs.RowLemmas.{same_row}
use Rattle.l3_delta.proofs.TouchedLemmas.{Ports}

-- a router that isn't on the host has no row there
unhosted : (rows : RowLists) (host : List ℕ) (tags : List TagRow) (o : Option RouterRow)
    → is_hosted host o ≡ false
    → option_and_then (hosted_router (numbered_rows rows) host tags) o ≡ None
unhosted rows host tags None h = refl
unhosted rows host tags (Some r) h = ap (λ b. if b then Some (router_row rows tags r) else None) h

module _ (before after : RowLists) (items : List Item) (ports : Renumbered PortRow)
    (routers : Renumbered RouterRow) (s : Ports before after items ports routers)
    (host : List ℕ) (old new : List TagRow) (touched : List ℕ)
    (named : (k : ℕ) → among nat_lt k touched ≡ false → at_before routers k ≡ at_after routers k)
    (stay : RoutersStay before after ports old new routers touched) where
  abbrev old_row : ℕ → Option RouterTable
  old_row k = option_and_then (hosted_router (numbered_rows before) host old) (at_before routers k)

  abbrev new_row : ℕ → Option RouterTable
  new_row k = option_and_then (hosted_router (numbered_rows after) host new) (at_after routers k)

  -- that of a router that isn't touched
  pub row_stays : (k : ℕ) → among nat_lt k touched ≡ false → old_row k ≡ new_row k
  row_stays k off =
      go (at_before routers k) refl
      ∙ ap (option_and_then (hosted_router (numbered_rows after) host new)) (named k off)
    where
      go : (o : Option RouterRow) → at_before routers k ≡ o
          → option_and_then (hosted_router (numbered_rows before) host old) o
          ≡ option_and_then (hosted_router (numbered_rows after) host new) o
      go None at = refl
      go (Some r) at =
          same_row before after items ports routers s old new r (stay k r off at) host

  -- and each one, if no touched router is on the host
  pub all_stay : list_any (is_hosted_at host routers) touched ≡ false → (k : ℕ)
      → old_row k ≡ new_row k
  all_stay none k = by_test (among nat_lt k touched) (old_row k ≡ new_row k) elsewhere (row_stays k)
    where
      elsewhere : among nat_lt k touched ≡ true → old_row k ≡ new_row k
      elsewhere there =
          let off : is_hosted_at host routers k ≡ false =
          none_any (is_hosted_at host routers) touched k none there in
          let parts = or_none (is_hosted host (slice_get routers.rows k))
          (is_hosted host (at_after routers k)) off in
          unhosted before host old (at_before routers k)
          (ap (is_hosted host) (place_of_number routers.rows k) ∙ parts.0)
          ∙ sym (unhosted after host new (at_after routers k) parts.1)
