-- The place of a key among the sets is found by halving, and so is the row there.
use Rattle.std.proofs.Common.{◌≡◌, ◌∙◌, ℕ, ◌≤◌, List, [], ◌∷◌, length, map, slice_get, Bool, true, false, not, ap, sym}
use Rattle.std.specs.Prelude.{if◌then◌else◌, flat_map, nat_lt}
use Rattle.std.specs.List.Sorted.{IsPartitionPoint, IsPartitionedBy}
use Rattle.net_addr.specs.Prefixes.{Prefix}
use Rattle.api_types.specs.Ascending.{prefix_before}
use Rattle.api_types.specs.Ident.{Ident}
use Rattle.api_types.specs.Members.{members, once, prefixes_of}
use Rattle.api_types.specs.RowLists.{RowLists}
use Rattle.api_types.specs.Table.{HaveOwnIds}
use Rattle.api_types.specs.declared.group.GroupRow.{GroupRow}
use Rattle.plane_types.specs.Keyed.{AllAfter, Rises, below, row_at, with_keys}
use Rattle.plane_types.specs.KeyedTables.{SetKey, group_sets, keyed_sets, set_order}
use Rattle.plane_types.specs.Numbered.{with_numbers}
use Rattle.plane_types.specs.NumberedRows.{numbered_rows}
use Rattle.plane_types.specs.TableRows.{filter_rows, set_rows}
use Rattle.plane_types.specs.declared.table.SetRow.{SetRow}
use Rattle.plane_types.proofs.KeyedTablesLemmas.{sets-rows, unkeyed}
use Rattle.plane_types.proofs.MapLemmas.{sorted_rises}
use Rattle.plane_types.proofs.NumberedLemmas.{number_order, numbered_rises, plain_numbered}
use Rattle.plane_types.proofs.PairLemmas.{flat_rises}
use Rattle.table_edits.specs.KeyOrders.{prefix_order}
use Rattle.table_edits.specs.Places.{HaveKeys}
use Rattle.table_edits.proofs.PlaceLemmas.{halved, if_there, is_under, looked}
use Rattle.l2_delta.specs.SetKeys.{is_named, set_key}
use Rattle.l2_delta.proofs.SetChanges.{total}
use Rattle.l2_delta.proofs.SetRows.{have_set_keys, itself, member_row, once_apart}

-- ---- rows ascend

members_rise : (rows : RowLists) (g : Ident) → Rises prefix_before (with_keys itself (members rows g))
unfolding members
members_rise rows g =
    let given = flat_map (prefixes_of g) rows.ports in
    sorted_rises prefix_before prefix_order itself (once given) (once_apart given)

abbrev prefix_of : SetRow → Prefix
prefix_of r = r.prefix

after_rows : (g : Ident) (k : Prefix) (ps : List Prefix) → AllAfter prefix_before k (with_keys itself ps) → AllAfter prefix_before k (with_keys prefix_of (map (member_row g) ps))
after_rows g k [] h = tt
after_rows g k (p ∷ ps) h = (h.0, after_rows g k ps h.1)

rows_rise : (g : Ident) (ps : List Prefix) → Rises prefix_before (with_keys itself ps) → Rises prefix_before (with_keys prefix_of (map (member_row g) ps))
rows_rise g [] h = tt
rows_rise g (p ∷ ps) h = (after_rows g p ps h.0, rows_rise g ps h.1)

-- ---- the rows as they are
module _ (rows : RowLists) (host : List ℕ) (table : List SetRow) (table_is : table ≡ set_rows rows (filter_rows rows host)) (groups : List GroupRow) (groups_are : groups ≡ rows.groups) (own : HaveOwnIds (λ (g : GroupRow). g.id) groups) (q : SetKey) where
  abbrev keyed : List (SetKey × SetRow)
  keyed = keyed_sets (numbered_rows rows) host

  group_rises : (g : GroupRow) → Rises prefix_before (group_sets (numbered_rows rows) host g)
  group_rises g = go (is_named (filter_rows rows host) g.id)
    where
      go : (b : Bool) → Rises prefix_before (with_keys prefix_of (if b then map (member_row g.id) (members rows g.id) else []))
      go true = rows_rise g.id (members rows g.id) (members_rise rows g.id)
      go false = tt

  rises : Rises set_order keyed
  rises = flat_rises nat_lt prefix_before number_order prefix_order (group_sets (numbered_rows rows) host) group_rises (with_numbers 0 rows.groups) (numbered_rises 0 rows.groups)

  have : HaveKeys (set_key groups) keyed
  have = have_set_keys (numbered_rows rows) host groups own (ap (with_numbers 0) (sym groups_are))

  plain : unkeyed keyed ≡ table
  plain = sets-rows (numbered_rows rows) host [] (plain_numbered 0 rows.groups) ∙ sym table_is

  abbrev pub comes_before : SetRow → Bool
  comes_before r = is_under set_order total (set_key groups) q r

  pub place_found : (n : ℕ) → (IsPartitionedBy comes_before table → IsPartitionPoint (λ r. comes_before r ≡ true) (λ r. comes_before r ≡ false) table n) → n ≤ length table → n ≡ below set_order q keyed
  place_found n finds most = halved set_order total (set_key groups) q keyed rises have table plain n finds most

  pub row_found : (n : ℕ) → n ≡ below set_order q keyed → row_at set_order q keyed ≡ if_there set_order total (set_key groups) q (λ k. not (set_order q k)) (slice_get table n)
  row_found n place = looked set_order total (set_key groups) q (λ k. not (set_order q k)) (λ k e. ap not e) (λ k e f. ap not e) keyed rises have table plain n place
