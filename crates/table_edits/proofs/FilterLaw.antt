-- The filters of a host by port, group and rule: edits at touched keys lead to those after a
-- change, and are few.
use Rattle.std.proofs.Common.{◌≡◌, ◌∙◌, ℕ, List, [], Bool, true, false, subst, sym}
use Rattle.std.specs.Prelude.{◌&&◌, if◌then◌else◌, nat_lt}
use Rattle.api_types.specs.Members.{names_group}
use Rattle.api_types.specs.Parts.{group_of, port_of, rule_of}
use Rattle.api_types.specs.RowLists.{RowLists}
use Rattle.api_types.specs.Rows.{after}
use Rattle.api_types.specs.declared.change.Item.{Item}
use Rattle.api_types.specs.declared.group.GroupRow.{GroupRow}
use Rattle.api_types.specs.declared.kind.Kind.TheVariants.{Group, Port, Rule}
use Rattle.api_types.specs.declared.port.PortRow.{PortRow}
use Rattle.plane_types.specs.Keyed.{Rises, chunks, pair_order, row_at, rows_by_key}
use Rattle.plane_types.specs.KeyedTables.{FilterKey, filter_order, group_filters, keyed_filters, port_filters}
use Rattle.plane_types.specs.NumberedRows.{NumberedRows, numbered_rows, numbered_rows_after, row_items}
use Rattle.plane_types.specs.TableRows.{filter_by, filter_rows, is_tap}
use Rattle.plane_types.specs.declared.delta.Edit.{Edit}
use Rattle.plane_types.specs.declared.table.FilterRow.{FilterRow}
use Rattle.plane_types.proofs.KeyedTablesLemmas.{filters-rows, unkeyed}
use Rattle.plane_types.proofs.NumberedLemmas.{after_plain, after_rises, number_order, numbered_rises, plain_numbered}
use Rattle.plane_types.proofs.PairLemmas.{flat_rises, pair_total}
use Rattle.plane_types.proofs.StayLemmas.{ports_after}
use Rattle.plane_types.proofs.TableLemmas.{keyed_rises}
use Rattle.table_edits.specs.EditsAt.{AreEditsAt, KeysDescend, among}
use Rattle.table_edits.specs.Rewires.{Rewires}
use Rattle.table_edits.proofs.KeyedLaw.{keyed_lead}
use Rattle.table_edits.proofs.KindsAfter.{groups_after, rules_after}

module _ (n : NumberedRows) (host : List ℕ) where
  group_rises : Rises nat_lt n.rules → (p : PortRow) (g : GroupRow) → Rises nat_lt (group_filters n p g)
  group_rises rules p g = go (names_group g.id p.groups)
    where
      go : (b : Bool) → Rises nat_lt (if b then rows_by_key nat_lt (filter_by p g) n.rules else [])
      go true = keyed_rises nat_lt number_order (filter_by p g) n.rules rules
      go false = tt

  port_rises : Rises nat_lt n.groups → Rises nat_lt n.rules → (p : PortRow) → Rises (pair_order nat_lt nat_lt) (port_filters n host p)
  port_rises groups rules p = go (is_tap n.rows host p && p.secured)
    where
      go : (b : Bool) → Rises (pair_order nat_lt nat_lt) (if b then chunks (group_filters n p) n.groups else [])
      go true = flat_rises nat_lt nat_lt number_order number_order (group_filters n p) (group_rises rules p) n.groups groups
      go false = tt

  filters_rise : Rises nat_lt n.ports → Rises nat_lt n.groups → Rises nat_lt n.rules → Rises filter_order (keyed_filters n host)
  filters_rise ports groups rules =
      flat_rises nat_lt (pair_order nat_lt nat_lt) number_order (pair_total nat_lt nat_lt number_order number_order) (port_filters n host) (port_rises groups rules) n.ports ports

module _ (rows : RowLists) (items : List Item) (host : List ℕ) where
  pub filters_lead : (ks : List FilterKey) (es : List (Edit FilterRow)) → KeysDescend filter_order ks
      → AreEditsAt filter_order (keyed_filters (numbered_rows rows) host) (λ k. row_at filter_order k (keyed_filters (numbered_rows_after rows items) host)) ks es
      → ((k : FilterKey) → among filter_order k ks ≡ false
      → row_at filter_order k (keyed_filters (numbered_rows rows) host) ≡ row_at filter_order k (keyed_filters (numbered_rows_after rows items) host))
      → Rewires filter_order (keyed_filters (numbered_rows rows) host) (keyed_filters (numbered_rows_after rows items) host) (filter_rows rows host) (filter_rows (after rows items) host) es
  filters_lead ks es down are same =
      let old = keyed_filters (numbered_rows rows) host in
      let new = keyed_filters (numbered_rows_after rows items) host in
      let up_old : Rises filter_order old = filters_rise (numbered_rows rows) host (numbered_rises 0 rows.ports) (numbered_rises 0 rows.groups) (numbered_rises 0 rows.rules) in
      let up_new : Rises filter_order new =
      filters_rise (numbered_rows_after rows items) host (after_rises rows.ports (row_items Port port_of items)) (after_rises rows.groups (row_items Group group_of items)) (after_rises rows.rules (row_items Rule rule_of items)) in
      let before_rows = filters-rows (numbered_rows rows) host [] (plain_numbered 0 rows.ports) (plain_numbered 0 rows.groups) (plain_numbered 0 rows.rules) in
      let after_rows =
      filters-rows (numbered_rows_after rows items) host [] (after_plain rows.ports (row_items Port port_of items) ∙ sym (ports_after rows items))
      (after_plain rows.groups (row_items Group group_of items) ∙ sym (groups_after rows items)) (after_plain rows.rules (row_items Rule rule_of items) ∙ sym (rules_after rows items)) in
      subst (λ (l : List FilterRow). Rewires filter_order old new l (filter_rows (after rows items) host) es) before_rows
      (subst (λ (l : List FilterRow). Rewires filter_order old new (unkeyed old) l es) after_rows
      (keyed_lead filter_order (pair_total nat_lt (pair_order nat_lt nat_lt) number_order (pair_total nat_lt nat_lt number_order number_order)) old new up_old up_new ks es down are same))
