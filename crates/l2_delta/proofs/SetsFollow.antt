-- Edits of the sets at the keys that a change may touch lead to the sets after it, and are few.
use Rattle.std.proofs.Common.{◌≡◌, ◌∙◌, ℕ, List, ◌++◌, flat_map, slice_get, ap, subst, sym}
use Rattle.std.proofs.Math.Path.{transport}
use Rattle.std.proofs.lemmas.List.Folds.{flat_map-map}
use Rattle.api_types.specs.Parts.{group_of, port_of}
use Rattle.api_types.specs.RowLists.{RowLists}
use Rattle.api_types.specs.Rows.{after}
use Rattle.api_types.specs.Table.{HaveOwnIds}
use Rattle.api_types.specs.declared.change.Item.{Item}
use Rattle.api_types.specs.declared.group.GroupRow.{GroupRow}
use Rattle.api_types.specs.declared.kind.Kind.TheVariants.{Group, Port}
use Rattle.api_types.specs.declared.port.PortRow.{PortRow}
use Rattle.plane_types.specs.Edits.{with_edits}
use Rattle.plane_types.specs.Keyed.{row_at}
use Rattle.plane_types.specs.KeyedTables.{SetKey, keyed_sets, set_order}
use Rattle.plane_types.specs.NumberedRows.{numbered_rows, numbered_rows_after, row_items}
use Rattle.plane_types.specs.TableRows.{filter_rows, set_rows}
use Rattle.plane_types.specs.declared.delta.Edit.{Edit}
use Rattle.plane_types.specs.declared.table.FilterRow.{FilterRow}
use Rattle.plane_types.specs.declared.table.SetRow.{SetRow}
use Rattle.table_edits.specs.EditsAt.{AreEditsAt, among}
use Rattle.table_edits.specs.NumbersSeen.{Renumbered, at_after}
use Rattle.table_edits.specs.Rewires.{Rewires}
use Rattle.table_edits.proofs.SetLaw.{sets_lead}
use Rattle.l2_delta.specs.SetKeys.{is_named, is_remote, keys_at, may_go, named_by, to_stand, with_remotes}
use Rattle.l2_delta.specs.TouchedSets.{AreSetEdits, AreTouched, AreTouchedSets, going_keys, remotes_of, set_at, standing_keys, told_at}
use Rattle.l2_delta.specs.declared.named_sets.NumberedSet.{NumberedSet}
use Rattle.l2_delta.proofs.SetChanges as changes
use Rattle.l2_delta.proofs.SetChanges.{edits_alike, same_elsewhere, told_right, total}
use Rattle.l2_delta.proofs.SetGroups.{all_edited}
use Rattle.l2_delta.proofs.SetPorts.{AreChanged}

module _ (rows now : RowLists) (items : List Item) (host : List ℕ) (sets : List SetRow) (filters : List FilterRow) (ports : Renumbered PortRow) (groups : Renumbered GroupRow)
    (leads : now ≡ after rows items) (filters_are : filters ≡ filter_rows rows host) (sets_are : sets ≡ set_rows rows filters)
    (ports_are : ports ≡ record { rows = rows.ports; items = row_items Port port_of items }) (groups_are : groups ≡ record { rows = rows.groups; items = row_items Group group_of items })
    (own : HaveOwnIds (λ (g : GroupRow). g.id) groups.rows) (edits : List (Edit FilterRow)) (edited : with_edits filters edits ≡ filter_rows now host) where
  pub sets_follow : (were are : List PortRow) → AreChanged ports were are → (touched : List NumberedSet) → AreTouchedSets groups filters edits were are touched → (es : List (Edit SetRow))
      → AreSetEdits (keyed_sets (numbered_rows rows) host) groups (going_keys sets were touched) (standing_keys now.ports were are touched) es
      → Rewires set_order (keyed_sets (numbered_rows rows) host) (keyed_sets (numbered_rows_after rows items) host) sets (set_rows now (filter_rows now host)) es
  sets_follow were are changed touched of_touched es told =
      let numbers = of_touched.numbers in
      let remotes = with_remotes (remotes_of filters) edits in
      let old = keyed_sets (numbered_rows rows) host in
      let new = keyed_sets (numbered_rows_after rows items) host in
      let table : sets ≡ set_rows rows (filter_rows rows host) = sets_are ∙ ap (set_rows rows) filters_are in
      let named : remotes ≡ remotes_of (filter_rows (after rows items) host) = all_edited filters edits ∙ ap remotes_of (edited ∙ ap (λ r. filter_rows r host) leads) in
      let of_ports = subst (λ n. AreChanged n were are) ports_are changed in
      let of_groups = subst (λ (n : Renumbered GroupRow). HaveOwnIds (λ (g : GroupRow). g.id) n.rows) groups_are own in
      let of_numbers = transport (λ j. AreTouched (groups_are j) were are (remotes_of (filters_are j)) remotes numbers) of_touched.touched in
      let all_go : going_keys sets were touched ≡ changes.goes rows items host sets table were are of_ports of_groups remotes named numbers of_numbers =
      ap (going_keys sets were) of_touched.sets_are
      ∙ flat_map-map (λ (s : NumberedSet). keys_at s.number (may_go sets were s.before s.after)) (set_at groups filters remotes) numbers
      ∙ (λ j. flat_map (λ n. keys_at n (may_go sets were (named_by (is_named (filters_are j)) (slice_get (groups_are j).rows n)) (named_by (is_remote remotes) (at_after (groups_are j) n)))) numbers) in
      let all_stand : standing_keys now.ports were are touched ≡ changes.stands rows items host sets table were are of_ports of_groups remotes named numbers of_numbers =
      ap (standing_keys now.ports were are) of_touched.sets_are
      ∙ flat_map-map (λ (s : NumberedSet). keys_at s.number (to_stand now.ports were are s.before s.after)) (set_at groups filters remotes) numbers
      ∙ (λ j. flat_map (λ n. keys_at n (to_stand (leads j).ports were are (named_by (is_named (filters_are j)) (slice_get (groups_are j).rows n)) (named_by (is_remote remotes) (at_after (groups_are j) n)))) numbers) in
      let keys_are = λ (k : SetKey). told.keys_are k ∙ (λ j. among set_order k (all_go j ++ all_stand j)) in
      let put_are = λ (k : SetKey). told.put_are k ∙ ap (among set_order k) all_stand in
      let at_keys : AreEditsAt set_order old (λ k. row_at set_order k new) told.keys es =
      edits_alike set_order total old (told_at groups told.put) (λ k. row_at set_order k new) told.keys es
      (λ k there.
      ap (λ n. told_at n told.put k) groups_are
      ∙ told_right rows items host sets table were are of_ports of_groups remotes named numbers of_numbers told.keys told.put keys_are put_are k there)
      told.are in
      transport (λ j. Rewires set_order old new (sym table j) (set_rows (sym leads j) (filter_rows (sym leads j) host)) es)
      (sets_lead rows items host told.keys es told.down at_keys
      (same_elsewhere rows items host sets table were are of_ports of_groups remotes named numbers of_numbers told.keys told.put keys_are put_are))
