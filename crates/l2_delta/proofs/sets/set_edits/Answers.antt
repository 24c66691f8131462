use Rattle.std.proofs.Common.{List, map}
use Rattle.std.proofs.Math.Path.{transport}
use Rattle.std.proofs.lemmas.Result.{IfOk-weaker}
use Rattle.api_types.specs.declared.port.PortRow.{PortRow}
use Rattle.plane_types.specs.KeyedTables.{keyed_sets}
use Rattle.plane_types.specs.NumberedRows.{numbered_rows}
use Rattle.l2_delta.specs.TouchedSets.{AreSetEdits, AreTouchedSets, going_keys, standing_keys}
use Rattle.l2_delta.proofs.SetPorts.{AreChanged}
use Rattle.l2_delta.proofs.SetsFollow.{sets_follow}
use Rattle.l2_delta.proofs.sets.set_edits.Goals as goal

pub returns : goal.returns
returns c =
    let change = c.args.change.now in
    let tables = change.tables.now.lists in
    let groups = c.args.groups.now in
    let were : List PortRow = map (λ p. p.now) c.in_ok-were.were.items in
    let are : List PortRow = map (λ p. p.now) c.in_ok-are.are.items in
    let sets = c.in_ok-touched.touched.items in
    let changed : AreChanged change.ports were are = record {
      named = c.named-named.result.now;
      others = c.named-named.ensures;
      were_at = c.in_ok-were.ensures;
      are_at = c.in_ok-are.ensures;
    } in
    let touched : AreTouchedSets groups tables.filters c.args.filters.now were are sets =
    transport (λ j. AreTouchedSets groups (c.filters-old.ensures j) (c.as_slice-edits.ensures j) (map (λ p. p.now) (c.as_slice.ensures.value j)) (map (λ p. p.now) (c.as_slice-2.ensures.value j)) sets)
    c.in_ok-touched.ensures in
    let old = keyed_sets (numbered_rows change.before.now) change.host.now in
    IfOk-weaker c.edits_at.result _ _
    (λ es told.
    sets_follow change.before.now change.after.now change.items.now change.host.now tables.sets tables.filters change.ports groups change.leads_on.leads change.realised.filters change.realised.sets
    change.numbered c.requires.groups c.rows-own_ids.ensures.own_ids c.args.filters.now c.requires.filters were are changed sets touched es
    (transport (λ j. AreSetEdits old groups (going_keys tables.sets (map (λ p. p.now) (c.as_slice-3.ensures.value j)) (c.as_slice-5.ensures.value j)) (standing_keys change.after.now.ports (map (λ p. p.now) (c.as_slice-3.ensures.value j)) (map (λ p. p.now) (c.as_slice-4.ensures.value j)) (c.as_slice-5.ensures.value j)) es)
    told))
    c.edits_at.ensures
