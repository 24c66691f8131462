use Rattle.std.proofs.Common.{◌≡◌, ◌∙◌, ◌++◌, List, ap, map, subst}
use Rattle.std.proofs.lemmas.Result.{IfOk-weaker}
use Rattle.api_types.specs.declared.port.PortRow.{PortRow}
use Rattle.plane_types.specs.KeyedTables.{keyed_sets, set_order}
use Rattle.plane_types.specs.NumberedRows.{numbered_rows}
use Rattle.table_edits.specs.EditsAt.{AreEditsAt, among}
use Rattle.l2_delta.specs.TouchedSets.{going_keys, standing_keys, told_at}
use Rattle.l2_delta.proofs.sets.edits_at.Goals as goal

pub returns : goal.returns
returns c =
    let change = c.args.change.now in
    let were : List PortRow = map (λ p. p.now) c.args.were.now in
    let are : List PortRow = map (λ p. p.now) c.args.are.now in
    let touched = c.args.touched.now in
    let going : c.in_ok-keys.keys.items ≡ going_keys change.tables.now.lists.sets were touched = c.in_ok-keys.ensures ∙ ap (λ rows. going_keys rows were touched) c.sets-rows.ensures in
    let standing : c.in_ok-put.put.items ≡ standing_keys change.after.now.ports were are touched =
    c.in_ok-put.ensures ∙ ap (λ ports. standing_keys ports were are touched) (c.rows-ports.ensures.rows ∙ c.ports.ensures) in
    let all : c.add_all.new.keys.items ≡ going_keys change.tables.now.lists.sets were touched ++ standing_keys change.after.now.ports were are touched =
    c.in_ok-add_all.ensures ∙ (λ j. going j ++ (c.as_slice.ensures.value ∙ standing) j) in
    let old = keyed_sets (numbered_rows change.before.now) change.host.now in
    IfOk-weaker c.edits_of.result _ _
    (λ es at. record {
      keys = c.in_ok-keys-2.keys.items;
      put = c.in_ok-put-2.put.items;
      down = c.in_ok-keys-2.ensures.down;
      keys_are = λ k. c.in_ok-keys-2.ensures.same k ∙ ap (among set_order k) all;
      put_are = λ k. c.in_ok-put-2.ensures.same k ∙ ap (among set_order k) standing;
      are = subst (λ ks. AreEditsAt set_order old (told_at c.args.groups.now c.in_ok-put-2.put.items) ks es) c.as_slice-2.ensures.value at;
    })
    c.edits_of.ensures
