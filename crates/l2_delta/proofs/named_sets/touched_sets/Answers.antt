use Rattle.std.proofs.Common.{◌∙◌, List, map, subst, sym}
use Rattle.api_types.specs.declared.port.PortRow.{PortRow}
use Rattle.l2_delta.specs.TouchedSets.{AreTouchedSets}
use Rattle.l2_delta.proofs.SetGroups.{none_touched}
use Rattle.l2_delta.proofs.named_sets.touched_sets.Goals as goal

pub returns-then-is_elsewhere : goal.returns-then-is_elsewhere
returns-then-is_elsewhere c =
    let groups = c.args.groups.now in
    let were : List PortRow = map (λ p. p.now) c.args.were.now in
    let are : List PortRow = map (λ p. p.now) c.args.are.now in
    subst (AreTouchedSets groups c.args.filters.now c.args.edits.now were are) (sym c.new.ensures.items)
    (none_touched groups c.named.result.now c.named.ensures c.args.filters.now c.args.edits.now (λ p. p.now) c.args.were.now c.args.are.now (sym c.is_elsewhere.ensures ∙ c.if-is_elsewhere.true))
