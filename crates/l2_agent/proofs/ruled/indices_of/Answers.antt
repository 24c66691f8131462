use Rattle.std.proofs.Common.{◌≡◌, ◌∙◌, ◌+◌, ◌-◌, ◌<◌, length, drop, get_or, ap, sym, arith}
use Rattle.api_types.specs.declared.group.GroupRow.{GroupRow}
use Rattle.l2_agent.specs.Indices.{index_from}
use Rattle.l2_agent.proofs.IndexLemmas.{from_here}
use Rattle.l2_agent.proofs.ruled.indices_of.Goals as goal

pub loop-left-preserved : goal.loop-left-preserved
loop-left-preserved c =
    let groups = c.args.groups.now in
    let left = c.loop-left.left in
    let behind : left ≡ (left - 1) + 1 = omega arith in
    let within : left - 1 < length groups = omega (arith, c.loop-left.invariant.within) in
    let row = c.get-group.result.now in
    let is : row ≡ get_or groups (left - 1) row = c.get-group.ensures ∙ c.index-groups-left.is ∙ ap (λ (g : GroupRow). get_or groups (left - 1) g) (sym c.get-group.ensures) in
    record {
      within = omega (arith, c.loop-left.invariant.within);
      found = λ n. c.in_ok-insert.ensures.updates.0 n
          ∙ from_here groups (left - 1) row n _ within is (c.loop-left.invariant.found n ∙ ap (λ m. index_from m (drop m groups) n) behind);
    }
