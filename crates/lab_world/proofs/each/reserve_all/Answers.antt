use Rattle.std.proofs.Common.{◌≡◌, ◌<◌, ◌≤◌, ◌∙◌, Some, ap, arith, length, slice_get, sym}
use Rattle.std.proofs.lemmas.Option.{slice_get-get_or, slice_get_within}
use Rattle.plane_types.specs.Node.{Node}
use Rattle.lab_world.proofs.One.{same_agents}
use Rattle.lab_world.proofs.SoFar.{each_more}
use Rattle.lab_world.proofs.each.reserve_all.Goals as goal

pub loop-node-preserved : goal.loop-node-preserved
loop-node-preserved c =
    let i = c.loop-node.node-index in
    let n : Node = c.node-item.result in
    let within : i < length c.loop-node.nodes = omega (arith, c.loop-node-test.true, c.loop-node.auto.nodes) in
    let at : slice_get c.loop-node.nodes i ≡ Some n = slice_get-get_or c.loop-node.nodes i n within ∙ ap Some (sym c.node-item.is) in (
      same_agents c.loop-node.nodes i n c.reserve.new.self at (c.reserve.ensures.agent ∙ ap (λ (x : Node). x.agent) (sym c.node-item.is)) ∙ c.loop-node.invariant.0,
      each_more (λ (x : Node). 256 ≤ x.spare.entries) c.loop-node.nodes i c.reserve.new.self c.loop-node.invariant.1 c.in_ok-reserve.ensures.spare within,
    )

pub returns-in_err-reserve-clause-same : goal.returns-in_err-reserve-clause-same
returns-in_err-reserve-clause-same c =
    let i = c.loop-node.node-index in
    let n : Node = c.node-item.result in
    let within : i < length c.loop-node.nodes = omega (arith, c.loop-node-test.true, c.loop-node.auto.nodes) in
    let at : slice_get c.loop-node.nodes i ≡ Some n = slice_get-get_or c.loop-node.nodes i n within ∙ ap Some (sym c.node-item.is) in
    same_agents c.loop-node.nodes i n c.reserve.new.self at (c.reserve.ensures.agent ∙ ap (λ (x : Node). x.agent) (sym c.node-item.is)) ∙ c.loop-node.invariant.0

pub returns-clause-spare : goal.returns-clause-spare
returns-clause-spare c = λ k x at.
    let within = slice_get_within c.loop-node.nodes k x at in
    c.loop-node.invariant.1 k x (omega (arith, within, c.loop-node-test.false, c.loop-node.auto.nodes)) at
