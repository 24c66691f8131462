use Rattle.std.proofs.Common.{◌<◌, ◌++◌, ◌∙◌, Some, ap, arith, length, subst, sym}
use Rattle.std.specs.List.{filter_map}
use Rattle.std.proofs.lemmas.Option.{slice_get-get_or}
use Rattle.plane_types.specs.Node.{Node, host_with, with_entries}
use Rattle.plane_types.specs.Attached.{IsAttached}
use Rattle.plane_types.specs.Verdicts.{made_at}
use Rattle.lab_world.proofs.Placing.{will_be_placed}
use Rattle.lab_world.proofs.Seen.{IsKeptAt, all_added}
use Rattle.lab_world.proofs.SoFar.{at_last, one_more}
use Rattle.lab_world.proofs.each.keep_all.Goals as goal

pub add_made-requires-clause-placed : goal.add_made-requires-clause-placed
add_made-requires-clause-placed c =
    let n : Node = c.index-nodes-at.result in
    let within : c.loop-at.at < length c.loop-at.nodes = omega (arith, c.loop-at-test.true, c.loop-at.auto.nodes) in
    subst (λ (x : Node). IsAttached (host_with x.agent (x.agent.entries ++ filter_map (made_at c.loop-at.at) c.args.fresh.now))) c.index-nodes-at.is
    (will_be_placed c.args.nodes.now c.loop-at.nodes c.args.fresh.now c.loop-at.at n c.requires.placed (c.loop-at.invariant.left c.loop-at.at (omega arith)) within c.index-nodes-at.is)

pub loop-at-preserved : goal.loop-at-preserved
loop-at-preserved c =
    let n : Node = c.index-nodes-at.result in
    let y : Node = c.add_made.new.node in
    let within : c.loop-at.at < length c.loop-at.nodes = omega (arith, c.loop-at-test.true, c.loop-at.auto.nodes) in
    one_more (IsKeptAt c.args.fresh.now) c.args.nodes.now c.loop-at.nodes c.loop-at.at n y c.loop-at.invariant (slice_get-get_or c.loop-at.nodes c.loop-at.at n within ∙ ap Some (sym c.index-nodes-at.is))
    (c.add_made.ensures ∙ ap (λ (x : Node). with_entries (x.agent.entries ++ filter_map (made_at c.loop-at.at) c.args.fresh.now) x.agent) (sym c.index-nodes-at.is))

pub returns : goal.returns
returns c =
    all_added c.args.fresh.now c.args.nodes.now c.loop-at.nodes
    (at_last (IsKeptAt c.args.fresh.now) c.args.nodes.now c.loop-at.nodes c.loop-at.at c.loop-at.invariant (omega (arith, c.loop-at-test.false, c.loop-at.auto.nodes)))
