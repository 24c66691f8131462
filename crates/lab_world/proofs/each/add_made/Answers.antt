use Rattle.std.proofs.Common.{rules, ◌≡◌, Some}
use Rattle.plane_types.specs.Verdicts.{made_at}
use Rattle.lab_world.proofs.Placing.{next_placed}
use Rattle.lab_world.proofs.each.add_made.Goals as goal

pub add-requires-clause-placed : goal.add-requires-clause-placed
add-requires-clause-placed c =
    let hit : made_at c.args.at c.made-item.result ≡ Some c.made-item.result.entry = search (rules, c.if-eq.true) in
    next_placed c.loop-made.node.agent c.args.node.now.agent c.args.at c.args.fresh.now c.loop-made.made-index c.made-item.result
    c.loop-made.invariant.0 c.loop-made.invariant.1 c.loop-made-test.true c.made-item.is hit c.requires.placed
