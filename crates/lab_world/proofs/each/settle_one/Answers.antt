use Rattle.std.proofs.Common.{rules, ◌≡◌, if◌then◌else◌, sym, true}
use Rattle.plane_types.specs.Node.{Agent, after_resync}
use Rattle.world_laws.specs.Steps.{holds}
use Rattle.lab_world.proofs.each.settle_one.Goals as goal

pub returns-else-ne : goal.returns-else-ne
returns-else-ne c =
    let agent : Agent = c.args.node.now.agent in
    let is_held : holds c.args.version agent.held ≡ true = search (rules, c.if-ne.false, c.ne.ensures, c.held.ensures) in
    λ j. if sym is_held j then agent else after_resync c.args.version c.args.ready.rows agent
