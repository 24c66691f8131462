use Rattle.std.proofs.Common.{subst}
use Rattle.world_laws.specs.Lead.{IsWorld}
use Rattle.lab_world.proofs.world.World.rows.Goals as goal

pub returns-clause-world : goal.returns-clause-world
returns-clause-world c = subst IsWorld c.self.view_is c.self.invariant.world
