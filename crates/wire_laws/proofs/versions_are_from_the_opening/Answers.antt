use Rattle.world_laws.specs.World.{AreSound}
use Rattle.wire_types.proofs.ChangeLaw.{reached}
use Rattle.wire_laws.proofs.versions_are_from_the_opening.Goals as goal

pub returns : goal.returns
returns c settings opening changes sound may =
    (reached (AreSound settings) opening changes sound may).derived
