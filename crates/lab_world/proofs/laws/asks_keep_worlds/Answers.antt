use Rattle.lab_world.proofs.WorldLaws.{ask_keeps}
use Rattle.lab_world.proofs.laws.asks_keep_worlds.Goals as goal

pub returns : goal.returns
returns c = ask_keeps
