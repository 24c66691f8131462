use Rattle.std.proofs.Common.{drop}
use Rattle.agent_node.specs.Still.{AreStill}
use Rattle.agent_node.proofs.still.are_still.Given as goal

-- what is true of all is left to those to come
abbrev pub invariant-loop-item : goal.invariant-loop-item
invariant-loop-item l = AreStill (drop l.item-index l.items) → AreStill l.items
