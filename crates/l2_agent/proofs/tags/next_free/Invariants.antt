use Rattle.std.proofs.Common.{◌≡◌}
use Rattle.l2_agent.specs.Free.{free_from}
use Rattle.l2_agent.proofs.tags.next_free.Given as goal

-- none of those so far is free
abbrev pub invariant-loop-tag : goal.invariant-loop-tag
invariant-loop-tag l = free_from l.kept l.from ≡ free_from l.kept l.tag
