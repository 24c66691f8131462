use Rattle.std.proofs.Common.{◌≡◌, take, length}
use Rattle.api_ml2.specs.Marks.{AreMarked}
use Rattle.api_ml2.proofs.numbers.taken_numbers.Given as goal

-- the numbers of the networks so far are marked
abbrev pub invariant-loop-network : goal.invariant-loop-network
invariant-loop-network l = record {
  many : length l.marks.items ≡ l.many;
  marked : AreMarked (take l.network-index l.networks) l.first l.marks.items;
}
