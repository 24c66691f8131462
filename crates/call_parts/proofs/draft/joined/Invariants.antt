use Rattle.std.proofs.Common.{◌≡◌, ◌++◌}
use Rattle.call_parts.proofs.draft.joined.Given as goal

abbrev pub invariant-loop-item : goal.invariant-loop-item
invariant-loop-item l = l.change ++ l.item-iterator.rest.items ≡ l.fn.change ++ l.fn.more
