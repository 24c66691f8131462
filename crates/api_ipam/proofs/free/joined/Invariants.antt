use Rattle.std.proofs.Common.{◌≡◌, ◌++◌, drop}
use Rattle.api_ipam.proofs.free.joined.Given as goal

-- those so far, and those that are left, are all
abbrev pub invariant-loop-one : goal.invariant-loop-one
invariant-loop-one l = l.fixed ++ drop l.one-index l.more ≡ l.fn.fixed ++ l.more
