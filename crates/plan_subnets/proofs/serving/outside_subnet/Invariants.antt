use Rattle.std.proofs.Common.{◌≡◌, ◌++◌, drop}
use Rattle.row_laws.specs.Leased.{outside}
use Rattle.plan_subnets.proofs.serving.outside_subnet.Given as goal

-- those so far, and those that are left, are all
abbrev pub invariant-loop-one : goal.invariant-loop-one
invariant-loop-one l = l.left ++ outside l.subnet (drop l.one-index l.fixed) ≡ outside l.subnet l.fixed
