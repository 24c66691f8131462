use Rattle.std.proofs.Common.{◌≡◌, ◌-◌, ◌^◌, take, min, sum_by}
use Rattle.api_types.specs.Consistent.HeldOnce.{holds_times}
use Rattle.api_clauses.proofs.held.is_held_once.Given as goal

-- the count so far, cut off at the largest number
abbrev pub invariant-loop-port : goal.invariant-loop-port
invariant-loop-port l = l.times ≡ min (sum_by (holds_times l.network l.fixed.address) (take l.port-index l.ports)) (2 ^ 64 - 1)
