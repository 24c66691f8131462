use Rattle.std.proofs.Common.{◌≡◌, ◌++◌, drop}
use Rattle.std.specs.List.{filter_map}
use Rattle.api_consistency.specs.Keys.{leg_of}
use Rattle.api_consistency.proofs.disjoint.add_legs.Given as goal

-- those so far before those that are left
abbrev pub invariant-loop-fixed : goal.invariant-loop-fixed
invariant-loop-fixed l = l.reached.items ++ filter_map (leg_of l.rows.subnets l.port) (drop l.fixed-index l.fixed-items) ≡ l.fn.reached.items ++ filter_map (leg_of l.rows.subnets l.port) l.port.fixed
