use Rattle.std.proofs.Common.{◌≡◌, drop}
use Rattle.api_types.specs.RouterRows.{first_four}
use Rattle.reach_sets.proofs.wanted_pairs.first_four.Given as goal

-- the first of those that are left is the first of all
abbrev pub invariant-loop-fixed : goal.invariant-loop-fixed
invariant-loop-fixed l = first_four (drop l.fixed-index l.fixed-items) ≡ first_four l.port.fixed
