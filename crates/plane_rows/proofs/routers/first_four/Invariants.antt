use Rattle.std.proofs.Common.{◌≡◌, drop}
use Rattle.api_types.specs.RouterRows.{first_four as first_of_four}
use Rattle.plane_rows.proofs.routers.first_four.Given as goal

-- no address so far is of version 4
abbrev pub invariant-loop-fixed : goal.invariant-loop-fixed
invariant-loop-fixed l = first_of_four (drop l.fixed-index l.fixed-items) ≡ first_of_four l.port.fixed
