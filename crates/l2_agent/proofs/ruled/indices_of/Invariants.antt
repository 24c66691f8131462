use Rattle.std.proofs.Common.{◌≡◌, ◌≤◌, drop, length}
use Rattle.std.specs.HashMap.{get}
use Rattle.api_types.specs.Ident.{Ident}
use Rattle.api_types.specs.Table.{ident_eq}
use Rattle.l2_agent.specs.Indices.{index_from}
use Rattle.l2_agent.proofs.ruled.indices_of.Given as goal

-- the map has the places of the groups from one on
abbrev pub invariant-loop-left : goal.invariant-loop-left
invariant-loop-left l = record { within : l.left ≤ length l.groups; found : (n : Ident) → get ident_eq l.indices n ≡ index_from l.left (drop l.left l.groups) n }

abbrev pub decreases-loop-left : goal.decreases-loop-left
decreases-loop-left l = l.left
