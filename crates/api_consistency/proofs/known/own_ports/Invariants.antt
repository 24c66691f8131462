use Rattle.std.proofs.Common.{◌≡◌, ◌≤◌, drop, length}
use Rattle.std.specs.HashSet.{contains}
use Rattle.api_types.specs.Ident.{Ident}
use Rattle.api_types.specs.Table.{ident_eq}
use Rattle.api_types.specs.Consistent.Named.{is_own_port}
use Rattle.api_consistency.proofs.known.own_ports.Given as goal

-- the set has the own ports of the floating addresses from one on
abbrev pub invariant-loop-left : goal.invariant-loop-left
invariant-loop-left l = record {
  within : l.left ≤ length l.floatings;
  found : (i : Ident) → contains ident_eq l.own i ≡ is_own_port (drop l.left l.floatings) i;
}

abbrev pub decreases-loop-left : goal.decreases-loop-left
decreases-loop-left l = l.left
