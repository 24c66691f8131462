use Rattle.std.proofs.Common.{◌≡◌, ◌≤◌, drop, length}
use Rattle.std.specs.HashMap.{get}
use Rattle.api_types.specs.Ident.{Ident}
use Rattle.api_types.specs.Table.{ident_eq}
use Rattle.plane_rows.proofs.WayLemmas.{port_in}
use Rattle.plane_rows.proofs.exits.by_subnet.Given as goal
use Rattle.std.proofs.Common.{map}

-- the map has the first port in a subnet from one on
abbrev pub invariant-loop-left : goal.invariant-loop-left
invariant-loop-left l = record { within : l.left ≤ length l.legs; found : (n : Ident) → get ident_eq l.by_subnet n ≡ port_in n (map (λ p. p.now) (drop l.left l.legs)) }

abbrev pub decreases-loop-left : goal.decreases-loop-left
decreases-loop-left l = l.left
