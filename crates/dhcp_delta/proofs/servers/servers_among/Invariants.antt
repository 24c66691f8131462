use Rattle.std.proofs.Common.{◌≡◌, ◌≤◌, drop, find, length}
use Rattle.std.specs.HashMap.{get}
use Rattle.api_types.specs.Ident.{Ident}
use Rattle.api_types.specs.Table.{ident_eq}
use Rattle.table_edits.specs.NumbersSeen.{at_after}
use Rattle.dhcp_delta.specs.Serving.{serves_any}
use Rattle.dhcp_delta.proofs.servers.servers_among.Given as goal

-- the map has the first server of each network from one number on
abbrev pub invariant-loop-left : goal.invariant-loop-left
invariant-loop-left l = record { within : l.left ≤ length l.touched; found : (n : Ident) → get ident_eq l.made n ≡ find (λ k. serves_any l.change.after.now l.change.host.now n (at_after l.change.ports k)) (drop l.left l.touched) }

abbrev pub decreases-loop-left : goal.decreases-loop-left
decreases-loop-left l = l.left
