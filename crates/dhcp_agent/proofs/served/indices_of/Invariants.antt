use Rattle.std.proofs.Common.{◌≡◌, ◌≤◌, drop, find, length, slice_get}
use Rattle.std.specs.Option.{option_and_then}
use Rattle.std.specs.HashMap.{get}
use Rattle.api_types.specs.Holders.{is_live_dhcp_of}
use Rattle.api_types.specs.Ident.{Ident}
use Rattle.api_types.specs.Table.{ident_eq}
use Rattle.dhcp_agent.proofs.served.indices_of.Given as goal

-- the map has the place of the first of a network from one on
abbrev pub invariant-loop-left : goal.invariant-loop-left
invariant-loop-left l = record { within : l.left ≤ length l.ports; found : (n : Ident) → option_and_then (slice_get l.ports) (get ident_eq l.indices n) ≡ find (is_live_dhcp_of l.rows n) (drop l.left l.ports) }

abbrev pub decreases-loop-left : goal.decreases-loop-left
decreases-loop-left l = l.left
