use Rattle.std.proofs.Common.{◌≡◌, drop}
use Rattle.std.specs.Prelude.{find}
use Rattle.api_types.specs.Holders.{is_live_dhcp_of}
use Rattle.plane_rows.proofs.holders.dhcp_port.Given as goal

-- none so far is the network's DHCP port
abbrev pub invariant-loop-port : goal.invariant-loop-port
invariant-loop-port l = find (is_live_dhcp_of l.rows l.network) (drop l.port-index l.port-items) ≡ find (is_live_dhcp_of l.rows l.network) l.rows.ports
