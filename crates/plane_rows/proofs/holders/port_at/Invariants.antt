use Rattle.std.proofs.Common.{◌≡◌, drop}
use Rattle.std.specs.Prelude.{find}
use Rattle.api_types.specs.Holders.{has_mac as has_mac_by_rows}
use Rattle.plane_rows.proofs.holders.port_at.Given as goal

-- none so far has the MAC
abbrev pub invariant-loop-port : goal.invariant-loop-port
invariant-loop-port l = find (has_mac_by_rows l.rows l.network l.mac) (drop l.port-index l.port-items) ≡ find (has_mac_by_rows l.rows l.network l.mac) l.rows.ports
