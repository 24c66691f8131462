use Rattle.std.proofs.Common.{◌≡◌, drop}
use Rattle.std.specs.Prelude.{find}
use Rattle.api_types.specs.Holders.{holds_live as holds_live_by_rows}
use Rattle.plane_rows.proofs.holders.fixed_holder.Given as goal

-- none so far holds the address
abbrev pub invariant-loop-port : goal.invariant-loop-port
invariant-loop-port l = find (holds_live_by_rows l.rows l.network l.address) (drop l.port-index l.port-items) ≡ find (holds_live_by_rows l.rows l.network l.address) l.rows.ports
