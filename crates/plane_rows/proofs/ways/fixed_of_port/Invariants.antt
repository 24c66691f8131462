use Rattle.std.proofs.Common.{◌≡◌, drop}
use Rattle.std.specs.Prelude.{find}
use Rattle.api_types.specs.RouterRows.{holds_next as holds_next_hop}
use Rattle.plane_rows.proofs.ways.fixed_of_port.Given as goal

-- the address lies in the subnet of none so far
abbrev pub invariant-loop-fixed : goal.invariant-loop-fixed
invariant-loop-fixed l = find (holds_next_hop l.rows l.address) (drop l.fixed-index l.fixed-items) ≡ find (holds_next_hop l.rows l.address) l.port.fixed
