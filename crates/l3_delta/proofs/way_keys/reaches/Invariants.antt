use Rattle.std.proofs.Common.{◌≡◌, drop}
use Rattle.std.specs.List.{list_any}
use Rattle.api_types.specs.RouterRows.{holds_next as holds_next_hop}
use Rattle.l3_delta.proofs.way_keys.reaches.Given as goal

-- the address lies in the subnet of none so far
abbrev pub invariant-loop-fixed : goal.invariant-loop-fixed
invariant-loop-fixed l = list_any (holds_next_hop l.rows l.address) (drop l.fixed-index l.fixed-items) ≡ list_any (holds_next_hop l.rows l.address) l.port.fixed
