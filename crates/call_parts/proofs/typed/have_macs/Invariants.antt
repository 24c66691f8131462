use Rattle.std.proofs.Common.{take, ◌<◌, ◌^◌}
use Rattle.api_types.specs.Lists.{Each}
use Rattle.api_types.specs.declared.port.PortRow.{PortRow}
use Rattle.call_parts.proofs.typed.have_macs.Given as goal

-- those so far are MAC addresses
abbrev pub invariant-loop-port : goal.invariant-loop-port
invariant-loop-port l = Each (λ (p : PortRow). p.mac < 2 ^ 48) (take l.port-index l.ports)
