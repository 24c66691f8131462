use Rattle.std.proofs.Common.{◌≡◌, ◌-◌}
use Rattle.plane_types.specs.Meaning.{port_fate as got_by}
use Rattle.plane_types.specs.Parts.{packet_of}
use Rattle.net_meaning.specs.Views.{trace_of}
use Rattle.net_meaning.proofs.at_port.carry_packet.Given as goal

-- what becomes of the packet from here on is what becomes of it
abbrev pub invariant-loop-routers : goal.invariant-loop-routers
invariant-loop-routers l =
    got_by l.rows l.entries (l.many - l.routers) l.at (packet_of l.packet) (trace_of l.trace)
    ≡ got_by l.fn.rows l.fn.entries l.fn.many l.fn.port (packet_of l.fn.packet) (trace_of l.fn.trace)
