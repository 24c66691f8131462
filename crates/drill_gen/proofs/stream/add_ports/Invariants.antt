use Rattle.std.proofs.Common.{◌≡◌, ◌++◌, ◌-◌}
use Rattle.drill_gen.specs.Draws.{state_behind}
use Rattle.drill_gen.specs.Stream.{port_requests}
use Rattle.drill_gen.proofs.stream.add_ports.Given as goal

-- what is there and the ports that are left are all, from a state that leads to the last one
abbrev pub invariant-loop-port : goal.invariant-loop-port
invariant-loop-port l = record {
  added : l.bytes.items ++ port_requests (l.size - l._port) l.state ≡ l.fn.bytes.items ++ port_requests l.size l.start;
  state : state_behind (l.size - l._port) l.state ≡ state_behind l.size l.start;
}
