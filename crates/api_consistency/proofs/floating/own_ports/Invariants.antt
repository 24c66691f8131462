use Rattle.std.proofs.Common.{◌≡◌, map, take}
use Rattle.api_consistency.specs.Keys.{of_own_port}
use Rattle.api_consistency.proofs.floating.own_ports.Given as goal

-- those of the floating addresses so far
abbrev pub invariant-loop-floating : goal.invariant-loop-floating
invariant-loop-floating l = l.ports.items ≡ map of_own_port (take l.floating-index l.floatings)
