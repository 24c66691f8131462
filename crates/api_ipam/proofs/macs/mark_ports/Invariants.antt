use Rattle.std.proofs.Common.{◌≡◌, ◌+◌, ◌<◌, ℕ, false, drop, get_or, length}
use Rattle.std.specs.Prelude.{◌||◌}
use Rattle.api_types.specs.HeldAddresses.{is_mac_held}
use Rattle.api_ipam.proofs.macs.mark_ports.Given as goal

-- the marks so far, and those of the ports that are left, are all
abbrev pub invariant-loop-port : goal.invariant-loop-port
invariant-loop-port l = record {
  many : length l.marks ≡ length l.fn.marks;
  marked : (k : ℕ) → k < length l.fn.marks
      → (get_or l.marks k false || is_mac_held (drop l.port-index l.ports) l.network (l.first + k))
      ≡ (get_or l.fn.marks k false || is_mac_held l.ports l.network (l.first + k));
}
