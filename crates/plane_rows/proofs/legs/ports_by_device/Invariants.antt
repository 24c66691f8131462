use Rattle.std.proofs.Common.{◌≡◌, ◌++◌, ℕ, List, [], None, Some, drop, map}
use Rattle.std.specs.HashMap.{get_by_text}
use Rattle.std.specs.List.{filter}
use Rattle.plane_rows.specs.Named.{is_leg_at}
use Rattle.plane_rows.proofs.legs.ports_by_device.Given as goal

-- those with a device so far, and those that are left, are all with it
abbrev pub invariant-loop-port : goal.invariant-loop-port
invariant-loop-port l =
    (t : List ℕ) → elim (get_by_text l.by_device t) [ None ↦ [] | Some v ↦ map (λ p. p.now) v.items ] ++ filter (is_leg_at l.rows t) (drop l.port-index l.port-items) ≡ filter (is_leg_at l.rows t) l.rows.ports
