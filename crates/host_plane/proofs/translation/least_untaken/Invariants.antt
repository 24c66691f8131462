use Rattle.std.proofs.Common.{◌≡◌, ◌+◌, ◌-◌, ◌++◌}
use Rattle.plane_types.specs.Routing.{least_untaken as first_untaken, uses_at}
use Rattle.host_plane.proofs.translation.least_untaken.Given as goal

-- each port so far is taken
abbrev pub invariant-loop-place : goal.invariant-loop-place
invariant-loop-place l =
    first_untaken (uses_at l.fn.router l.fn.outer (l.entries ++ l.fresh)) l.key (64512 - l.place) (1024 + l.place)
    ≡ first_untaken (uses_at l.fn.router l.fn.outer (l.entries ++ l.fresh)) l.key 64512 1024
