use Rattle.std.proofs.Common.{◌≡◌, ◌+◌, ◌-◌, map}
use Rattle.plane_types.specs.Routing.{least_untaken as first_untaken}
use Rattle.plane_types.specs.Parts.{use_of}
use Rattle.net_meaning.proofs.uses.least_untaken.Given as goal

-- each port so far is taken
abbrev pub invariant-loop-place : goal.invariant-loop-place
invariant-loop-place l = first_untaken (map use_of l.uses) l.key (64512 - l.place) (1024 + l.place) ≡ first_untaken (map use_of l.uses) l.key 64512 1024
