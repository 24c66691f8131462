use Rattle.std.proofs.Common.{◌≡◌, map, take}
use Rattle.l2_delta.specs.TouchedSets.{standing_keys}
use Rattle.l2_delta.proofs.set_keys.keys_standing.Given as goal

-- the keys are those of the sets so far
abbrev pub invariant-loop-set : goal.invariant-loop-set
invariant-loop-set l =
    l.keys.items ≡ standing_keys l.ports (map (λ p. p.now) l.were) (map (λ p. p.now) l.are) (take l.set-index l.touched)
