use Rattle.std.proofs.Common.{◌≡◌, map, take}
use Rattle.l2_delta.specs.TouchedSets.{going_keys}
use Rattle.l2_delta.proofs.set_keys.keys_going.Given as goal

-- the keys are those of the sets so far
abbrev pub invariant-loop-set : goal.invariant-loop-set
invariant-loop-set l =
    l.keys.items ≡ going_keys l.sets (map (λ p. p.now) l.were) (take l.set-index l.touched)
