use Rattle.std.proofs.Common.{◌≡◌, drop, map}
use Rattle.json_values.specs.Values.{is_among}
use Rattle.json_values.proofs.object.is_among.Given as goal

-- the answer is that for the names that are left
abbrev pub invariant-loop-known : goal.invariant-loop-known
invariant-loop-known l = is_among (map (λ s. s.now) (drop l.known-index l.names)) l.name ≡ is_among (map (λ s. s.now) l.names) l.name
