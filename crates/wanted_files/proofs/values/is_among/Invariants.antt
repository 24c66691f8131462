use Rattle.std.proofs.Common.{◌≡◌, drop, map}
use Rattle.json_values.specs.Values.{is_among}
use Rattle.wanted_files.proofs.values.is_among.Given as goal

-- the answer is that for the keys that are left
abbrev pub invariant-loop-known : goal.invariant-loop-known
invariant-loop-known l = is_among (map (λ s. s.now) (drop l.known-index l.keys)) l.key ≡ is_among (map (λ s. s.now) l.keys) l.key
