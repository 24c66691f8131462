use Rattle.std.proofs.Common.{◌≡◌, flat_map, map, take}
use Rattle.api_secgroup.specs.Named.{given_by}
use Rattle.api_secgroup.proofs.listed.prefixes_of_all.Given as goal

-- the prefixes are those of the ports so far
abbrev pub invariant-loop-port : goal.invariant-loop-port
invariant-loop-port l = l.prefixes.items ≡ flat_map given_by (map (λ p. p.now) (take l.port-index l.ports))
