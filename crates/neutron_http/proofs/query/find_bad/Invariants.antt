use Rattle.std.proofs.Common.{◌≡◌, [], drop, take, map}
use Rattle.neutron_http.specs.Queries.{first_bad, held}
use Rattle.neutron_http.proofs.query.find_bad.Given as goal

abbrev pub invariant-loop-at : goal.invariant-loop-at
invariant-loop-at l = first_bad l.kind (map held (take l.at l.pairs)) (map held (drop l.at l.pairs)) ≡ first_bad l.kind [] (map held l.pairs)
