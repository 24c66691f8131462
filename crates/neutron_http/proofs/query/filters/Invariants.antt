use Rattle.std.proofs.Common.{◌≡◌, ◌++◌, drop, map}
use Rattle.neutron_http.specs.Queries.{filters_in, held}
use Rattle.neutron_http.proofs.query.filters.Given as goal

abbrev pub invariant-loop-pair : goal.invariant-loop-pair
invariant-loop-pair l = map held l.filters ++ filters_in l.kind (map held (drop l.pair-index l.pairs)) ≡ filters_in l.kind (map held l.pairs)
