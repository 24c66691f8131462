use Rattle.std.proofs.Common.{◌≡◌, drop, map}
use Rattle.neutron_http.specs.Queries.{with_name, held}
use Rattle.neutron_http.proofs.query.first_named.Given as goal

abbrev pub invariant-loop-pair : goal.invariant-loop-pair
invariant-loop-pair l = with_name l.name (map held (drop l.pair-index l.pairs)) ≡ with_name l.name (map held l.pairs)
