use Rattle.std.proofs.Common.{◌≡◌, drop, map}
use Rattle.neutron_http.specs.Queries.{has_name, held}
use Rattle.neutron_http.proofs.query.is_there.Given as goal

abbrev pub invariant-loop-pair : goal.invariant-loop-pair
invariant-loop-pair l = has_name l.name (map held (drop l.pair-index l.pairs)) ≡ has_name l.name (map held l.pairs)
