use Rattle.std.proofs.Common.{◌≡◌, ◌++◌, map}
use Rattle.form_urlencoded.specs.Parse.{raw_pairs_left}
use Rattle.neutron_http.specs.Queries.{texts_of, held, pairs_of}
use Rattle.neutron_http.proofs.query.pairs.Given as goal

-- the pairs so far and those that are left are those of the query
abbrev pub invariant-loop-name : goal.invariant-loop-name
invariant-loop-name l = map held l.pairs.items ++ map texts_of (raw_pairs_left l.name-iterator) ≡ pairs_of l.query
