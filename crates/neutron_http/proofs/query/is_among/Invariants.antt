use Rattle.std.proofs.Common.{◌≡◌, drop, map}
use Rattle.neutron_http.specs.Filters.{is_among}
use Rattle.neutron_http.proofs.query.is_among.Given as goal

abbrev pub invariant-loop-known : goal.invariant-loop-known
invariant-loop-known l = is_among (map (λ s. s.now) (drop l.known-index l.names)) l.name ≡ is_among (map (λ s. s.now) l.names) l.name
