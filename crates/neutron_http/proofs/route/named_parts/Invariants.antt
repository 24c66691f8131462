use Rattle.std.proofs.Common.{◌≡◌, ◌++◌, drop, map}
use Rattle.neutron_http.specs.Routes.{parameters_in}
use Rattle.neutron_http.proofs.route.named_parts.Given as goal

abbrev pub invariant-loop-at : goal.invariant-loop-at
invariant-loop-at l = l.found ++ parameters_in (map (λ s. s.now) (drop l.at l.names)) (map (λ s. s.now) (drop l.at l.parts)) ≡ parameters_in (map (λ s. s.now) l.names) (map (λ s. s.now) l.parts)
