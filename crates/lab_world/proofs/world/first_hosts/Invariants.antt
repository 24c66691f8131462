use Rattle.std.proofs.Common.{◌≡◌, ◌++◌, drop, map}
use Rattle.plane_types.specs.Node.{agents_of, first_agent}
use Rattle.lab_world.proofs.world.first_hosts.Given as goal

-- the hosts so far, and those that are left, are all
abbrev pub invariant-loop-carrier : goal.invariant-loop-carrier
invariant-loop-carrier l =
    agents_of l.hosts ++ map (λ d. first_agent l.rows 0 d.name) (drop l.carrier-index l.carriers) ≡ map (λ d. first_agent l.rows 0 d.name) l.carriers
