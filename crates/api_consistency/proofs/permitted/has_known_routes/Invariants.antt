use Rattle.std.proofs.Common.{◌≡◌, true, drop}
use Rattle.std.specs.List.{list_all}
use Rattle.api_types.specs.Consistent.NextHops.{is_reached}
use Rattle.api_consistency.proofs.permitted.has_known_routes.Given as goal

-- where those that are left are reached, all are
abbrev pub invariant-loop-hop : goal.invariant-loop-hop
invariant-loop-hop l = list_all (is_reached l.known.subnets l.known.ports l.router) (drop l.hop-index l.hop-items) ≡ true → list_all (is_reached l.known.subnets l.known.ports l.router) l.router.routes ≡ true
