use Rattle.std.proofs.Common.{◌≡◌, drop}
use Rattle.neutron_http.specs.Paths.{with_routes}
use Rattle.neutron_http.proofs.route.add_all.Given as goal

-- the routes that are left come to all of them
abbrev pub invariant-loop-path : goal.invariant-loop-path
invariant-loop-path l = with_routes (drop l.path-index l.paths) l.router ≡ with_routes l.paths l.fn.router
