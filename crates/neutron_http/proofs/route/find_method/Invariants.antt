use Rattle.std.proofs.Common.{◌≡◌, drop}
use Rattle.neutron_http.specs.Routes.{method_in}
use Rattle.neutron_http.proofs.route.find_method.Given as goal

abbrev pub invariant-loop-method : goal.invariant-loop-method
invariant-loop-method l = method_in (drop l.method-index l.methods) l.name ≡ method_in l.methods l.name
