use Rattle.std.proofs.Common.{◌≡◌, ◌∙◌, ◌++◌, length, ap, arith}
use Rattle.std.specs.Prelude.{option_to_list}
use Rattle.plane_types.specs.Fabric.{FabricFate, run_from, fabric_fate, walk}
use Rattle.fabric_run.specs.Views.{looks_of, start_path, position_fate}
use Rattle.fabric_run.proofs.PositionLemmas.{few_made}
use Rattle.fabric_run.proofs.begin.send.Goals as goal

pub travel-requires-clause-bounded : goal.travel-requires-clause-bounded
travel-requires-clause-bounded g c =
    let hosts = g.F.Fleet.hosts c.args.fleet.now in
    let path_is : c.pass.new.self.path ≡ start_path hosts c.begin-position.result = c.in_ok-pass.ensures.path ∙ ap (λ ids. ids ++ option_to_list c.start_network.result) c.in_ok-run.ensures.0 ∙ c.start_network.ensures in
    let same : position_fate hosts (walk hosts c.looks_for.result) c.begin-position.result (run_from c.pass.new.self.path) ≡ fabric_fate hosts c.args.event.now =
    ap (λ n. position_fate hosts (walk hosts n) c.begin-position.result (run_from c.pass.new.self.path)) c.looks_for.ensures.is ∙ ap (λ ids. position_fate hosts (walk hosts (looks_of c.args.event.now)) c.begin-position.result (run_from ids)) path_is ∙ c.begin-position.ensures.begun in
    omega (arith, ap (λ (v : FabricFate). length v.run.fresh) same, few_made hosts c.args.event.now (omega (arith, c.looks_for.ensures.is, c.looks_for.ensures.fits)))
