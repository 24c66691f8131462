use Rattle.std.proofs.Common.{◌≡◌, ◌∙◌, ◌++◌, ◌∷◌, [], ap, refl, sym}
use Rattle.std.specs.Prelude.{slice_get}
use Rattle.dvr_fabric.proofs.TellsLemmas.{told-verdict}
use Rattle.dvr_fabric.specs.Beginnings.{fate_begun, first_ids, first_place}
use Rattle.dvr_fabric.specs.Found.{view_of_host}
use Rattle.dvr_fabric.specs.Positions.{Tells, fate_there, position_fate}
use Rattle.dvr_types.specs.DvrFabric.{At, dvr_walk, run_at_first}
use Rattle.dvr_types.specs.DvrVerdicts.{verdict_of_dvr}
use Rattle.dvr_fabric.proofs.send.send_from.Goals as goal

pub returns : goal.returns
returns c =
    let hosts = c.args.fleet.now in
    let event = c.args.event.now in
    let d = view_of_host c.host_at-host.result in
    let r = run_at_first d (first_ids d.host event) in
    let told : Tells hosts c.add_host.new.self r = record {
      path = c.in_ok-add_host.ensures.path ∙ c.in_ok-pass.ensures.path ∙ (λ j. (c.new-run.ensures.path j) ++ (c.first_network.ensures j));
      fresh = ap (λ f. f.items) (c.in_ok-add_host.ensures.fresh ∙ c.in_ok-pass.ensures.fresh) ∙ c.new-run.ensures.fresh;
      made = c.in_ok-add_host.ensures.made ∙ c.in_ok-pass.ensures.made ∙ c.new-run.ensures.made;
      makers = refl;
      passed = c.in_ok-add_host.ensures.hosts ∙ ap (λ xs. xs ++ d.host.name ∷ []) (c.in_ok-pass.ensures.hosts ∙ c.new-run.ensures.hosts);
    } in
    let fate = c.in_ok-travel.ensures r told in
    let here : slice_get hosts c.first_position-position.result.at ≡ slice_get hosts c.args.at = ap (slice_get hosts) c.first_position-position.ensures.at in
    let begun : position_fate hosts (dvr_walk hosts c.steps_for.result) c.first_position-position.result r ≡ fate_begun hosts event (slice_get hosts c.args.at) =
    ap (fate_there (dvr_walk hosts c.steps_for.result) r c.first_position-position.result.next) (here ∙ c.host_at-host.ensures.there)
    ∙ c.first_position-position.ensures.next (dvr_walk hosts c.steps_for.result) d r
    ∙ ap (λ n. dvr_walk hosts n d (At (first_place event)) r) c.steps_for.ensures
    ∙ sym (ap (fate_begun hosts event) c.host_at-host.ensures.there) in
    c.verdict_of.ensures
    ∙ told-verdict hosts _ c.travel.new.run _ (c.in_ok-outcome.ensures ∙ fate.ended) fate.told
    ∙ ap (verdict_of_dvr hosts) begun
