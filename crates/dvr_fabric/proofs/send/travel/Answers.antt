use Rattle.std.proofs.Common.{◌≡◌, ◌∙◌, ◌+◌, ◌-◌, zero, suc, ap, sym, subst, arith}
use Rattle.dvr_types.specs.DvrFabric.{DvrFate, dvr_walk, fate_of_dvr}
use Rattle.dvr_fabric.proofs.HostLemmas.{there}
use Rattle.dvr_fabric.proofs.PositionLemmas.{stands}
use Rattle.dvr_fabric.specs.Positions.{Tells, end_of_next, fate_there, position_fate}
use Rattle.dvr_fabric.proofs.send.travel.Goals as goal

pub loop-steps-init : goal.loop-steps-init
loop-steps-init c =
    let all : c.args.many - 0 ≡ c.args.many = omega arith in
    (c.requires.within, λ r told. (r, told, ap (λ n. position_fate c.args.fleet.now (dvr_walk c.args.fleet.now n) c.args.position.now r) all))

pub loop-steps-preserved : goal.loop-steps-preserved
loop-steps-preserved c =
    let hosts = c.args.fleet.now in
    let left : suc (c.args.many - (c.loop-steps.steps + 1)) ≡ c.args.many - c.loop-steps.steps = omega (arith, c.loop-steps-test.true) in (
      c.in_ok-advance.ensures.within,
      λ r told.
          let so_far = c.loop-steps.invariant.1 r told in
          let w = c.in_ok-advance.ensures.walked (c.args.many - (c.loop-steps.steps + 1)) so_far.0 so_far.1 in
          (w.next, w.told, sym w.same ∙ ap (λ n. position_fate hosts (dvr_walk hosts n) c.loop-steps.position so_far.0) left ∙ so_far.2),
    )

pub returns : goal.returns
returns c = λ r told.
    let hosts = c.args.fleet.now in
    let so_far = c.loop-steps.invariant.1 r told in
    let none_left : c.args.many - c.loop-steps.steps ≡ zero = omega (arith, c.loop-steps-test.false) in
    let d = there hosts c.loop-steps.position.at c.loop-steps.invariant.0 in
    let ends : fate_of_dvr so_far.0 (end_of_next c.loop-steps.position.next) ≡ position_fate hosts (dvr_walk hosts c.args.many) c.args.position.now r =
    sym (ap (λ n. position_fate hosts (dvr_walk hosts n) c.loop-steps.position so_far.0) none_left ∙ ap (fate_there (dvr_walk hosts zero) so_far.0 c.loop-steps.position.next) d.1 ∙ stands hosts so_far.0 c.loop-steps.position.next d.0) ∙ so_far.2 in
    record {
      ended = ap (λ (v : DvrFate). v.outcome) ends;
      told = subst (λ (v : DvrFate). Tells hosts c.loop-steps.run v.run) ends so_far.1;
    }
