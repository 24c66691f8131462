use Rattle.std.proofs.Common.{◌≡◌, ◌∙◌, ◌+◌, ◌-◌, ◌≤◌, zero, suc, length, refl, ap, sym, subst, arith}
use Rattle.host_plane.specs.Views.{view_of_step}
use Rattle.plane_types.specs.Fabric.{FabricFate, run_from, fate_of_run, walk}
use Rattle.fabric_run.specs.Views.{Tells, ended_by, position_fate}
use Rattle.fabric_run.proofs.PositionLemmas.{led_grows, stands}
use Rattle.fabric_run.proofs.trip.travel.Goals as goal

pub loop-looks-init : goal.loop-looks-init
loop-looks-init g c =
    let hosts = g.F.Fleet.hosts c.args.fleet.now in
    let all : c.args.many - 0 ≡ c.args.many = omega arith in (
      run_from c.args.run.now.path,
      record { path = refl; fresh = c.requires.begun.0; made = c.requires.begun.1; makers = refl; trail = c.requires.begun.2 },
      c.requires.within,
      omega (arith, c.requires.room),
      ap (λ n. position_fate hosts (walk hosts n) c.args.position.now (run_from c.args.run.now.path)) all,
    )

pub advance-requires-clause-room : goal.advance-requires-clause-room
advance-requires-clause-room g c =
    let hosts = g.F.Fleet.hosts c.args.fleet.now in
    let inv = c.loop-looks.invariant in
    let grown : length inv.0.fresh ≤ length (position_fate hosts (walk hosts (c.args.many - c.loop-looks.looks)) c.loop-looks.position inv.0).run.fresh = led_grows hosts (c.args.many - c.loop-looks.looks) c.loop-looks.position.at (view_of_step c.loop-looks.position.step) inv.0 in
    omega (arith, inv.3, ap length inv.1.fresh, grown, ap (λ (v : FabricFate). length v.run.fresh) inv.4, c.requires.bounded)

pub loop-looks-preserved : goal.loop-looks-preserved
loop-looks-preserved g c =
    let hosts = g.F.Fleet.hosts c.args.fleet.now in
    let inv = c.loop-looks.invariant in
    let left : suc (c.args.many - (c.loop-looks.looks + 1)) ≡ c.args.many - c.loop-looks.looks = omega (arith, c.loop-looks-test.true) in
    let w = c.in_ok-advance.ensures.walked (c.args.many - (c.loop-looks.looks + 1)) inv.0 inv.1 in (
      w.next,
      w.told,
      c.in_ok-advance.ensures.within,
      omega (arith, inv.3, c.in_ok-advance.ensures.room),
      sym w.same ∙ ap (λ n. position_fate hosts (walk hosts n) c.loop-looks.position inv.0) left ∙ inv.4,
    )

pub returns : goal.returns
returns g c =
    let hosts = g.F.Fleet.hosts c.args.fleet.now in
    let inv = c.loop-looks.invariant in
    let none_left : c.args.many - c.loop-looks.looks ≡ zero = omega (arith, c.loop-looks-test.false) in
    let ends : fate_of_run inv.0 (ended_by c.loop-looks.position) ≡ position_fate hosts (walk hosts c.args.many) c.args.position.now (run_from c.args.run.now.path) =
    sym (ap (λ n. position_fate hosts (walk hosts n) c.loop-looks.position inv.0) none_left ∙ stands hosts c.loop-looks.position.at (view_of_step c.loop-looks.position.step) inv.0) ∙ inv.4 in
    record {
      ended = ap (λ (v : FabricFate). v.outcome) ends;
      told = subst (λ (v : FabricFate). Tells hosts c.loop-looks.run v.run) ends inv.1;
    }
