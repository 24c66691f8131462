use Rattle.std.proofs.Common.{◌∙◌, ◌<◌, sym, arith}
use Rattle.std.specs.Prelude.{length}
use Rattle.dvr_fabric.specs.Found.{is_sought_in, view_of_host}
use Rattle.dvr_fabric.proofs.HostLemmas.{found_here, not_here}
use Rattle.dvr_fabric.proofs.find.find_host.Goals as goal

pub returns-then-is_sought : goal.returns-then-is_sought
returns-then-is_sought c =
    let below : c.loop-at.at < length c.args.fleet.now = omega (arith, c.loop-at-test.true, c.count-at-end.ensures) in
    (below, found_here (is_sought_in c.args.sought.now) c.args.fleet.now c.loop-at.at (view_of_host c.host_at.result) below c.host_at.ensures.there (sym c.is_sought.ensures ∙ c.if-is_sought.true) c.loop-at.invariant)

pub loop-at-preserved : goal.loop-at-preserved
loop-at-preserved c =
    let below : c.loop-at.at < length c.args.fleet.now = omega (arith, c.loop-at-test.true, c.count-at-end.ensures) in
    not_here (is_sought_in c.args.sought.now) c.args.fleet.now c.loop-at.at (view_of_host c.host_at.result) below c.host_at.ensures.there (sym c.is_sought.ensures ∙ c.if-is_sought.false) c.loop-at.invariant
