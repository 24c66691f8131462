use Rattle.std.proofs.Common.{◌∙◌, Bool, true≢false, if◌then◌else◌, ap, sym, arith}
use Rattle.agent_wire.specs.Snapshots.{are_new, put_all, put_last}
use Rattle.agent_wire.proofs.SnapshotLemmas.{all_added, new_still, old_row, put_still}
use Rattle.agent_wire.proofs.snapshot.add_rows.Goals as goal

pub returns-then-not-branch : goal.returns-then-not-branch
returns-then-not-branch c = (
  old_row c.args.page.now c.loop-item.item-index c.item-item.result c.loop-item-test.true c.item-item.is c.loop-item.rows (are_new c.args.page.now c.args.rows.now) c.loop-item.invariant.new
      (sym c.in_ok-add_row.ensures.0 ∙ c.if-not-branch.true),
  λ e. absurd (true≢false (sym e)),
)

pub loop-item-preserved : goal.loop-item-preserved
loop-item-preserved c =
    let is = c.if-not-branch.false in
    let put = c.in_ok-add_row.ensures.1 ∙ ap (λ (t : Bool). if t then put_last c.item-item.result.row c.loop-item.rows else c.loop-item.rows) is in record {
      new = new_still c.args.page.now c.loop-item.item-index c.item-item.result c.loop-item-test.true c.item-item.is c.loop-item.rows (are_new c.args.page.now c.args.rows.now) c.add_row.new.rows c.loop-item.invariant.new (sym c.in_ok-add_row.ensures.0 ∙ is) put;
      put = put_still c.args.page.now c.loop-item.item-index c.item-item.result c.loop-item-test.true c.item-item.is c.loop-item.rows (put_all c.args.page.now c.args.rows.now) c.add_row.new.rows c.loop-item.invariant.put put;
    }

pub returns : goal.returns
returns c =
    let all = all_added c.args.page.now c.loop-item.item-index c.loop-item.rows (put_all c.args.page.now c.args.rows.now) (are_new c.args.page.now c.args.rows.now) (omega (arith, c.loop-item-test.false)) c.loop-item.invariant.new c.loop-item.invariant.put in
    (all.0, λ _. all.1)
