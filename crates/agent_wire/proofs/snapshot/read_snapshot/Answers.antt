use Rattle.std.proofs.Common.{◌≡◌, ◌∙◌, true, ap, sym}
use Rattle.api_types.specs.Rows.{no_rows}
use Rattle.agent_wire.specs.Snapshots.{are_new, put_all}
use Rattle.agent_wire.proofs.SnapshotLemmas.{both_new, first_old, second_old}
use Rattle.agent_wire.proofs.snapshot.read_snapshot.Goals as goal

pub returns-then-not-branch : goal.returns-then-not-branch
returns-then-not-branch c =
    first_old c.args.earlier.now c.args.last.now (ap (are_new c.args.earlier.now) (sym c.in_ok-rows.ensures) ∙ sym c.in_ok-add_rows.ensures.0 ∙ c.if-not-branch.true)

pub returns-then-not-branch-2 : goal.returns-then-not-branch-2
returns-then-not-branch-2 c =
    let first : are_new c.args.earlier.now no_rows ≡ true = ap (are_new c.args.earlier.now) (sym c.in_ok-rows.ensures) ∙ sym c.in_ok-add_rows.ensures.0 ∙ c.if-not-branch.false in
    let mid : c.add_rows.new.rows ≡ put_all c.args.earlier.now no_rows = c.in_ok-add_rows.ensures.1 c.if-not-branch.false ∙ ap (put_all c.args.earlier.now) c.in_ok-rows.ensures in
    second_old c.args.earlier.now c.args.last.now c.add_rows.new.rows first mid (sym c.in_ok-add_rows-2.ensures.0 ∙ c.if-not-branch-2.true)

pub returns : goal.returns
returns c =
    let first : are_new c.args.earlier.now no_rows ≡ true = ap (are_new c.args.earlier.now) (sym c.in_ok-rows.ensures) ∙ sym c.in_ok-add_rows.ensures.0 ∙ c.if-not-branch.false in
    let mid : c.add_rows.new.rows ≡ put_all c.args.earlier.now no_rows = c.in_ok-add_rows.ensures.1 c.if-not-branch.false ∙ ap (put_all c.args.earlier.now) c.in_ok-rows.ensures in
    c.in_ok-add_rows-2.ensures.1 c.if-not-branch-2.false ∙ both_new c.args.earlier.now c.args.last.now c.add_rows.new.rows first mid (sym c.in_ok-add_rows-2.ensures.0 ∙ c.if-not-branch-2.false)
