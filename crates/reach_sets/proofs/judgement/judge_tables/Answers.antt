use Rattle.std.proofs.Common.{◌+◌, arith, subst, sym}
use Rattle.reach_sets.proofs.JudgeLemmas.{JudgedSoFar, judged-all, judged-next}
use Rattle.reach_sets.proofs.judgement.judge_tables.Goals as goal

pub loop-table-preserved : goal.loop-table-preserved
loop-table-preserved c =
    subst (JudgedSoFar c.args.rows.now c.args.tables.now (c.loop-table.table-index + 1)) (sym c.in_ok-push.ensures.ok)
    (judged-next c.args.rows.now c.args.tables.now c.loop-table.table-index c.table-item.result c.loop-table.judged c.in_ok-judge_table.field-0 (omega arith) c.table-item.is c.loop-table.invariant c.in_ok-judge_table.ensures)

pub returns : goal.returns
returns c = judged-all c.args.rows.now c.args.tables.now c.loop-table.table-index c.loop-table.judged (omega arith) c.loop-table.invariant
