use Rattle.reach_sets.proofs.JudgeLemmas.{JudgedSoFar}
use Rattle.reach_sets.proofs.judgement.judge_tables.Given as goal

-- what is judged so far, before what the tables that are left come to, is what all come to
abbrev pub invariant-loop-table : goal.invariant-loop-table
invariant-loop-table l = JudgedSoFar l.rows l.tables l.table-index l.judged
