use Rattle.std.proofs.Common.{◌≡◌, drop}
use Rattle.reach_sets.specs.Cuts.{cut_by_rules}
use Rattle.reach_sets.proofs.cuts.cut_by_rules.Given as goal

-- the next cut by the rules that are left is that by all rules
abbrev pub invariant-loop-rule : goal.invariant-loop-rule
invariant-loop-rule l =
    cut_by_rules l.kind l.pair.from.now l.pair.to.now l.at l.next (drop l.rule-index l.rules) ≡ cut_by_rules l.kind l.pair.from.now l.pair.to.now l.at l.first l.rules
