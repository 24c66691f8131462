use Rattle.std.proofs.Common.{subst}
use Rattle.reach_sets.proofs.PieceLemmas.{number-ends}
use Rattle.reach_sets.specs.Breaking.{IsFirstBreak}
use Rattle.reach_sets.specs.TwoPorts.{two_ports}
use Rattle.reach_sets.proofs.judgement.judge_pair.Goals as goal

pub returns-in-None : goal.returns-in-None
returns-in-None c = subst (IsFirstBreak c.args.rows.now (two_ports c.args.pair.now) c.args.wanted.now) c.in-None.is c.in_ok-found.ensures

pub break_at-requires-clause-first : goal.break_at-requires-clause-first
break_at-requires-clause-first c = subst (IsFirstBreak c.args.rows.now (two_ports c.args.pair.now) c.args.wanted.now) c.in-Some.is c.in_ok-found.ensures

pub break_at-requires-clause-number : goal.break_at-requires-clause-number
break_at-requires-clause-number c =
    let first = subst (IsFirstBreak c.args.rows.now (two_ports c.args.pair.now) c.args.wanted.now) c.in-Some.is c.in_ok-found.ensures in
    let breaks = first.0 in
    number-ends c.args.rows.now (two_ports c.args.pair.now) c.args.wanted.now.proto c.in-Some.number breaks.number
