use Rattle.std.proofs.Common.{refl, inr, true≢false, sym}
use Rattle.http_heads.proofs.Prefixes.{judged_here, judged_only, ends_so, few_next, few_same, first_so, judged_as}
use Rattle.http_heads.proofs.judging.judge_at.Goals as goal

pub returns-then-not-is_judged : goal.returns-then-not-is_judged
returns-then-not-is_judged c = (
  λ j. absurd (true≢false (sym (c.if-not-is_judged.ensures.1 (judged_only c.args.buffer.now c.args.at c.requires.within c.requires.short j)))),
  few_same c.args.buffer.now c.args.at c.requires.within c.requires.short c.requires.few (λ e. true≢false (sym (c.if-not-is_judged.ensures.1 (inr e)))),
)

pub judge-requires-clause-ends : goal.judge-requires-clause-ends
judge-requires-clause-ends c = ends_so c.args.buffer.now c.args.at c.requires.within c.requires.short (c.if-not-is_judged.ensures.0 refl)

pub judge-requires-clause-few : goal.judge-requires-clause-few
judge-requires-clause-few c = few_next c.args.buffer.now c.args.at c.requires.within c.requires.short c.requires.few

pub judge-requires-clause-first : goal.judge-requires-clause-first
judge-requires-clause-first c = first_so c.args.buffer.now c.args.at c.requires.within c.requires.short c.requires.opens

pub returns : goal.returns
returns c = judged_as c.args.buffer.now c.args.at c.requires.within c.requires.short c.judge.new.fields c.judge.result
    (judged_here c.args.buffer.now c.args.at c.requires.within c.requires.short (c.if-not-is_judged.ensures.0 refl)) c.judge.ensures
