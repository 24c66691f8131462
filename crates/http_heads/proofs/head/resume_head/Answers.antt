use Rattle.std.proofs.Common.{arith, ◌+◌, refl, true, false, sym, subst}
use Rattle.http_heads.specs.Heads.{wrong, large, whole, Refuses, judgement_of, IsUndecided}
use Rattle.http_heads.specs.Fields.{own_refusal}
use Rattle.http_heads.specs.Read.{undecided_read}
use Rattle.http_heads.proofs.Prefixes.{decides_so, opens_more}
use Rattle.http_heads.proofs.Resuming.{opens_front, few_front}
use Rattle.http_heads.proofs.ReadLemmas.{IsAnswer, decided_so, undecided_so, read_of_all, numbered_whole}
use Rattle.http_heads.proofs.head.resume_head.Goals as goal

pub loop-at-preserved : goal.loop-at-preserved
loop-at-preserved c = record {
  opens = opens_more c.args.buffer.now c.loop-at.at (omega (arith, c.loop-at-test.true, c.min-at-end.ensures)) (omega (arith, c.loop-at-test.true, c.min-at-end.ensures)) c.loop-at.invariant.opens c.in-Open.ensures.0;
  few = c.in-Open.ensures.1;
  room = omega (arith, c.judge_at.auto.fields, c.loop-at.invariant.room);
}

pub returns-in-Wrong : goal.returns-in-Wrong
returns-in-Wrong c =
    let d = decides_so c.args.buffer.now c.loop-at.at (omega (arith, c.loop-at-test.true, c.min-at-end.ensures)) (omega (arith, c.loop-at-test.true, c.min-at-end.ensures)) (Refuses 1) c.loop-at.invariant.opens c.in-Wrong.ensures.0 (wrong c.in-Wrong.ensures.1.0 c.in-Wrong.ensures.1.1) in
    let a = decided_so c.args.buffer.now c.args.ended (Refuses 1) _ d refl (omega arith, omega arith) in
    record { is = a.is; only = a.only; number = a.number }

pub returns-in-Large : goal.returns-in-Large
returns-in-Large c =
    let d = decides_so c.args.buffer.now c.loop-at.at (omega (arith, c.loop-at-test.true, c.min-at-end.ensures)) (omega (arith, c.loop-at-test.true, c.min-at-end.ensures)) (Refuses 2) c.loop-at.invariant.opens c.in-Large.ensures.0 (large c.in-Large.ensures.1.0 c.in-Large.ensures.1.1 c.in-Large.ensures.1.2) in
    let a = decided_so c.args.buffer.now c.args.ended (Refuses 2) _ d refl (omega arith, omega arith) in
    record { is = a.is; only = a.only; number = a.number }

pub returns-in-Whole : goal.returns-in-Whole
returns-in-Whole c =
    let w = c.in-Whole.ensures in
    let head = w.1.1.0 in
    let d = decides_so c.args.buffer.now c.loop-at.at (omega (arith, c.loop-at-test.true, c.min-at-end.ensures)) (omega (arith, c.loop-at-test.true, c.min-at-end.ensures)) (judgement_of head (own_refusal head)) c.loop-at.invariant.opens w.0 (whole w.1.1.2) in
    let read = c.read_whole.ensures head w.1.1.1 in
    let a = decided_so c.args.buffer.now c.args.ended (judgement_of head (own_refusal head)) c.read_whole.result d
    (read_of_all c.args.buffer.now (c.loop-at.at + 1) head (own_refusal head) c.read_whole.result (omega (arith, c.loop-at-test.true, c.min-at-end.ensures)) read)
    (numbered_whole _ head c.read_whole.result read) in
    record { is = a.is; only = a.only; number = a.number }

pub returns-then-ended : goal.returns-then-ended
returns-then-ended c =
    let u : IsUndecided c.args.buffer.now = λ k j. c.loop-at.invariant.opens k (omega (arith, j.fits, j.short, c.loop-at-test.false, c.min-at-end.ensures)) j in
    let a = subst (λ e. IsAnswer c.args.buffer.now e (undecided_read true)) (sym c.if-ended.true) (undecided_so c.args.buffer.now true u) in
    record { is = a.is; only = a.only; number = a.number }

pub returns-else-ended : goal.returns-else-ended
returns-else-ended c =
    let u : IsUndecided c.args.buffer.now = λ k j. c.loop-at.invariant.opens k (omega (arith, j.fits, j.short, c.loop-at-test.false, c.min-at-end.ensures)) j in
    let a = subst (λ e. IsAnswer c.args.buffer.now e (undecided_read false)) (sym c.if-ended.false) (undecided_so c.args.buffer.now false u) in
    record { is = a.is; only = a.only; number = a.number }

pub loop-at-init : goal.loop-at-init
loop-at-init c = record {
  opens = opens_front c.args.buffer.now c.args.from c.requires.open;
  few = few_front c.args.buffer.now c.args.from c.requires.open;
  room = refl;
}
