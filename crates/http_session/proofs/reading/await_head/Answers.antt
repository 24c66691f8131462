use Rattle.std.proofs.Common.{arith, inl, subst, sym, take, max, ap, ◌≡◌, ◌∙◌, ◌++◌}
use Rattle.std.proofs.lemmas.Grind.{common_steps}
use Rattle.http_heads.specs.Heads.{IsUndecided}
use Rattle.http_heads.proofs.Resuming.{none_undecided}
use Rattle.http_heads.proofs.EmptyFronts.{none_empty, empty_stays}
use Rattle.http_session.proofs.Heading.{reads_none, reads_on, seen_front, longer_front}
use Rattle.http_session.proofs.reading.await_head.Goals as goal

pub heads-init : goal.heads-init
heads-init g c = record {
  reads = reads_none c.args.buffer.now (g.I.Source.told c.args.input.now).left c.args.taken.now;
  within = c.requires;
  later = omega arith;
  unfailed = λ h. h;
  undecided = none_undecided;
  lines = none_empty c.args.buffer.now;
}

pub read_more-requires-clause-waits : goal.read_more-requires-clause-waits
read_more-requires-clause-waits g c = inl (subst IsUndecided c.as_slice-bytes.ensures.value c.in-Open.ensures)

pub look-requires-clause-open : goal.look-requires-clause-open
look-requires-clause-open g c =
    let most : c.max.result ≡ max c.heads.seen c.skip_empty_lines-empty.result = grind (arith, common_steps) in
    longer_front c.as_slice-bytes.result.now c.heads.seen c.skip_empty_lines-empty.result c.max.result most
    (subst (λ l. IsUndecided (take c.heads.seen l)) (sym c.as_slice-bytes.ensures.value) c.heads.invariant.undecided) c.skip_empty_lines-empty.ensures.open

pub heads-preserved : goal.heads-preserved
heads-preserved g c =
    let read = c.in_default.ensures.reads in
    let value : c.as_slice-bytes.result.now ≡ c.heads.buffer = c.as_slice-bytes.ensures.value in
    let grew : c.read_more.new.buffer ≡ c.as_slice-bytes.result.now ++ read.more = read.grew ∙ ap (λ l. l ++ read.more) (sym value) in
    record {
      reads = reads_on _ _ _ _ _ _ _ _ _ c.heads.invariant.reads read;
      within = c.in_default.ensures.within;
      later = omega (arith, c.heads.invariant.later, c.in_default.ensures.later);
      unfailed = λ _. c.in_default.ensures.went;
      undecided = seen_front c.as_slice-bytes.result.now c.read_more.new.buffer read.more grew c.in-Open.ensures;
      lines = empty_stays c.as_slice-bytes.result.now c.read_more.new.buffer read.more c.skip_empty_lines-empty.result grew c.skip_empty_lines-empty.ensures.are;
    }

pub returns-in-Whole-clause-last : goal.returns-in-Whole-clause-last
returns-in-Whole-clause-last g c = λ h. c.heads.invariant.unfailed h

pub returns-in-Wrong-clause-last : goal.returns-in-Wrong-clause-last
returns-in-Wrong-clause-last g c = λ h. c.heads.invariant.unfailed h

pub returns-in-Err-clause-last : goal.returns-in-Err-clause-last
returns-in-Err-clause-last g c = λ h. c.in-Err.ensures.last (c.heads.invariant.unfailed h)
