use Rattle.std.proofs.Common.{arith, ap, length}
use Rattle.http_session.proofs.Heading.{reads_none, reads_on, head_stays, head_waits, head_found}
use Rattle.http_session.proofs.reading.await_body.Goals as goal

pub bodies-init : goal.bodies-init
bodies-init g c = record {
  reads = reads_none c.args.buffer.now (g.I.Source.told c.args.input.now).left c.args.taken.now;
  within = c.requires.within;
  later = omega arith;
  unfailed = λ h. h;
  head = c.requires.head;
}

pub read_more-requires-clause-waits : goal.read_more-requires-clause-waits
read_more-requires-clause-waits g c = head_waits c.bodies.buffer c.args.request c.bodies.invariant.head.0 c.bodies.invariant.head.1 (omega (arith, c.bodies-test.true, ap length c.as_slice.ensures.value))

pub bodies-preserved : goal.bodies-preserved
bodies-preserved g c =
    let so = c.bodies.invariant in
    let reads = c.read_more.ensures.reads in record {
      reads = reads_on c.args.buffer.now c.bodies.buffer c.read_more.new.buffer _ _ _ c.args.taken.now c.bodies.taken c.read_more.new.taken so.reads reads;
      within = c.read_more.ensures.within;
      later = omega (arith, so.later, c.read_more.ensures.later);
      unfailed = λ _. c.in_default.ensures.went;
      head = (so.head.0, head_stays c.bodies.buffer c.read_more.new.buffer reads.more c.args.request so.head.0 reads.grew so.head.1);
    }

pub returns-clause-is : goal.returns-clause-is
returns-clause-is g c = head_found c.bodies.buffer c.args.request c.bodies.invariant.head.0 c.bodies.invariant.head.1 (omega (arith, c.bodies-test.false, ap length c.as_slice.ensures.value))

pub returns-clause-last : goal.returns-clause-last
returns-clause-last g c = λ h. c.bodies.invariant.unfailed h

pub returns-in-Err-clause-last : goal.returns-in-Err-clause-last
returns-in-Err-clause-last g c = λ h. c.in-Err.ensures.last (c.bodies.invariant.unfailed h)
