use Rattle.std.proofs.Common.{ap, subst}
use Rattle.std.specs.Prelude.{Err}
use Rattle.agent_run.specs.Runs.{FrontWritten}
use Rattle.agent_run.proofs.RunLemmas.{front_of}
use Rattle.agent_run.proofs.run.send_line.Goals as goal

pub returns-in-Err-Failed : goal.returns-in-Err-Failed
returns-in-Err-Failed g c =
    let e = c.in-Err-Failed.ensures.err in
    let old = g.O.Sink.told c.args.output.now in
    let new = g.O.Sink.told c.send.new.output in (
      subst (λ t. FrontWritten t old new) c.as_bytes.ensures.value (front_of c.as_bytes.result.now e.0 old new e.2 c.in-Err-Failed.ensures.flushed_stays),
      c.in-Err-Failed.ensures.cause.failed (ap Err c.in-Err-Failed.field-0-is),
    )

pub returns-in-Err-OutOfMemory : goal.returns-in-Err-OutOfMemory
returns-in-Err-OutOfMemory g c =
    let e = c.in-Err-OutOfMemory.ensures.err in
    let old = g.O.Sink.told c.args.output.now in
    let new = g.O.Sink.told c.send.new.output in
    subst (λ t. FrontWritten t old new) c.as_bytes.ensures.value (front_of c.as_bytes.result.now e.0 old new e.2 c.in-Err-OutOfMemory.ensures.flushed_stays)
