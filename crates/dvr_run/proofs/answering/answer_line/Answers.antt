use Rattle.dvr_run.proofs.AnswerLemmas.{event-read, line-turn}
use Rattle.dvr_run.proofs.answering.answer_line.Goals as goal

pub returns-in-Some-clause-is : goal.returns-in-Some-clause-is
returns-in-Some-clause-is g c =
    let rows = c.args.rows.now in
    let line = c.args.line.now in
    let event = c.in-Some.event.now in
    line-turn rows line event c.args.hosts.now c.answer_event.new.hosts (g.O.Sink.told c.args.output.now) (g.O.Sink.told c.answer_event.new.output)
    (event-read rows line c.in-Ok-Some.field-0 c.in-Ok-Some.ask event c.in-Ok-Some.ensures c.in-Ok-Some.field-0-is c.in-Some.ensures) c.answer_event.result c.answer_event.ensures.is
