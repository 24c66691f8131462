use Rattle.std.proofs.Common.{[], refl, ◌∙◌}
use Rattle.std.proofs.KnownBytes.{Appends-nil}
use Rattle.dvr_run.proofs.AnswerLemmas.{event-turn}
use Rattle.dvr_run.specs.Turns.{reply_of}
use Rattle.dvr_run.proofs.answering.answer_event.Goals as goal

pub returns-in-Ok-clause-is : goal.returns-in-Ok-clause-is
returns-in-Ok-clause-is g c =
    event-turn c.args.event.now c.args.hosts.now c.reply_to.new.hosts (g.O.Sink.told c.args.output.now) (g.O.Sink.told c.send_line.new.output) c.as_slice.result.now
    (c.as_slice.ensures.value ∙ c.in-Ok.ensures.reply) c.in-Ok.ensures.kept c.send_line.result c.send_line.ensures.is

pub returns-in-Err-clause-is : goal.returns-in-Err-clause-is
returns-in-Err-clause-is g c = ([], reply_of c.args.hosts.now c.args.event.now, refl, Appends-nil (g.O.Sink.told c.args.output.now).written)
