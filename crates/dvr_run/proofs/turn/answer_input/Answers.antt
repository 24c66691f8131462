use Rattle.dvr_run.proofs.RunLemmas.{finished}
use Rattle.dvr_run.specs.Turns.{replies_of}
use Rattle.dvr_run.proofs.turn.answer_input.Goals as goal

pub returns-clause-answers : goal.returns-clause-answers
returns-clause-answers g c =
    let s = c.answer_lines-status in
    finished c.args.rows.now (replies_of c.args.hosts.now) (g.I.Source.told c.args.input.now) (g.O.Sink.told c.args.output.now) s.result c.finish.result
    (g.I.Source.told s.new.input) (g.O.Sink.told s.new.output) (g.O.Sink.told c.finish.new.output) s.ensures.stops c.finish.ensures.kept c.finish.ensures.is s.ensures.last_read
