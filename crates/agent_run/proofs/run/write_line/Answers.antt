use Rattle.std.proofs.Common.{subst}
use Rattle.agent_run.specs.Runs.{WritesLine, held_line}
use Rattle.agent_run.proofs.RunLemmas.{none_written}
use Rattle.agent_run.proofs.run.write_line.Goals as goal

pub returns-in-Ok : goal.returns-in-Ok
returns-in-Ok g c = subst (λ t. WritesLine t c.send_line.result (g.O.Sink.told c.args.output.now) (g.O.Sink.told c.send_line.new.output)) c.in-Ok.ensures c.send_line.ensures

pub returns-in-Err : goal.returns-in-Err
returns-in-Err g c = none_written (held_line c.args.held) (g.O.Sink.told c.args.output.now)
