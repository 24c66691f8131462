use Rattle.std.proofs.Common.{arith, subst, sym}
use Rattle.agent_run.specs.Runs.{RunsRounds}
use Rattle.agent_run.specs.declared.status.Status.TheVariants.{OutOfMemory}
use Rattle.agent_run.proofs.RoundLemmas.{all_made, ended_badly, more_so_far, none_so_far, ran_out}
use Rattle.agent_run.proofs.run.run_rounds.Goals as goal

pub rounds-init : goal.rounds-init
rounds-init g c = none_so_far g.L.In.Source.told g.L.Out.Sink.told _ _ _

pub rounds-preserved : goal.rounds-preserved
rounds-preserved g c = more_so_far g.L.In.Source.told g.L.Out.Sink.told _ _ _ _ _ _ _ _ c.in-Ok.said c.rounds.invariant c.in-Ok.ensures.ok (sym c.in-None.ensures)

pub returns-in-Some : goal.returns-in-Some
returns-in-Some g c = ended_badly g.L.In.Source.told g.L.Out.Sink.told _ _ _ _ _ _ _ _ _ c.in-Ok.said c.in-Some.status c.rounds-test.true c.rounds.invariant c.in-Ok.ensures.ok (sym c.in-Some.ensures)

pub returns-in-Err : goal.returns-in-Err
returns-in-Err g c =
    subst (RunsRounds g.L.In.Source.told g.L.Out.Sink.told OutOfMemory c.args.line.now.rounds c.args.line.now.connect c.args.agent.now (g.L.Link.told c.args.link.now) (g.L.Link.told c.run_round.new.link)) (sym c.in-Err.ensures.same)
    (ran_out g.L.In.Source.told g.L.Out.Sink.told _ _ _ _ _ _ _ _ c.rounds-test.true c.rounds.invariant c.in-Err.ensures.err)

pub returns : goal.returns
returns g c = all_made g.L.In.Source.told g.L.Out.Sink.told _ _ _ _ _ _ _ (omega (arith, c.rounds-test.false, c.rounds.auto._round-end)) c.rounds.invariant
