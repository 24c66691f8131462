use Rattle.agent_run.proofs.RoundLemmas.{SoFar}
use Rattle.agent_run.proofs.run.run_rounds.Given as goal

abbrev pub invariant-rounds : goal.invariant-rounds
invariant-rounds g l =
    SoFar g.L.In.Source.told g.L.Out.Sink.told l.line.connect l._round l.fn.agent (g.L.Link.told l.fn.link) (g.L.Link.told l.link) l.agent
