use Rattle.std.proofs.Common.{inr, refl, subst}
use Rattle.agent_run.specs.Runs.{IsFollowed, first_host}
use Rattle.agent_run.proofs.RoundLemmas.{none_made}
use Rattle.agent_run.proofs.RunLemmas.{not_done}
use Rattle.agent_run.proofs.run.follow.Goals as goal

pub returns-in-Ok : goal.returns-in-Ok
returns-in-Ok g c =
    subst (λ first. IsFollowed g.L.Link.told g.L.In.Source.told g.L.Out.Sink.told g.O.Sink.told c.args.line.now first c.run_from.result c.args.link.now c.run_from.new.link c.args.output.now c.run_from.new.output)
    c.in-Ok.ensures c.run_from.ensures

pub returns-in-Err : goal.returns-in-Err
returns-in-Err g c = (
  first_host c.args.line.now c.args.settings,
  inr (not_done, none_made g.L.In.Source.told g.L.Out.Sink.told c.args.line.now.connect c.args.line.now.rounds (first_host c.args.line.now c.args.settings) (g.L.Link.told c.args.link.now), refl),
)
