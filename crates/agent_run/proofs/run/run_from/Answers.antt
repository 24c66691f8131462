use Rattle.std.proofs.Common.{inl, inr, refl, subst}
use Rattle.agent_run.specs.Runs.{WritesLine, held_line}
use Rattle.agent_run.proofs.run.run_from.Goals as goal

pub returns-in-Done : goal.returns-in-Done
returns-in-Done g c = (
  c.run_rounds.new.agent,
  inl (c.in-Done.ensures, subst (λ h. WritesLine (held_line h) c.write_line.result (g.O.Sink.told c.args.output.now) (g.O.Sink.told c.write_line.new.output)) c.held.ensures c.write_line.ensures),
)

pub returns-in_default : goal.returns-in_default
returns-in_default g c = (c.run_rounds.new.agent, inr (c.in_default.not-Done, c.run_rounds.ensures, refl))
