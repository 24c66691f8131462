use Rattle.std.proofs.Common.{inl, inr, refl, subst, sym}
use Rattle.agent_run.specs.Runs.{Runs, outside}
use Rattle.agent_run.specs.declared.status.Status.TheVariants.{OutOfMemory, WrongWords}
use Rattle.agent_run.proofs.RunLemmas.{bad_settings, outside_rose, untouched, write_fault, wrong_words}
use Rattle.agent_run.proofs.run.run_agent.Goals as goal

pub returns-in-Ok-clause-runs : goal.returns-in-Ok-clause-runs
returns-in-Ok-clause-runs g c = (
  c.run_line.result,
  c.code.ensures,
  subst (λ o. Runs g.D.Desk.told g.L.Link.told g.L.In.Source.told g.L.Out.Sink.told g.D.Out.Sink.told o c.run_line.result
      (outside c.args.desk.now c.args.link.now c.args.output.now) (outside c.run_line.new.desk c.run_line.new.link c.run_line.new.output))
      (sym c.in-Ok.ensures) (inr c.run_line.ensures.runs),
)

pub returns-in-Ok-clause-wrong_words : goal.returns-in-Ok-clause-wrong_words
returns-in-Ok-clause-wrong_words g c = wrong_words g.D.Desk.told g.L.Link.told g.L.In.Source.told g.L.Out.Sink.told g.D.Out.Sink.told _ _ _ _ (returns-in-Ok-clause-runs g c)

pub returns-in-Ok-clause-write_fault : goal.returns-in-Ok-clause-write_fault
returns-in-Ok-clause-write_fault g c = write_fault g.D.Desk.told g.L.Link.told g.L.In.Source.told g.L.Out.Sink.told g.D.Out.Sink.told _ _ _ _ (returns-in-Ok-clause-runs g c)

pub returns-in-Ok-clause-bad_settings : goal.returns-in-Ok-clause-bad_settings
returns-in-Ok-clause-bad_settings g c = bad_settings g.D.Desk.told g.L.Link.told g.L.In.Source.told g.L.Out.Sink.told g.D.Out.Sink.told _ _ _ _ (returns-in-Ok-clause-runs g c)

pub returns-in-Ok-clause-outside : goal.returns-in-Ok-clause-outside
returns-in-Ok-clause-outside g c = outside_rose g.D.Desk.told g.L.Link.told g.L.In.Source.told g.L.Out.Sink.told g.D.Out.Sink.told _ _ _ _ (returns-in-Ok-clause-runs g c)

pub returns-in-Err-Wrong-clause-runs : goal.returns-in-Err-Wrong-clause-runs
returns-in-Err-Wrong-clause-runs g c = (
  WrongWords,
  c.code-in-Err-Wrong.ensures,
  subst (λ o. Runs g.D.Desk.told g.L.Link.told g.L.In.Source.told g.L.Out.Sink.told g.D.Out.Sink.told o WrongWords
      (outside c.args.desk.now c.args.link.now c.args.output.now) (outside c.args.desk.now c.args.link.now c.args.output.now))
      (sym (c.in-Err-Wrong.ensures c.in-Err-Wrong.field-0-is)) (inl refl, refl),
)

pub returns-in-Err-OutOfMemory-clause-runs : goal.returns-in-Err-OutOfMemory-clause-runs
returns-in-Err-OutOfMemory-clause-runs g c = (
  OutOfMemory,
  c.code-in-Err-OutOfMemory.ensures,
  untouched g.D.Desk.told g.L.Link.told g.L.In.Source.told g.L.Out.Sink.told g.D.Out.Sink.told _ (outside c.args.desk.now c.args.link.now c.args.output.now),
)
