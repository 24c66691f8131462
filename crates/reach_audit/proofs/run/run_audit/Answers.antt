use Rattle.std.proofs.Common.{inl, inr, refl, subst, sym}
use Rattle.reach_audit.specs.Runs.{RunsAudit}
use Rattle.reach_audit.specs.declared.status.Status.TheVariants.{OutOfMemory, WrongWords}
use Rattle.reach_audit.proofs.RunLemmas.{bad_settings, bad_wanted, broken_rows, outside_rose, untouched, write_fault, wrong_words}
use Rattle.reach_audit.proofs.run.run_audit.Goals as goal

pub returns-in-Ok-clause-runs : goal.returns-in-Ok-clause-runs
returns-in-Ok-clause-runs g c = (
  c.run_arguments.result,
  c.code.ensures,
  subst (λ o. RunsAudit g.D.Desk.told g.D.Out.Sink.told o c.run_arguments.result c.args.desk.now c.run_arguments.new.desk c.args.output.now c.run_arguments.new.output)
      (sym c.in-Ok.ensures) (inr c.run_arguments.ensures),
)

pub returns-in-Ok-clause-wrong_words : goal.returns-in-Ok-clause-wrong_words
returns-in-Ok-clause-wrong_words g c = wrong_words g.D.Desk.told g.D.Out.Sink.told _ _ _ _ _ _ (returns-in-Ok-clause-runs g c)

pub returns-in-Ok-clause-write_fault : goal.returns-in-Ok-clause-write_fault
returns-in-Ok-clause-write_fault g c = write_fault g.D.Desk.told g.D.Out.Sink.told _ _ _ _ _ _ (returns-in-Ok-clause-runs g c)

pub returns-in-Ok-clause-bad_settings : goal.returns-in-Ok-clause-bad_settings
returns-in-Ok-clause-bad_settings g c = bad_settings g.D.Desk.told g.D.Out.Sink.told _ _ _ _ _ _ (returns-in-Ok-clause-runs g c)

pub returns-in-Ok-clause-broken_rows : goal.returns-in-Ok-clause-broken_rows
returns-in-Ok-clause-broken_rows g c = broken_rows g.D.Desk.told g.D.Out.Sink.told _ _ _ _ _ _ (returns-in-Ok-clause-runs g c)

pub returns-in-Ok-clause-outside : goal.returns-in-Ok-clause-outside
returns-in-Ok-clause-outside g c = outside_rose g.D.Desk.told g.D.Out.Sink.told _ _ _ _ _ _ (returns-in-Ok-clause-runs g c)

pub returns-in-Ok-clause-bad_wanted : goal.returns-in-Ok-clause-bad_wanted
returns-in-Ok-clause-bad_wanted g c = bad_wanted g.D.Desk.told g.D.Out.Sink.told _ _ _ _ _ _ (returns-in-Ok-clause-runs g c)

pub returns-in-Err-Wrong-clause-runs : goal.returns-in-Err-Wrong-clause-runs
returns-in-Err-Wrong-clause-runs g c = (
  WrongWords,
  c.code-in-Err-Wrong.ensures,
  subst (λ o. RunsAudit g.D.Desk.told g.D.Out.Sink.told o WrongWords c.args.desk.now c.args.desk.now c.args.output.now c.args.output.now)
      (sym (c.in-Err-Wrong.ensures c.in-Err-Wrong.field-0-is)) (inl refl, refl, refl),
)

pub returns-in-Err-OutOfMemory-clause-runs : goal.returns-in-Err-OutOfMemory-clause-runs
returns-in-Err-OutOfMemory-clause-runs g c = (OutOfMemory, c.code-in-Err-OutOfMemory.ensures, untouched g.D.Desk.told g.D.Out.Sink.told _ c.args.desk.now c.args.output.now)
