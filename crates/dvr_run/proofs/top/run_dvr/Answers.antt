use Rattle.std.proofs.Common.{◌∙◌, inl, inr, refl, subst, sym}
use Rattle.dvr_run.specs.Runs.{HasBadSettings, HasBrokenRows, Runs, outside}
use Rattle.dvr_run.specs.declared.status.Status.TheVariants.{OutOfMemory, WrongWords}
use Rattle.dvr_run.proofs.RunLemmas.{status_is, untouched}
use Rattle.dvr_run.proofs.top.run_dvr.Goals as goal

pub returns-in-Ok-clause-runs : goal.returns-in-Ok-clause-runs
returns-in-Ok-clause-runs g c = (
  c.run_opening.result,
  c.code.ensures,
  subst (λ o. Runs g.D.Desk.told g.D.In.Source.told g.D.Out.Sink.told o c.run_opening.result (outside c.args.desk.now c.args.input.now c.args.output.now) (outside c.run_opening.new.desk c.run_opening.new.input c.run_opening.new.output))
      (sym c.in-Ok.ensures) (inr c.run_opening.ensures.runs),
)

pub returns-in-Ok-clause-wrong_words : goal.returns-in-Ok-clause-wrong_words
returns-in-Ok-clause-wrong_words g c = λ e. absurd (c.run_opening.ensures.words (status_is c.run_opening.result 1 (sym c.code.ensures ∙ e)))

pub returns-in-Ok-clause-read_fault : goal.returns-in-Ok-clause-read_fault
returns-in-Ok-clause-read_fault g c = λ e. c.run_opening.ensures.read_fault (status_is c.run_opening.result 2 (sym c.code.ensures ∙ e))

pub returns-in-Ok-clause-write_fault : goal.returns-in-Ok-clause-write_fault
returns-in-Ok-clause-write_fault g c = λ e. c.run_opening.ensures.write_fault (status_is c.run_opening.result 3 (sym c.code.ensures ∙ e))

pub returns-in-Ok-clause-bad_settings : goal.returns-in-Ok-clause-bad_settings
returns-in-Ok-clause-bad_settings g c = λ e.
    subst (λ o. HasBadSettings o (g.D.Desk.told c.args.desk.now)) (sym c.in-Ok.ensures) (c.run_opening.ensures.bad_settings (status_is c.run_opening.result 5 (sym c.code.ensures ∙ e)))

pub returns-in-Ok-clause-broken_rows : goal.returns-in-Ok-clause-broken_rows
returns-in-Ok-clause-broken_rows g c = λ e.
    subst (λ o. HasBrokenRows o (g.D.Desk.told c.args.desk.now)) (sym c.in-Ok.ensures) (c.run_opening.ensures.broken_rows (status_is c.run_opening.result 6 (sym c.code.ensures ∙ e)))

pub returns-in-Ok-clause-outside : goal.returns-in-Ok-clause-outside
returns-in-Ok-clause-outside g c = λ e. c.run_opening.ensures.outside (status_is c.run_opening.result 7 (sym c.code.ensures ∙ e))

pub returns-in-Err-Wrong-clause-runs : goal.returns-in-Err-Wrong-clause-runs
returns-in-Err-Wrong-clause-runs g c = (
  WrongWords,
  c.code-in-Err-Wrong.ensures,
  subst (λ o. Runs g.D.Desk.told g.D.In.Source.told g.D.Out.Sink.told o WrongWords (outside c.args.desk.now c.args.input.now c.args.output.now) (outside c.args.desk.now c.args.input.now c.args.output.now))
      (sym (c.in-Err-Wrong.ensures c.in-Err-Wrong.field-0-is)) (inl refl, refl),
)

pub returns-in-Err-OutOfMemory-clause-runs : goal.returns-in-Err-OutOfMemory-clause-runs
returns-in-Err-OutOfMemory-clause-runs g c = (
  OutOfMemory,
  c.code-in-Err-OutOfMemory.ensures,
  untouched g.D.Desk.told g.D.In.Source.told g.D.Out.Sink.told _ (outside c.args.desk.now c.args.input.now c.args.output.now),
)
