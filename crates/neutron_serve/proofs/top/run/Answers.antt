use Rattle.std.proofs.Common.{◌∙◌, ap, inl, inr, refl, subst, sym}
use Rattle.command_lines.specs.Lines.{line_of}
use Rattle.neutron_serve.specs.Runs.{EndsWell, HasBadSettings, HasBrokenRows, Runs, is_session_line, opening_of, outside}
use Rattle.neutron_serve.specs.declared.status.Status.TheVariants.{OutOfMemory, WrongWords}
use Rattle.neutron_serve.proofs.RunLemmas.{untouched}
use Rattle.neutron_serve.proofs.StatusLemmas.{ends_well, no_line, status_is}
use Rattle.neutron_serve.proofs.top.run.Goals as goal

pub returns-in-Ok-clause-runs : goal.returns-in-Ok-clause-runs
returns-in-Ok-clause-runs g c = (
  c.run_line.result,
  c.code.ensures,
  subst (λ o. Runs g.D.Desk.told g.D.In.Source.told g.D.Out.Sink.told o c.run_line.result (outside c.args.desk.now c.args.input.now c.args.output.now) (outside c.run_line.new.desk c.run_line.new.input c.run_line.new.output))
      (sym c.in-Ok.ensures) (inr c.run_line.ensures.runs),
)

pub returns-in-Ok-clause-wrong_words : goal.returns-in-Ok-clause-wrong_words
returns-in-Ok-clause-wrong_words g c = λ e. absurd (c.run_line.ensures.words (status_is c.run_line.result 1 (sym c.code.ensures ∙ e)))

pub returns-in-Ok-clause-read_fault : goal.returns-in-Ok-clause-read_fault
returns-in-Ok-clause-read_fault g c = λ e. c.run_line.ensures.read_fault (status_is c.run_line.result 2 (sym c.code.ensures ∙ e))

pub returns-in-Ok-clause-write_fault : goal.returns-in-Ok-clause-write_fault
returns-in-Ok-clause-write_fault g c = λ e. c.run_line.ensures.write_fault (status_is c.run_line.result 3 (sym c.code.ensures ∙ e))

pub returns-in-Ok-clause-bad_settings : goal.returns-in-Ok-clause-bad_settings
returns-in-Ok-clause-bad_settings g c = λ e.
    subst (λ o. HasBadSettings (opening_of o) (g.D.Desk.told c.args.desk.now)) (sym c.in-Ok.ensures) (c.run_line.ensures.bad_settings (status_is c.run_line.result 5 (sym c.code.ensures ∙ e)))

pub returns-in-Ok-clause-broken_rows : goal.returns-in-Ok-clause-broken_rows
returns-in-Ok-clause-broken_rows g c = λ e.
    subst (λ o. HasBrokenRows (opening_of o) (g.D.Desk.told c.args.desk.now)) (sym c.in-Ok.ensures) (c.run_line.ensures.broken_rows (status_is c.run_line.result 6 (sym c.code.ensures ∙ e)))

pub returns-in-Ok-clause-outside : goal.returns-in-Ok-clause-outside
returns-in-Ok-clause-outside g c = λ e. c.run_line.ensures.outside (status_is c.run_line.result 7 (sym c.code.ensures ∙ e))

pub returns-in-Ok-clause-budget : goal.returns-in-Ok-clause-budget
returns-in-Ok-clause-budget g c = λ e. ap is_session_line c.in-Ok.ensures ∙ c.run_line.ensures.budget (status_is c.run_line.result 8 (sym c.code.ensures ∙ e))

pub returns-in-Ok-clause-complete : goal.returns-in-Ok-clause-complete
returns-in-Ok-clause-complete g c = λ s.
    subst (EndsWell (line_of c.args.words.now)) (sym c.code.ensures)
    (ends_well c.run_line.result (is_session_line (line_of c.args.words.now))
    c.run_line.ensures.words
    (λ e. s.reads (c.run_line.ensures.read_fault e))
    (λ e. s.writes (c.run_line.ensures.write_fault e))
    (λ e. s.settings (subst (λ o. HasBadSettings (opening_of o) (g.D.Desk.told c.args.desk.now)) (sym c.in-Ok.ensures) (c.run_line.ensures.bad_settings e)))
    (λ e. s.rows (subst (λ o. HasBrokenRows (opening_of o) (g.D.Desk.told c.args.desk.now)) (sym c.in-Ok.ensures) (c.run_line.ensures.broken_rows e)))
    (λ e. s.stands (c.run_line.ensures.outside e))
    (λ e. ap is_session_line c.in-Ok.ensures ∙ c.run_line.ensures.budget e))

pub returns-in-Err-Wrong-clause-complete : goal.returns-in-Err-Wrong-clause-complete
returns-in-Err-Wrong-clause-complete g c = λ s. no_line (c.in-Err-Wrong.ensures c.in-Err-Wrong.field-0-is) s.is_line

pub returns-in-Err-OutOfMemory-clause-complete : goal.returns-in-Err-OutOfMemory-clause-complete
returns-in-Err-OutOfMemory-clause-complete g c = λ s. inr (inl c.code-in-Err-OutOfMemory.ensures)

pub returns-in-Err-Wrong-clause-runs : goal.returns-in-Err-Wrong-clause-runs
returns-in-Err-Wrong-clause-runs g c = (
  WrongWords,
  c.code-in-Err-Wrong.ensures,
  subst (λ o. Runs g.D.Desk.told g.D.In.Source.told g.D.Out.Sink.told o WrongWords (outside c.args.desk.now c.args.input.now c.args.output.now) (outside c.args.desk.now c.args.input.now c.args.output.now))
      (sym (c.in-Err-Wrong.ensures c.in-Err-Wrong.field-0-is)) (inl refl, refl),
)

pub returns-in-Err-OutOfMemory-clause-runs : goal.returns-in-Err-OutOfMemory-clause-runs
returns-in-Err-OutOfMemory-clause-runs g c = (
  OutOfMemory,
  c.code-in-Err-OutOfMemory.ensures,
  untouched g.D.Desk.told g.D.In.Source.told g.D.Out.Sink.told _ (outside c.args.desk.now c.args.input.now c.args.output.now),
)
