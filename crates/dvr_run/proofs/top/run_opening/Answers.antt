use Rattle.std.proofs.Common.{◌∙◌, inl, inr, refl, sym}
use Rattle.dvr_run.proofs.RunLemmas.{bad_settings, broken_rows, desk_rose, not_answered, not_unopened}
use Rattle.dvr_run.specs.declared.status.Status.TheVariants as status
use Rattle.dvr_run.proofs.top.run_opening.Goals as goal

pub run_rows-requires : goal.run_rows-requires
run_rows-requires g c = c.in-Ok.ensures.ok.consistent

pub returns-in-Ok-clause-runs : goal.returns-in-Ok-clause-runs
returns-in-Ok-clause-runs g c = inr (record {
  settings = c.in-Ok.settings;
  rows = c.in-Ok.rows;
  counted = c.in-Ok.ensures.closed.0;
  opens = c.in-Ok.ensures.ok;
  answers = c.run_rows.ensures.answers;
  closed = c.in-Ok.ensures.closed.1;
})

pub returns-in-Err-clause-runs : goal.returns-in-Err-clause-runs
returns-in-Err-clause-runs g c = inl (c.in-Err.why, c.of_unopened.ensures, c.in-Err.ensures.err, refl, refl)

pub returns-in-Ok-clause-bad_settings : goal.returns-in-Ok-clause-bad_settings
returns-in-Ok-clause-bad_settings g c = λ e. not_answered _ _ c.run_rows.result status.BadSettings _ _ _ _ c.run_rows.ensures.answers refl e

pub returns-in-Ok-clause-broken_rows : goal.returns-in-Ok-clause-broken_rows
returns-in-Ok-clause-broken_rows g c = λ e. not_answered _ _ c.run_rows.result status.Inconsistent _ _ _ _ c.run_rows.ensures.answers refl e

pub returns-in-Ok-clause-outside : goal.returns-in-Ok-clause-outside
returns-in-Ok-clause-outside g c = λ e. not_answered _ _ c.run_rows.result status.Failed _ _ _ _ c.run_rows.ensures.answers refl e

pub returns-in-Ok-clause-words : goal.returns-in-Ok-clause-words
returns-in-Ok-clause-words g c = λ e. not_answered _ _ c.run_rows.result status.WrongWords _ _ _ _ c.run_rows.ensures.answers refl e

pub returns-in-Err-clause-read_fault : goal.returns-in-Err-clause-read_fault
returns-in-Err-clause-read_fault g c = λ e. not_unopened c.in-Err.why status.ReadFault refl (sym c.of_unopened.ensures ∙ e)

pub returns-in-Err-clause-write_fault : goal.returns-in-Err-clause-write_fault
returns-in-Err-clause-write_fault g c = λ e. not_unopened c.in-Err.why status.WriteFault refl (sym c.of_unopened.ensures ∙ e)

pub returns-in-Err-clause-words : goal.returns-in-Err-clause-words
returns-in-Err-clause-words g c = λ e. not_unopened c.in-Err.why status.WrongWords refl (sym c.of_unopened.ensures ∙ e)

pub returns-in-Err-clause-bad_settings : goal.returns-in-Err-clause-bad_settings
returns-in-Err-clause-bad_settings g c = λ e. bad_settings c.in-Err.why c.args.opening.now _ _ c.in-Err.ensures.cause (sym c.of_unopened.ensures ∙ e)

pub returns-in-Err-clause-broken_rows : goal.returns-in-Err-clause-broken_rows
returns-in-Err-clause-broken_rows g c = λ e. broken_rows c.in-Err.why c.args.opening.now _ _ c.in-Err.ensures.cause (sym c.of_unopened.ensures ∙ e)

pub returns-in-Err-clause-outside : goal.returns-in-Err-clause-outside
returns-in-Err-clause-outside g c = λ e. desk_rose c.in-Err.why c.args.opening.now _ _ c.in-Err.ensures.cause (sym c.of_unopened.ensures ∙ e)
