use Rattle.std.proofs.Common.{ap, refl, subst, sym}
use Rattle.neutron_serve.specs.Runs.{HasBadSettings, HasBrokenRows, RunsLine, is_session_in, opening_in, outside}
use Rattle.neutron_serve.specs.declared.status.Status.TheVariants as status
use Rattle.neutron_serve.proofs.StatusLemmas.{not_drilling, not_serving}
use Rattle.neutron_serve.proofs.top.run_line.Goals as goal

pub returns-in-Session-clause-runs : goal.returns-in-Session-clause-runs
returns-in-Session-clause-runs g c =
    subst (λ l. RunsLine g.D.Desk.told g.D.In.Source.told g.D.Out.Sink.told l c.run_session.result (outside c.args.desk.now c.args.input.now c.args.output.now) (outside c.run_session.new.desk c.run_session.new.input c.run_session.new.output))
    (sym c.in-Session.is) c.run_session.ensures.runs

pub returns-in-Serve-clause-runs : goal.returns-in-Serve-clause-runs
returns-in-Serve-clause-runs g c =
    subst (λ l. RunsLine g.D.Desk.told g.D.In.Source.told g.D.Out.Sink.told l c.run_serve.result (outside c.args.desk.now c.args.input.now c.args.output.now) (outside c.run_serve.new.desk c.args.input.now c.args.output.now))
    (sym c.in-Serve.is) (c.run_serve.ensures.runs, refl, refl)

pub returns-in-Drill-clause-runs : goal.returns-in-Drill-clause-runs
returns-in-Drill-clause-runs g c =
    subst (λ l. RunsLine g.D.Desk.told g.D.In.Source.told g.D.Out.Sink.told l c.run_drill.result (outside c.args.desk.now c.args.input.now c.args.output.now) (outside c.args.desk.now c.args.input.now c.run_drill.new.output))
    (sym c.in-Drill.is) (c.run_drill.ensures.runs, refl, refl)

pub returns-in-Serve-clause-read_fault : goal.returns-in-Serve-clause-read_fault
returns-in-Serve-clause-read_fault g c = λ e. not_serving c.run_serve.result status.ReadFault refl c.run_serve.ensures.serving e

pub returns-in-Serve-clause-write_fault : goal.returns-in-Serve-clause-write_fault
returns-in-Serve-clause-write_fault g c = λ e. not_serving c.run_serve.result status.WriteFault refl c.run_serve.ensures.serving e

pub returns-in-Serve-clause-budget : goal.returns-in-Serve-clause-budget
returns-in-Serve-clause-budget g c = λ e. not_serving c.run_serve.result status.Budget refl c.run_serve.ensures.serving e

pub returns-in-Serve-clause-words : goal.returns-in-Serve-clause-words
returns-in-Serve-clause-words g c = λ e. not_serving c.run_serve.result status.WrongWords refl c.run_serve.ensures.serving e

pub returns-in-Serve-clause-bad_settings : goal.returns-in-Serve-clause-bad_settings
returns-in-Serve-clause-bad_settings g c = λ e. subst (λ l. HasBadSettings (opening_in l) (g.D.Desk.told c.args.desk.now)) (sym c.in-Serve.is) (c.run_serve.ensures.bad_settings e)

pub returns-in-Serve-clause-broken_rows : goal.returns-in-Serve-clause-broken_rows
returns-in-Serve-clause-broken_rows g c = λ e. subst (λ l. HasBrokenRows (opening_in l) (g.D.Desk.told c.args.desk.now)) (sym c.in-Serve.is) (c.run_serve.ensures.broken_rows e)

pub returns-in-Session-clause-bad_settings : goal.returns-in-Session-clause-bad_settings
returns-in-Session-clause-bad_settings g c = λ e. subst (λ l. HasBadSettings (opening_in l) (g.D.Desk.told c.args.desk.now)) (sym c.in-Session.is) (c.run_session.ensures.bad_settings e)

pub returns-in-Session-clause-broken_rows : goal.returns-in-Session-clause-broken_rows
returns-in-Session-clause-broken_rows g c = λ e. subst (λ l. HasBrokenRows (opening_in l) (g.D.Desk.told c.args.desk.now)) (sym c.in-Session.is) (c.run_session.ensures.broken_rows e)

pub returns-in-Session-clause-budget : goal.returns-in-Session-clause-budget
returns-in-Session-clause-budget g c = λ e. ap is_session_in c.in-Session.is

pub returns-in-Drill-clause-read_fault : goal.returns-in-Drill-clause-read_fault
returns-in-Drill-clause-read_fault g c = λ e. not_drilling c.run_drill.result status.ReadFault refl c.run_drill.ensures.drilling e

pub returns-in-Drill-clause-bad_settings : goal.returns-in-Drill-clause-bad_settings
returns-in-Drill-clause-bad_settings g c = λ e. not_drilling c.run_drill.result status.BadSettings refl c.run_drill.ensures.drilling e

pub returns-in-Drill-clause-broken_rows : goal.returns-in-Drill-clause-broken_rows
returns-in-Drill-clause-broken_rows g c = λ e. not_drilling c.run_drill.result status.Inconsistent refl c.run_drill.ensures.drilling e

pub returns-in-Drill-clause-outside : goal.returns-in-Drill-clause-outside
returns-in-Drill-clause-outside g c = λ e. not_drilling c.run_drill.result status.Failed refl c.run_drill.ensures.drilling e

pub returns-in-Drill-clause-budget : goal.returns-in-Drill-clause-budget
returns-in-Drill-clause-budget g c = λ e. not_drilling c.run_drill.result status.Budget refl c.run_drill.ensures.drilling e

pub returns-in-Drill-clause-words : goal.returns-in-Drill-clause-words
returns-in-Drill-clause-words g c = λ e. not_drilling c.run_drill.result status.WrongWords refl c.run_drill.ensures.drilling e
