use Rattle.std.proofs.Common.{inl, inr, refl}
use Rattle.agent_run.proofs.RunLemmas.{line_outside, line_settings, line_words, line_write}
use Rattle.agent_run.proofs.run.run_line.Goals as goal

pub returns-in-Ok-clause-runs : goal.returns-in-Ok-clause-runs
returns-in-Ok-clause-runs g c = inr (record { settings = c.in-Ok.settings; spelled = c.in-Ok.ensures.ok; asked = c.in-Ok.ensures.asked; is = c.follow.ensures })

pub returns-in-Ok-clause-words : goal.returns-in-Ok-clause-words
returns-in-Ok-clause-words g c = line_words g.D.Desk.told g.L.Link.told g.L.In.Source.told g.L.Out.Sink.told g.D.Out.Sink.told c.args.line.now c.follow.result _ _ (returns-in-Ok-clause-runs g c)

pub returns-in-Ok-clause-write_fault : goal.returns-in-Ok-clause-write_fault
returns-in-Ok-clause-write_fault g c = line_write g.D.Desk.told g.L.Link.told g.L.In.Source.told g.L.Out.Sink.told g.D.Out.Sink.told c.args.line.now c.follow.result _ _ (returns-in-Ok-clause-runs g c)

pub returns-in-Ok-clause-bad_settings : goal.returns-in-Ok-clause-bad_settings
returns-in-Ok-clause-bad_settings g c = line_settings g.D.Desk.told g.L.Link.told g.L.In.Source.told g.L.Out.Sink.told g.D.Out.Sink.told c.args.line.now c.follow.result _ _ (returns-in-Ok-clause-runs g c)

pub returns-in-Ok-clause-outside : goal.returns-in-Ok-clause-outside
returns-in-Ok-clause-outside g c = line_outside g.D.Desk.told g.L.Link.told g.L.In.Source.told g.L.Out.Sink.told g.D.Out.Sink.told c.args.line.now c.follow.result _ _ (returns-in-Ok-clause-runs g c)

pub returns-in-Err-clause-runs : goal.returns-in-Err-clause-runs
returns-in-Err-clause-runs g c = inl (c.in-Err.why, c.unopened.ensures, c.in-Err.ensures.err, refl, refl)

pub returns-in-Err-clause-words : goal.returns-in-Err-clause-words
returns-in-Err-clause-words g c = line_words g.D.Desk.told g.L.Link.told g.L.In.Source.told g.L.Out.Sink.told g.D.Out.Sink.told c.args.line.now c.unopened.result _ _ (returns-in-Err-clause-runs g c)

pub returns-in-Err-clause-write_fault : goal.returns-in-Err-clause-write_fault
returns-in-Err-clause-write_fault g c = line_write g.D.Desk.told g.L.Link.told g.L.In.Source.told g.L.Out.Sink.told g.D.Out.Sink.told c.args.line.now c.unopened.result _ _ (returns-in-Err-clause-runs g c)

pub returns-in-Err-clause-bad_settings : goal.returns-in-Err-clause-bad_settings
returns-in-Err-clause-bad_settings g c = line_settings g.D.Desk.told g.L.Link.told g.L.In.Source.told g.L.Out.Sink.told g.D.Out.Sink.told c.args.line.now c.unopened.result _ _ (returns-in-Err-clause-runs g c)

pub returns-in-Err-clause-outside : goal.returns-in-Err-clause-outside
returns-in-Err-clause-outside g c = line_outside g.D.Desk.told g.L.Link.told g.L.In.Source.told g.L.Out.Sink.told g.D.Out.Sink.told c.args.line.now c.unopened.result _ _ (returns-in-Err-clause-runs g c)
