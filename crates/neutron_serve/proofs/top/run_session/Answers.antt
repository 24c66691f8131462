use Rattle.std.proofs.Common.{◌∙◌, inl, inr, refl, subst, sym}
use Rattle.http_session.specs.Serves.{scene}
use Rattle.world_laws.specs.World.{World}
use Rattle.neutron_serve.specs.Promises.{Promises}
use Rattle.openings.proofs.OpeningLemmas.{store_closed}
use Rattle.neutron_serve.proofs.StatusLemmas.{bad_settings, broken_rows, desk_rose, ended_read, ended_write, not_ended, not_unopened}
use Rattle.neutron_serve.specs.declared.status.Status.TheVariants as status
use Rattle.neutron_serve.proofs.top.run_session.Goals as goal

pub returns-in-Ok-clause-runs : goal.returns-in-Ok-clause-runs
returns-in-Ok-clause-runs g c =
    let o = c.in-Ok.ensures.ok in
    let end = c.session-end in
    let first = g.D.Store.Keeper.told c.in-Ok.store in
    let after = g.D.Store.Keeper.told end.new.keeper in
    inr (
      end.result,
      c.of_end.ensures,
      record {
        settings = o.0;
        rows = o.1;
        opens = o.2;
        store = first;
        world = end.new.world;
        after = after;
        promises = subst (λ (w : World). Promises 1099511627776
            (scene w first (g.D.In.Source.told c.args.input.now) (g.D.Out.Sink.told c.args.output.now))
            (scene end.new.world after (g.D.In.Source.told end.new.input) (g.D.Out.Sink.told end.new.output)) end.result)
            o.3 end.ensures.promises;
        closed = store_closed c.args.opening.now (g.D.Desk.told c.args.desk.now) (g.D.Desk.told c.open.new.desk) (g.D.Desk.told c.close.new.self) first after end.new.world.history.rows c.in-Ok.ensures.opened c.in-Ok.ensures.told end.ensures.kept c.close.ensures;
      },
    )

pub returns-in-Err-clause-runs : goal.returns-in-Err-clause-runs
returns-in-Err-clause-runs g c = inl (c.in-Err.why, c.of_unopened.ensures, c.in-Err.ensures.err, refl, refl)

pub returns-in-Ok-clause-read_fault : goal.returns-in-Ok-clause-read_fault
returns-in-Ok-clause-read_fault g c = λ e. c.session-end.ensures.read_fault (ended_read c.session-end.result (sym c.of_end.ensures ∙ e))

pub returns-in-Ok-clause-write_fault : goal.returns-in-Ok-clause-write_fault
returns-in-Ok-clause-write_fault g c = λ e. c.session-end.ensures.write_fault (ended_write c.session-end.result (sym c.of_end.ensures ∙ e))

pub returns-in-Ok-clause-bad_settings : goal.returns-in-Ok-clause-bad_settings
returns-in-Ok-clause-bad_settings g c = λ e. not_ended c.session-end.result status.BadSettings refl (sym c.of_end.ensures ∙ e)

pub returns-in-Ok-clause-broken_rows : goal.returns-in-Ok-clause-broken_rows
returns-in-Ok-clause-broken_rows g c = λ e. not_ended c.session-end.result status.Inconsistent refl (sym c.of_end.ensures ∙ e)

pub returns-in-Ok-clause-outside : goal.returns-in-Ok-clause-outside
returns-in-Ok-clause-outside g c = λ e. not_ended c.session-end.result status.Failed refl (sym c.of_end.ensures ∙ e)

pub returns-in-Ok-clause-words : goal.returns-in-Ok-clause-words
returns-in-Ok-clause-words g c = λ e. not_ended c.session-end.result status.WrongWords refl (sym c.of_end.ensures ∙ e)

pub returns-in-Err-clause-read_fault : goal.returns-in-Err-clause-read_fault
returns-in-Err-clause-read_fault g c = λ e. not_unopened c.in-Err.why status.ReadFault refl (sym c.of_unopened.ensures ∙ e)

pub returns-in-Err-clause-write_fault : goal.returns-in-Err-clause-write_fault
returns-in-Err-clause-write_fault g c = λ e. not_unopened c.in-Err.why status.WriteFault refl (sym c.of_unopened.ensures ∙ e)

pub returns-in-Err-clause-words : goal.returns-in-Err-clause-words
returns-in-Err-clause-words g c = λ e. not_unopened c.in-Err.why status.WrongWords refl (sym c.of_unopened.ensures ∙ e)

pub returns-in-Err-clause-bad_settings : goal.returns-in-Err-clause-bad_settings
returns-in-Err-clause-bad_settings g c = λ e. bad_settings c.in-Err.why c.args.opening.now _ _ c.in-Err.ensures.cause (sym c.of_unopened.ensures ∙ e)

pub returns-in-Err-clause-broken_rows : goal.returns-in-Err-clause-broken_rows
returns-in-Err-clause-broken_rows g c = λ e. broken_rows c.in-Err.why c.args.opening.now _ _ c.in-Err.ensures.cause (sym c.of_unopened.ensures ∙ e)

pub returns-in-Err-clause-outside : goal.returns-in-Err-clause-outside
returns-in-Err-clause-outside g c = λ e. desk_rose c.in-Err.why c.args.opening.now _ _ c.in-Err.ensures.cause (sym c.of_unopened.ensures ∙ e)
