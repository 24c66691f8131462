use Rattle.std.proofs.Common.{◌∙◌, ap, inl, inr, refl, subst, sym}
use Rattle.world_laws.specs.World.{World, first_world}
use Rattle.neutron_serve.specs.Connections.{Listens, carried}
use Rattle.neutron_serve.specs.Runs.{is_manual}
use Rattle.neutron_serve.proofs.OpeningLemmas.{opened_out, served_closed}
use Rattle.neutron_serve.proofs.ServingLemmas.{listened_stores}
use Rattle.neutron_serve.proofs.StatusLemmas.{bad_settings, broken_rows, desk_rose, listening_serves, not_listening, served_rose, unopened_serving}
use Rattle.neutron_serve.specs.declared.status.Status.TheVariants as status
use Rattle.neutron_serve.specs.Status.{is_serving}
use Rattle.neutron_serve.proofs.top.run_serve.Goals as goal

pub returns-in-Ok-clause-runs : goal.returns-in-Ok-clause-runs
returns-in-Ok-clause-runs g c =
    let o = c.in-Ok.ensures.ok in
    let status = c.listen_and_serve-status in
    let opened = g.D.Desk.told c.open.new.desk in
    let served = g.D.Desk.told status.new.desk in
    let first = g.D.Store.Keeper.told c.in-Ok.store in
    let after = g.D.Store.Keeper.told status.new.store in
    let last = carried status.new.world after served in
    let listens = subst (λ (w : World). Listens g.D.In.Source.told g.D.Out.Sink.told c.args.address.now c.args.most status.result (carried w first opened) last) o.3 status.ensures.listens in
    inr (record {
      settings = o.0;
      rows = o.1;
      opens = o.2;
      store = first;
      faults = opened.faults;
      later = c.open.ensures.later;
      last = last;
      listens = subst (λ d. Listens g.D.In.Source.told g.D.Out.Sink.told c.args.address.now c.args.most status.result (carried (first_world o.0 (is_manual c.args.opening.now.delivery) o.1) first d) last) c.in-Ok.ensures.opened listens;
      closed = served_closed c.args.opening.now (g.D.Desk.told c.args.desk.now) opened served (g.D.Desk.told c.close.new.self) first after status.new.world.history.rows c.in-Ok.ensures.opened
          (listened_stores g.D.In.Source.told g.D.Out.Sink.told _ _ _ _ _ status.ensures.listens) c.in-Ok.ensures.told status.ensures.kept c.close.ensures;
    })

pub returns-in-Err-clause-runs : goal.returns-in-Err-clause-runs
returns-in-Err-clause-runs g c = inl (c.in-Err.why, c.of_unopened.ensures, c.in-Err.ensures.err)

pub listen_and_serve-status-requires-clause-none_out : goal.listen_and_serve-status-requires-clause-none_out
listen_and_serve-status-requires-clause-none_out g c = opened_out c.args.opening.now (g.D.Desk.told c.args.desk.now) (g.D.Desk.told c.open.new.desk) c.in-Ok.ensures.opened c.requires

pub returns-in-Err-clause-serving : goal.returns-in-Err-clause-serving
returns-in-Err-clause-serving g c = ap is_serving c.of_unopened.ensures ∙ unopened_serving c.in-Err.why

pub returns-in-Ok-clause-bad_settings : goal.returns-in-Ok-clause-bad_settings
returns-in-Ok-clause-bad_settings g c = λ e. not_listening c.listen_and_serve-status.result status.BadSettings refl c.listen_and_serve-status.ensures.serving e

pub returns-in-Ok-clause-broken_rows : goal.returns-in-Ok-clause-broken_rows
returns-in-Ok-clause-broken_rows g c = λ e. not_listening c.listen_and_serve-status.result status.Inconsistent refl c.listen_and_serve-status.ensures.serving e

pub returns-in-Ok-clause-serving : goal.returns-in-Ok-clause-serving
returns-in-Ok-clause-serving g c = listening_serves c.listen_and_serve-status.result c.listen_and_serve-status.ensures.serving

pub returns-in-Ok-clause-outside : goal.returns-in-Ok-clause-outside
returns-in-Ok-clause-outside g c = λ e. served_rose (g.D.Desk.told c.args.desk.now) (g.D.Desk.told c.open.new.desk) (g.D.Desk.told c.listen_and_serve-status.new.desk) (g.D.Desk.told c.close.new.self) (g.D.Store.Keeper.told c.listen_and_serve-status.new.store) c.open.ensures.later (c.listen_and_serve-status.ensures.outside e) c.close.ensures

pub returns-in-Err-clause-bad_settings : goal.returns-in-Err-clause-bad_settings
returns-in-Err-clause-bad_settings g c = λ e. bad_settings c.in-Err.why c.args.opening.now _ _ c.in-Err.ensures.cause (sym c.of_unopened.ensures ∙ e)

pub returns-in-Err-clause-broken_rows : goal.returns-in-Err-clause-broken_rows
returns-in-Err-clause-broken_rows g c = λ e. broken_rows c.in-Err.why c.args.opening.now _ _ c.in-Err.ensures.cause (sym c.of_unopened.ensures ∙ e)

pub returns-in-Err-clause-outside : goal.returns-in-Err-clause-outside
returns-in-Err-clause-outside g c = λ e. desk_rose c.in-Err.why c.args.opening.now _ _ c.in-Err.ensures.cause (sym c.of_unopened.ensures ∙ e)
