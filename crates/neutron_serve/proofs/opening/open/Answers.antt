use Rattle.std.proofs.Common.{◌∙◌, ◌≡◌, Some, ap, subst, sym}
use Rattle.keeper_core.specs.Counts.{RoseBy, Tells}
use Rattle.world_laws.specs.World.{first_world}
use Rattle.std.specs.Prelude.{Err, IfSome}
use Rattle.keeper_core.specs.Desk.{opening_rows}
use Rattle.std.proofs.lemmas.Result.{err_from_is_err_and}
use Rattle.openings.proofs.OpeningLemmas.{cause_of, if_err_cause, rows_refused, stored_rows, told_rows}
use Rattle.neutron_serve.proofs.opening.open.Goals as goal

pub returns-in_err-settings-clause-err : goal.returns-in_err-settings-clause-err
returns-in_err-settings-clause-err g c =
    let p = err_from_is_err_and c.from_residual.result c.from_residual.ensures.1 in
    rw (p.1, p.2) c.in_err-settings.ensures.err

pub returns-in_err-settings-clause-cause : goal.returns-in_err-settings-clause-cause
returns-in_err-settings-clause-cause g c = if_err_cause c.args.opening.now _ _ _ (returns-in_err-settings-clause-err g c)

pub returns-in-Ok-clause-opened : goal.returns-in-Ok-clause-opened
returns-in-Ok-clause-opened g c = c.in_ok-settings.ensures.opened

pub returns-in-Ok-clause-told : goal.returns-in-Ok-clause-told
returns-in-Ok-clause-told g c =
    let name = c.args.opening.now.store in
    let stores = (g.D.Desk.told c.args.desk.now).stores in
    told_rows name stores _ (subst (λ k. IfSome stores (λ told. k ≡ Some (opening_rows name told))) (sym c.load_world.ensures.kept) c.in_ok-settings.ensures.store.rows)

pub returns-in-Ok-clause-ok : goal.returns-in-Ok-clause-ok
returns-in-Ok-clause-ok g c =
    let l = c.in-Ok.ensures.ok in (
      c.in_ok-settings.settings,
      l.0,
      record {
        spelled = c.in_ok-settings.ensures.settings;
        stored = stored_rows c.args.opening.now.store _ _ l.0 c.in_ok-settings.ensures.store.rows l.1;
        consistent = l.3;
      },
      l.2 ∙ ap (λ m. first_world c.in_ok-settings.settings m l.0) c.is_manual.ensures,
      subst (λ k. Tells k l.0) (sym c.load_world.ensures.kept) l.1,
    )

pub returns-in-Err-clause-err : goal.returns-in-Err-clause-err
returns-in-Err-clause-err g c =
    let opening = c.args.opening.now in
    let stores = (g.D.Desk.told c.args.desk.now).stores in
    let loaded = g.D.Store.Keeper.told c.load_world.new.keeper in
    let tells = c.in_ok-settings.ensures.store.rows in
    rows_refused c.in-Err.why c.in_ok-settings.settings opening (g.D.Desk.told c.args.desk.now) (g.D.Desk.told c.open_store.new.desk) (g.D.Desk.told c.close.new.self) loaded c.in_ok-settings.ensures.settings
    c.in_ok-settings.ensures.opened
    (subst (λ k. IfSome stores (λ told. k ≡ Some (opening_rows opening.store told))) (sym c.load_world.ensures.kept) tells)
    c.close.ensures
    (λ e. c.in-Err.ensures.settings (ap Err e))
    (λ e. let b = c.in-Err.ensures.broken (ap Err e) in record {
      rows = b.0;
      broken = b.1;
      stored = stored_rows opening.store _ _ b.0 tells b.2;
      breaks = b.3;
    })
    (λ e. subst (λ n. RoseBy 1 n loaded.faults) c.in_ok-settings.ensures.store.fresh (c.in-Err.ensures.failed (ap Err e)))

pub returns-in-Err-clause-cause : goal.returns-in-Err-clause-cause
returns-in-Err-clause-cause g c = cause_of c.in-Err.why c.args.opening.now _ _ (returns-in-Err-clause-err g c)
