use Rattle.std.proofs.Common.{◌≡◌, Some, ap, subst, sym}
use Rattle.std.specs.Prelude.{Err, IfSome}
use Rattle.std.proofs.lemmas.Result.{err_from_is_err_and}
use Rattle.keeper_core.specs.Counts.{RoseBy}
use Rattle.keeper_core.specs.Desk.{opening_rows}
use Rattle.openings.proofs.OpeningLemmas.{if_err_cause, rows_refused, stored_rows}
use Rattle.openings.proofs.rows.read_rows.Goals as goal

pub returns-in_err-rows-clause-err : goal.returns-in_err-rows-clause-err
returns-in_err-rows-clause-err g c =
    let p = err_from_is_err_and c.from_residual-in_err-rows.result c.from_residual-in_err-rows.ensures.1 in
    let opening = c.args.opening.now in
    let stores = (g.D.Desk.told c.args.desk.now).stores in
    let loaded = g.D.Store.Keeper.told c.load_rows-rows.new.keeper in
    let tells = c.in_ok-settings.ensures.store.rows in
    rw (p.1, p.2) (rows_refused c.in_err-rows.field-0.0 c.in_ok-settings.settings opening (g.D.Desk.told c.args.desk.now) (g.D.Desk.told c.open_store.new.desk) (g.D.Desk.told c.close.new.self) loaded c.in_ok-settings.ensures.settings
    c.in_ok-settings.ensures.opened
    (subst (λ k. IfSome stores (λ told. k ≡ Some (opening_rows opening.store told))) (sym c.load_rows-rows.ensures.kept) tells)
    c.close.ensures
    (λ e. c.in_err-rows.ensures.settings (ap Err e))
    (λ e. let b = c.in_err-rows.ensures.broken (ap Err e) in record {
      rows = b.0;
      broken = b.1;
      stored = stored_rows opening.store _ _ b.0 tells b.2;
      breaks = b.3;
    })
    (λ e. subst (λ n. RoseBy 1 n loaded.faults) c.in_ok-settings.ensures.store.fresh (c.in_err-rows.ensures.failed (ap Err e))))

pub returns-in_err-rows-clause-cause : goal.returns-in_err-rows-clause-cause
returns-in_err-rows-clause-cause g c = if_err_cause c.args.opening.now _ _ _ (returns-in_err-rows-clause-err g c)
