use Rattle.std.proofs.Common.{inl}
use Rattle.std.proofs.lemmas.Result.{err_from_is_err_and}
use Rattle.openings.proofs.OpeningLemmas.{all_opened, opens_with, store_refused}
use Rattle.openings.proofs.store.open_store.Goals as goal

pub returns-in_err-settings-clause-err : goal.returns-in_err-settings-clause-err
returns-in_err-settings-clause-err g c =
    let p = err_from_is_err_and c.from_residual.result c.from_residual.ensures.1 in
    rw (p.1, p.2) (inl c.in_err-settings.ensures.err)

pub returns-in_err-store-clause-err : goal.returns-in_err-store-clause-err
returns-in_err-store-clause-err g c =
    let p = err_from_is_err_and c.from_residual-in_err-store.result c.from_residual-in_err-store.ensures.1 in
    rw (p.1, p.2) (store_refused c.in_err-store.field-0.0 c.in_ok-settings.settings c.args.opening.now (g.D.Desk.told c.args.desk.now) (g.D.Desk.told c.ask_settings.new.desk) (g.D.Desk.told c.store_for.new.desk) c.in_ok-settings.ensures.ok c.in_ok-settings.ensures.asked c.ask_settings.ensures.later c.in_err-store.ensures.asks)

pub returns-clause-store : goal.returns-clause-store
returns-clause-store g c = opens_with c.args.opening.now (g.D.Desk.told c.args.desk.now) (g.D.Desk.told c.ask_settings.new.desk) (g.D.Store.Keeper.told c.in_ok-store.store) c.in_ok-settings.ensures.asked c.in_ok-store.ensures.store

pub returns-clause-opened : goal.returns-clause-opened
returns-clause-opened g c = all_opened c.args.opening.now (g.D.Desk.told c.args.desk.now) (g.D.Desk.told c.ask_settings.new.desk) (g.D.Desk.told c.store_for.new.desk) c.in_ok-settings.ensures.asked c.in_ok-store.ensures.asks.is
