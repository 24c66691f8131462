use Rattle.std.proofs.Common.{sym, subst}
use Rattle.std.proofs.lemmas.Result.{err_from_is_err_and}
use Rattle.keeper_core.specs.Desk.{AreNamed}
use Rattle.openings.specs.Openings.{AreSettings, by_settings}
use Rattle.openings.proofs.OpeningLemmas.{settings_given, settings_refused, settings_unread, settings_unmade, unread_cause}
use Rattle.openings.proofs.store.ask_settings.Goals as goal

pub returns-in_err-default_settings-clause-err : goal.returns-in_err-default_settings-clause-err
returns-in_err-default_settings-clause-err g c =
    let p = err_from_is_err_and c.from_residual.result c.from_residual.ensures.1 in
    rw (p.1, p.2) (settings_unmade c.args.opening.now (g.D.Desk.told c.args.desk.now))

pub returns-in_err-bytes-clause-err : goal.returns-in_err-bytes-clause-err
returns-in_err-bytes-clause-err g c =
    let p = err_from_is_err_and c.from_residual-in_err-bytes.result c.from_residual-in_err-bytes.ensures.1 in
    rw (p.1, p.2) (settings_refused c.in_err-bytes.field-0.0 c.in-Some.name c.args.opening.now _ _ c.in-Some.is c.in_err-bytes.ensures.asks)

pub returns-in_err-read_settings-clause-err : goal.returns-in_err-read_settings-clause-err
returns-in_err-read_settings-clause-err g c =
    let p = err_from_is_err_and c.from_residual-in_err-read_settings.result c.from_residual-in_err-read_settings.ensures.1 in
    let named = subst (AreNamed (g.D.Desk.told c.args.desk.now).files c.in-Some.name) (sym c.as_slice.ensures) c.in_ok-bytes.ensures.bytes in
    let refusal = c.in_err-read_settings.field-0.0 in
    rw (p.1, p.2) (settings_unread (by_settings refusal) c.in_ok-bytes.bytes c.in-Some.name c.args.opening.now _ _ c.in-Some.is c.in_ok-bytes.ensures.asks
    (unread_cause refusal c.as_slice.result.now c.in-Some.name c.args.opening.now _ _ c.in-Some.is named c.in_err-read_settings.ensures.bad))

pub returns-clause-ok : goal.returns-clause-ok
returns-clause-ok g c = subst (λ o. AreSettings (g.D.Desk.told c.args.desk.now).files o c.in_ok-read_settings.field-0) (sym c.in-Some.is)
    (c.as_slice.result.now, subst (AreNamed (g.D.Desk.told c.args.desk.now).files c.in-Some.name) (sym c.as_slice.ensures) c.in_ok-bytes.ensures.bytes, c.in_ok-read_settings.ensures.ok)

pub returns-clause-asked : goal.returns-clause-asked
returns-clause-asked g c = settings_given c.in_ok-bytes.bytes c.in-Some.name c.args.opening.now _ _ c.in-Some.is c.in_ok-bytes.ensures.asks
