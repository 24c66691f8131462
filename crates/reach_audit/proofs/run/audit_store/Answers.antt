use Rattle.std.proofs.Common.{None, Some, inr, subst}
use Rattle.std.specs.Prelude.{Err, Ok}
use Rattle.std.proofs.lemmas.Result.{err_from_is_err_and}
use Rattle.reach_audit.specs.Audits.{IsAudit}
use Rattle.reach_audit.proofs.RunLemmas.{asked_wanted, refused_so, unopened_so}
use Rattle.reach_audit.proofs.run.audit_store.Goals as goal

pub returns-in_err-_settings-clause-err : goal.returns-in_err-_settings-clause-err
returns-in_err-_settings-clause-err g c =
    let p = err_from_is_err_and c.from_residual.result c.from_residual.ensures.1 in
    rw (p.1, p.2) (unopened_so c.in_err-_settings.field-0.0 c.args.arguments.now _ _ c.in_err-_settings.ensures.err)

pub returns-in_err-bytes-clause-err : goal.returns-in_err-bytes-clause-err
returns-in_err-bytes-clause-err g c =
    let p = err_from_is_err_and c.from_residual-in_err-bytes.result c.from_residual-in_err-bytes.ensures.1 in
    let opened = c.in_ok-_settings.ensures in
    rw (p.1, p.2) (refused_so c.in_err-bytes.field-0.0 c.args.arguments.now c.in_ok-_settings.rows _ _
    (asked_wanted c.args.arguments.now c.in_ok-_settings._settings c.in_ok-_settings.rows (Err c.in_err-bytes.field-0.0) _ _ _ opened.ok c.read_rows.ensures.later opened.closed c.in_err-bytes.ensures.asks tt))

pub returns-in_err-audit-clause-err : goal.returns-in_err-audit-clause-err
returns-in_err-audit-clause-err g c =
    let p = err_from_is_err_and c.from_residual-in_err-audit.result c.from_residual-in_err-audit.ensures.1 in
    let opened = c.in_ok-_settings.ensures in
    rw (p.1, p.2) (inr (inr (
      c.in_ok-_settings.rows,
      c.in_ok-bytes.bytes,
      asked_wanted c.args.arguments.now c.in_ok-_settings._settings c.in_ok-_settings.rows (Ok c.in_ok-bytes.bytes) _ _ _ opened.ok c.read_rows.ensures.later opened.closed c.in_ok-bytes.ensures.asks c.in_ok-bytes.ensures.bytes,
    )))

pub returns-in-Some-clause-ok : goal.returns-in-Some-clause-ok
returns-in-Some-clause-ok g c =
    let opened = c.in_ok-_settings.ensures in
    let audit = subst (λ b. IsAudit c.in_ok-_settings.rows b (Some c.in-Some.audit)) c.as_slice.ensures (subst (λ o. IsAudit c.in_ok-_settings.rows c.as_slice.result.now o) c.in-Some.is c.in_ok-audit.ensures) in
    record {
      rows = c.in_ok-_settings.rows;
      bytes = c.in_ok-bytes.bytes;
      given = asked_wanted c.args.arguments.now c.in_ok-_settings._settings c.in_ok-_settings.rows (Ok c.in_ok-bytes.bytes) _ _ _ opened.ok c.read_rows.ensures.later opened.closed c.in_ok-bytes.ensures.asks c.in_ok-bytes.ensures.bytes;
      wanted = audit.0;
      tables = audit.1;
      says = audit.2;
    }

pub returns-clause-err : goal.returns-clause-err
returns-clause-err g c =
    let opened = c.in_ok-_settings.ensures in (
      c.in_ok-_settings.rows,
      c.in_ok-bytes.bytes,
      asked_wanted c.args.arguments.now c.in_ok-_settings._settings c.in_ok-_settings.rows (Ok c.in_ok-bytes.bytes) _ _ _ opened.ok c.read_rows.ensures.later opened.closed c.in_ok-bytes.ensures.asks c.in_ok-bytes.ensures.bytes,
      subst (λ b. IsAudit c.in_ok-_settings.rows b None) c.as_slice.ensures (subst (λ o. IsAudit c.in_ok-_settings.rows c.as_slice.result.now o) c.in-None.is c.in_ok-audit.ensures),
    )
