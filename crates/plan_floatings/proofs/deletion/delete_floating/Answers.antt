use Rattle.std.proofs.Common.{◌∙◌, ◌∷◌, []}
use Rattle.std.proofs.lemmas.Result.{err_from_is_err_and}
use Rattle.api_types.specs.declared.kind.Kind.TheVariants.{Floating as FloatingKind, Port as PortKind}
use Rattle.call_parts.specs.Edits.{Drop, made}
use Rattle.plan_floatings.proofs.CallLemmas.{deletion_leads, deletion_refused}
use Rattle.plan_floatings.proofs.deletion.delete_floating.Goals as goal

pub returns-in_err-ensure_deletable-clause-err : goal.returns-in_err-ensure_deletable-clause-err
returns-in_err-ensure_deletable-clause-err c =
    let p = err_from_is_err_and c.from_residual-in_err-ensure_deletable.result c.from_residual-in_err-ensure_deletable.ensures.1 in
    rw (p.1, p.2) (deletion_refused c.args.asking.now.state c.args.asking.now.caller c.args.name.now c.in_ok-floating.floating.now c.in_ok-floating.ensures.found c.in_err-ensure_deletable.field-0.0 c.in_err-ensure_deletable.ensures)

pub returns-clause-ok : goal.returns-clause-ok
returns-clause-ok c =
    let f = c.in_ok-floating.floating.now in
    let done = c.in_ok-without_floating.ensures in
    let leads = done.rows ∙ (λ j. made (c.rows.ensures.rows j) (Drop PortKind f.own_port ∷ Drop FloatingKind f.id ∷ [])) in
    record {
      start = done.start ∙ c.rows.ensures.rows;
      moved = deletion_leads c.args.asking.now.state c.args.asking.now.caller c.args.name.now f c.in_ok-floating.ensures.found c.in_ok-ensure_deletable.ensures c.in_ok-without_floating.field-0.rows leads;
    }
