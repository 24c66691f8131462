use Rattle.std.proofs.Common.{◌∙◌, inr, sym}
use Rattle.std.proofs.lemmas.Result.{err_from_is_err_and}
use Rattle.api_ipam.proofs.ChoiceLemmas.{all_there, one_held, pools_spent}
use Rattle.api_ipam.proofs.choosing.choose_for.Goals as goal

pub returns-in_err-ensure_free-clause-err : goal.returns-in_err-ensure_free-clause-err
returns-in_err-ensure_free-clause-err c =
    let p = err_from_is_err_and c.from_residual-in_err-ensure_free.result c.from_residual-in_err-ensure_free.ensures.1 in
    rw (p.1, p.2)
    (inr (one_held c.args.ports.now c.args.subnets.now c.args.network c.args.mac _ c.args.wanted.now c.in_ok-held.held c.as_slice.result.now (sym c.in_ok-placed.ensures ∙ c.if-not-placed.false) c.in_ok-held.ensures
    (c.as_slice.ensures ∙ c.in_ok-known.ensures) c.in_err-ensure_free.field-0.0 c.in_err-ensure_free.ensures.taken))

pub returns-clause-ok : goal.returns-clause-ok
returns-clause-ok c =
    all_there c.args.ports.now c.args.subnets.now c.args.network c.args.mac _ c.args.wanted.now c.in_ok-held.held c.as_slice.result.now (sym c.in_ok-placed.ensures ∙ c.if-not-placed.false) c.in_ok-held.ensures
    (c.as_slice.ensures ∙ c.in_ok-known.ensures) c.in_ok-ensure_free.ensures.free c.in_ok-fixed.fixed c.in_ok-fixed.ensures c.ensure_filled.result c.ensure_filled.ensures.there

pub returns-clause-err : goal.returns-clause-err
returns-clause-err c =
    pools_spent c.args.ports.now c.args.subnets.now c.args.network c.args.mac _ c.args.wanted.now c.in_ok-held.held c.as_slice.result.now (sym c.in_ok-placed.ensures ∙ c.if-not-placed.false) c.in_ok-held.ensures
    (c.as_slice.ensures ∙ c.in_ok-known.ensures) c.in_ok-ensure_free.ensures.free c.in_ok-fixed.fixed c.in_ok-fixed.ensures c.ensure_filled.result c.ensure_filled.ensures.spent
