use Rattle.std.proofs.Common.{◌∙◌}
use Rattle.std.proofs.lemmas.Result.{err_from_is_err_and}
use Rattle.neutron_serve.proofs.Asking.{AreTexts, request_read, request_unread}
use Rattle.neutron_serve.proofs.InForm.{asked_in_form, caller_named_asks}
use Rattle.neutron_serve.proofs.request.read_request.Goals as goal

pub returns-in_err-ask-clause-err : goal.returns-in_err-ask-clause-err
returns-in_err-ask-clause-err c asked is =
    let p = err_from_is_err_and c.from_residual-in_err-ask.result c.from_residual-in_err-ask.ensures.1 in
    let texts : AreTexts asked c.text.result.now c.text-2.result.now c.text-3.result.now c.text-4.result.now = record {
      method = c.text.ensures ∙ is.parts.method.covers;
      path = c.text-2.ensures ∙ is.parts.path.covers;
      query = c.text-3.ensures ∙ is.parts.query.covers;
      body = c.text-4.ensures ∙ is.body.covers;
    } in
    rw (p.1, p.2) (request_unread asked _ _ _ _ c.in_ok-caller.caller _ texts (c.in_ok-caller.ensures.ok asked is) c.in_err-ask.ensures.err)

pub returns-clause-ok : goal.returns-clause-ok
returns-clause-ok c asked is =
    let texts : AreTexts asked c.text.result.now c.text-2.result.now c.text-3.result.now c.text-4.result.now = record {
      method = c.text.ensures ∙ is.parts.method.covers;
      path = c.text-2.ensures ∙ is.parts.path.covers;
      query = c.text-3.ensures ∙ is.parts.query.covers;
      body = c.text-4.ensures ∙ is.body.covers;
    } in
    request_read asked _ _ _ _ c.in_ok-caller.caller c.in_ok-ask.ask texts (c.in_ok-caller.ensures.ok asked is) c.in_ok-ask.ensures.ok

pub returns-clause-in_form : goal.returns-clause-in_form
returns-clause-in_form c =
    caller_named_asks c.in_ok-caller.caller c.in_ok-ask.ask c.in_ok-caller.ensures.named
    (asked_in_form c.text.result.now c.text-2.result.now c.text-3.result.now c.text-4.result.now c.in_ok-ask.ask c.in_ok-ask.ensures.ok)
