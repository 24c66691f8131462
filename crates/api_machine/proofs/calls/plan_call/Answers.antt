use Rattle.std.proofs.Common.{◌≡◌, ◌∙◌, ap, sym, true}
use Rattle.std.specs.Prelude.{not}
use Rattle.api_types.specs.Lists.{is_empty}
use Rattle.call_parts.specs.InForm.{has_needed, is_call, is_form}
use Rattle.api_types.proofs.ListLemmas.{and_both}
use Rattle.api_machine.proofs.calls.plan_call.Goals as goal

pub create-requires-clause-in_form : goal.create-requires-clause-in_form
create-requires-clause-in_form c =
    let call : is_call c.args.call.now ≡ true = (and_both (not (is_empty c.args.asking.now.caller.project)) (is_call c.args.call.now) c.requires.formed).1 in
    (and_both (has_needed c.in-Create.form) (is_form c.in-Create.form) (sym (ap is_call c.in-Create.is) ∙ call)).1

pub create-requires-clause-needed : goal.create-requires-clause-needed
create-requires-clause-needed c =
    let call : is_call c.args.call.now ≡ true = (and_both (not (is_empty c.args.asking.now.caller.project)) (is_call c.args.call.now) c.requires.formed).1 in
    (and_both (has_needed c.in-Create.form) (is_form c.in-Create.form) (sym (ap is_call c.in-Create.is) ∙ call)).0
