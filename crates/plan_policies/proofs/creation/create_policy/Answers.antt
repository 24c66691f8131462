use Rattle.std.proofs.Common.{◌≡◌, ◌∙◌, Some, subst}
use Rattle.api_types.specs.Given.{owner_of}
use Rattle.call_parts.specs.Answers.{drawing_of}
use Rattle.call_parts.specs.State.{drawing_at}
use Rattle.plan_policies.proofs.CallLemmas.{drawn_unused}
use Rattle.plan_policies.proofs.creation.create_policy.Goals as goal

pub added-requires-clause-new : goal.added-requires-clause-new
added-requires-clause-new c =
    let state = c.args.asking.now.state in
    let form = c.args.form.now in
    let drawing = drawing_of c.in_ok-drawn.drawn in
    let owned = c.owner-owner.ensures ∙ (λ j. owner_of (c.caller.ensures j) form.project_id form.tenant_id) in
    let drew = subst (λ owner. drawing_at state owner 1 ≡ Some drawing) owned c.in_ok-drawn.ensures.drawn in
    drawn_unused state c.args.asking.now.caller form.project_id form.tenant_id drawing c.in_ok-drawn.ensures.consistent c.requires.named c.requires.owners drew
