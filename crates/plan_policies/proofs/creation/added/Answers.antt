use Rattle.std.proofs.Common.{◌≡◌, ◌∙◌, None, ap, subst, sym}
use Rattle.api_types.specs.Ident.{Ident}
use Rattle.api_types.specs.Table.{row_of}
use Rattle.api_types.specs.declared.policy.PolicyRow.{PolicyRow}
use Rattle.plan_policies.specs.PolicyCalls.{new_policy}
use Rattle.plan_policies.proofs.creation.added.Goals as goal

pub add-requires : goal.add-requires
add-requires c =
    let id_is = ap (λ (l : PolicyRow). l.id) c.in_ok-policy.ensures ∙ c.id-id.ensures c.args.drawn.draft.rows in
    record { new = subst (λ (i : Ident). row_of (λ (l : PolicyRow). l.id) i c.args.drawn.draft.rows.policies ≡ None) (sym id_is) c.requires.new }

pub returns-clause-row : goal.returns-clause-row
returns-clause-row c =
    c.in_ok-kept.ensures ∙ (c.in_ok-policy.ensures ∙ ap (new_policy c.args.form.now c.args.owner.now c.args.network) (c.id-id.ensures c.args.drawn.draft.rows))
