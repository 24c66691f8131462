use Rattle.std.proofs.Common.{◌≡◌, ◌∙◌, ◌+◌, None, subst, sym}
use Rattle.api_types.specs.Registration.{ident}
use Rattle.api_types.specs.RowLists.{RowLists}
use Rattle.api_types.specs.Table.{row_of}
use Rattle.api_types.specs.declared.policy.PolicyRow.{PolicyRow}
use Rattle.api_types.specs.declared.kind.Row.TheVariants.{Network}
use Rattle.call_parts.specs.Answers.{drawing_of}
use Rattle.call_parts.specs.Drafts.{DraftParts}
use Rattle.api_types.specs.WithRows.{with_put}
use Rattle.plan_networks.proofs.EditLemmas.{changed_with_policies}
use Rattle.plan_networks.proofs.update.change_network.Goals as goal

pub reopen_both-requires-clause-new : goal.reopen_both-requires-clause-new
reopen_both-requires-clause-new c = λ k less.
    let there = subst (λ (d : DraftParts). row_of (λ (l : PolicyRow). l.id) (ident c.args.drawn.ordinal (c.args.drawn.first + k)) d.rows.policies ≡ None) (sym c.draft.view_is) (c.requires.new k less).policies in
    subst (λ (r : RowLists). row_of (λ (l : PolicyRow). l.id) (ident c.args.drawn.ordinal (c.args.drawn.first + k)) r.policies ≡ None) (sym c.in_ok-draft.ensures.rows) there

pub returns-clause-rows : goal.returns-clause-rows
returns-clause-rows c =
    let put = c.in_ok-draft.ensures.rows ∙ (λ j. with_put (c.draft.view_is j).rows (Network c.in_ok-copy.field-0)) in
    changed_with_policies c.args.rows.now c.args.form.now c.args.network.now c.in_ok-copy.field-0 (drawing_of c.args.drawn) c.in_ok-draft.draft.rows c.in_ok-draft-2.draft.rows
    (c.in_ok-copy.ensures ∙ c.in_ok-changed.ensures) put c.in_ok-draft-2.ensures.rows
