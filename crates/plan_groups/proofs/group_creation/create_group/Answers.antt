use Rattle.std.proofs.Common.{◌≡◌, ◌∙◌, [], not, subst, sym, true}
use Rattle.std.specs.Prelude.{IfErr, IfOk}
use Rattle.api_types.specs.Given.{owner_of}
use Rattle.api_types.specs.Lists.{is_empty}
use Rattle.api_types.specs.Printed.{NewRow}
use Rattle.call_parts.specs.Answers.{IsRefusalOf, Leads}
use Rattle.plan_groups.specs.GroupCalls.{group_made, group_shown}
use Rattle.call_parts.proofs.OwnerLemmas.{owner_named}
use Rattle.plan_groups.proofs.group_creation.create_group.Goals as goal

pub make_group-requires : goal.make_group-requires
make_group-requires c =
    let form = c.args.form.now in
    let owned = c.owner-owner.ensures ∙ (λ j. owner_of (c.caller.ensures j) form.project_id form.tenant_id) in
    subst (λ owner. not (is_empty owner) ≡ true) (sym owned) (owner_named c.args.asking.now.caller form.project_id form.tenant_id c.requires.named c.requires.owners)

pub returns-clause-ok : goal.returns-clause-ok
returns-clause-ok c =
    let state = c.args.asking.now.state in
    let caller = c.args.asking.now.caller in
    let form = c.args.form.now in
    let owned = c.owner-owner.ensures ∙ (λ j. owner_of (c.caller.ensures j) form.project_id form.tenant_id) in
    subst (λ owner. IfOk c.make_group.result (λ p. Leads state.rows (group_made c.args.asking.now.settings state caller form owner) p.draft (λ after. NewRow (group_shown after caller p.row []))))
    owned c.make_group.ensures.ok

pub returns-clause-err : goal.returns-clause-err
returns-clause-err c =
    let form = c.args.form.now in
    let owned = c.owner-owner.ensures ∙ (λ j. owner_of (c.caller.ensures j) form.project_id form.tenant_id) in
    subst (λ owner. IfErr c.make_group.result (IsRefusalOf (group_made c.args.asking.now.settings c.args.asking.now.state c.args.asking.now.caller form owner))) owned c.make_group.ensures.err
