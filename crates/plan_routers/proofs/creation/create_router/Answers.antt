use Rattle.std.proofs.Common.{◌≡◌, ◌∙◌, [], not, subst, sym, true}
use Rattle.std.specs.Prelude.{IfErr, IfOk}
use Rattle.api_types.specs.Given.{owner_of}
use Rattle.api_types.specs.Lists.{is_empty}
use Rattle.api_types.specs.Printed.{NewRow}
use Rattle.call_parts.specs.Answers.{IsRefusalOf, Leads}
use Rattle.plan_routers.specs.RouterCalls.{router_made, router_shown}
use Rattle.call_parts.proofs.OwnerLemmas.{owner_named}
use Rattle.plan_routers.proofs.creation.create_router.Goals as goal

pub make_router-requires : goal.make_router-requires
make_router-requires c =
    let form = c.args.form.now in
    let owned = c.owner-owner.ensures ∙ (λ j. owner_of (c.caller.ensures j) form.project_id form.tenant_id) in
    subst (λ owner. not (is_empty owner) ≡ true) (sym owned) (owner_named c.args.asking.now.caller form.project_id form.tenant_id c.requires.named c.requires.owners)

pub returns-clause-ok : goal.returns-clause-ok
returns-clause-ok c =
    let asking = c.args.asking.now in
    let form = c.args.form.now in
    let owned = c.owner-owner.ensures ∙ (λ j. owner_of (c.caller.ensures j) form.project_id form.tenant_id) in
    subst (λ owner. IfOk c.make_router.result (λ p. Leads asking.state.rows (router_made asking.settings asking.state asking.caller form owner) p.draft (λ after. NewRow (router_shown after asking.caller p.row []))))
    owned c.make_router.ensures.ok

pub returns-clause-err : goal.returns-clause-err
returns-clause-err c =
    let asking = c.args.asking.now in
    let form = c.args.form.now in
    let owned = c.owner-owner.ensures ∙ (λ j. owner_of (c.caller.ensures j) form.project_id form.tenant_id) in
    subst (λ owner. IfErr c.make_router.result (IsRefusalOf (router_made asking.settings asking.state asking.caller form owner))) owned c.make_router.ensures.err
