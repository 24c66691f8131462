use Rattle.std.proofs.Common.{◌≡◌, ◌∙◌, [], not, subst, sym, true}
use Rattle.std.specs.Prelude.{IfErr, IfOk}
use Rattle.api_policy.specs.Seen.{network_seen}
use Rattle.api_types.specs.Given.{owner_of, value_of}
use Rattle.api_types.specs.Lists.{is_empty}
use Rattle.api_types.specs.Printed.{NewRow}
use Rattle.call_parts.specs.Answers.{IsRefusalOf, Leads}
use Rattle.plan_floatings.specs.FloatingCalls.{floating_made, floating_shown}
use Rattle.call_parts.proofs.OwnerLemmas.{owner_named}
use Rattle.plan_floatings.proofs.creation.create_floating.Goals as goal

pub make_floating-requires : goal.make_floating-requires
make_floating-requires c =
    let form = c.args.form.now in
    let owned = c.owner-owner.ensures ∙ (λ j. owner_of (c.caller.ensures j) form.project_id form.tenant_id) in
    subst (λ owner. not (is_empty owner) ≡ true) (sym owned) (owner_named c.args.asking.now.caller form.project_id form.tenant_id c.requires.named c.requires.owners)

pub returns-clause-ok : goal.returns-clause-ok
returns-clause-ok c =
    let settings = c.args.asking.now.settings in
    let state = c.args.asking.now.state in
    let caller = c.args.asking.now.caller in
    let form = c.args.form.now in
    let network = network_seen state.rows caller (value_of form.floating_network_id) in
    let owned = c.owner-owner.ensures ∙ (λ j. owner_of (c.caller.ensures j) form.project_id form.tenant_id) in
    subst (λ owner. IfOk c.make_floating.result (λ p. Leads state.rows (floating_made settings state caller form owner network) p.draft (λ after. NewRow (floating_shown after caller p.row []))))
    owned c.make_floating.ensures.ok

pub returns-clause-err : goal.returns-clause-err
returns-clause-err c =
    let settings = c.args.asking.now.settings in
    let state = c.args.asking.now.state in
    let caller = c.args.asking.now.caller in
    let form = c.args.form.now in
    let network = network_seen state.rows caller (value_of form.floating_network_id) in
    let owned = c.owner-owner.ensures ∙ (λ j. owner_of (c.caller.ensures j) form.project_id form.tenant_id) in
    subst (λ owner. IfErr c.make_floating.result (IsRefusalOf (floating_made settings state caller form owner network))) owned c.make_floating.ensures.err
