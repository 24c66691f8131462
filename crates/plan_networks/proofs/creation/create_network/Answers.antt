use Rattle.std.proofs.Common.{◌≡◌, ◌∙◌, [], not, subst, sym, true}
use Rattle.std.specs.Prelude.{IfErr, IfOk}
use Rattle.api_types.specs.Given.{owner_of}
use Rattle.api_types.specs.Lists.{is_empty}
use Rattle.api_types.specs.Printed.{NewRow}
use Rattle.plan_networks.specs.NetworkCalls.{network_made, network_shown}
use Rattle.call_parts.specs.Answers.{IsRefusalOf, Leads}
use Rattle.call_parts.proofs.OwnerLemmas.{owner_named}
use Rattle.plan_networks.proofs.creation.create_network.Goals as goal

pub make_network-requires : goal.make_network-requires
make_network-requires c =
    let form = c.args.form.now in
    let owned = c.owner-owner.ensures ∙ (λ j. owner_of (c.caller.ensures j) form.project_id form.tenant_id) in
    subst (λ owner. not (is_empty owner) ≡ true) (sym owned) (owner_named c.args.asking.now.caller form.project_id form.tenant_id c.requires.named c.requires.in_form)

pub returns-clause-ok : goal.returns-clause-ok
returns-clause-ok c =
    let state = c.args.asking.now.state in
    let caller = c.args.asking.now.caller in
    let form = c.args.form.now in
    let owned = c.owner-owner.ensures ∙ (λ j. owner_of (c.caller.ensures j) form.project_id form.tenant_id) in
    subst (λ owner. IfOk c.make_network.result (λ p. Leads state.rows (network_made c.args.asking.now.settings state caller form owner) p.draft (λ after. NewRow (network_shown after caller p.row []))))
    owned c.make_network.ensures.ok

pub returns-clause-err : goal.returns-clause-err
returns-clause-err c =
    let form = c.args.form.now in
    let owned = c.owner-owner.ensures ∙ (λ j. owner_of (c.caller.ensures j) form.project_id form.tenant_id) in
    subst (λ owner. IfErr c.make_network.result (IsRefusalOf (network_made c.args.asking.now.settings c.args.asking.now.state c.args.asking.now.caller form owner))) owned c.make_network.ensures.err
