use Rattle.std.proofs.Common.{◌∙◌, [], subst, sym}
use Rattle.std.specs.Prelude.{IfErr, IfOk}
use Rattle.api_types.specs.Outcome.{Outcome}
use Rattle.api_types.specs.Printed.{OneRow}
use Rattle.api_types.specs.Table.{ident_eq, row_of}
use Rattle.api_types.specs.declared.network.NetworkRow.{NetworkRow}
use Rattle.call_parts.specs.Answers.{IsRefusalOf, Leads}
use Rattle.plan_subnets.specs.SubnetCalls.{subnet_shown}
use Rattle.plan_subnets.proofs.CallLemmas.{found_named, seen_fits, updated_on, updated_unplaced}
use Rattle.plan_subnets.proofs.update.update_subnet.Goals as goal

pub returns-in_default-clause-err : goal.returns-in_default-clause-err
returns-in_default-clause-err c =
    let asking = c.args.asking.now in
    let s = c.in_ok-subnet.subnet.now in
    let listed = c.networks.ensures ∙ (λ j. (c.rows.ensures.rows j).networks) in
    let none = sym (c.in_default.ensures ∙ (λ j. row_of (λ (n : NetworkRow). n.id) s.network (listed j))) in
    updated_unplaced asking.settings asking.state asking.caller c.args.name.now c.args.form.now s c.in_ok-subnet.ensures.found c.not_found.result none c.not_found.ensures

pub change_subnet-requires-clause-named : goal.change_subnet-requires-clause-named
change_subnet-requires-clause-named c =
    let s = c.in_ok-subnet.subnet.now in
    let listed = c.networks.ensures ∙ (λ j. (c.rows.ensures.rows j).networks) in
    found_named c.args.asking.now.state.rows (λ (n : NetworkRow). ident_eq s.network n.id) c.in-Some.network.now c.rows.ensures.consistent
    (sym (c.in-Some.ensures ∙ (λ j. row_of (λ (n : NetworkRow). n.id) s.network (listed j))))

pub change_subnet-requires-clause-fits : goal.change_subnet-requires-clause-fits
change_subnet-requires-clause-fits c =
    let asking = c.args.asking.now in
    seen_fits asking.state.rows asking.caller c.args.name.now.id c.in_ok-subnet.subnet.now c.rows.ensures.consistent c.in_ok-subnet.ensures.found

pub returns-clause-ok : goal.returns-clause-ok
returns-clause-ok c =
    let asking = c.args.asking.now in
    let s = c.in_ok-subnet.subnet.now in
    let listed = c.networks.ensures ∙ (λ j. (c.rows.ensures.rows j).networks) in
    let placed = sym (c.in-Some.ensures ∙ (λ j. row_of (λ (n : NetworkRow). n.id) s.network (listed j))) in
    let on = updated_on asking.settings asking.state asking.caller c.args.name.now c.args.form.now s c.in_ok-subnet.ensures.found c.in-Some.network.now placed in
    subst (λ (o : Outcome). IfOk c.change_subnet.result (λ p. Leads asking.state.rows o p.draft (λ after. OneRow (subnet_shown after asking.caller p.row [])))) (sym on) c.change_subnet.ensures.ok

pub returns-clause-err : goal.returns-clause-err
returns-clause-err c =
    let asking = c.args.asking.now in
    let s = c.in_ok-subnet.subnet.now in
    let listed = c.networks.ensures ∙ (λ j. (c.rows.ensures.rows j).networks) in
    let placed = sym (c.in-Some.ensures ∙ (λ j. row_of (λ (n : NetworkRow). n.id) s.network (listed j))) in
    let on = updated_on asking.settings asking.state asking.caller c.args.name.now c.args.form.now s c.in_ok-subnet.ensures.found c.in-Some.network.now placed in
    subst (λ (o : Outcome). IfErr c.change_subnet.result (IsRefusalOf o)) (sym on) c.change_subnet.ensures.err
