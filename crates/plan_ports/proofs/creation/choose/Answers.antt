use Rattle.std.proofs.Common.{◌≡◌, ◌∙◌, ap, inr, sym}
use Rattle.std.proofs.lemmas.Result.{err_from_is_err_and}
use Rattle.api_ipam.specs.MacChoice.{expected_mac, mac_for}
use Rattle.api_types.specs.RowLists.{RowLists}
use Rattle.plan_ports.proofs.CallLemmas.{made_chosen, made_refused, made_unfixed, made_unnamed, supply_at}
use Rattle.plan_ports.proofs.creation.choose.Goals as goal

pub returns-in_err-ensure_creatable-clause-err : goal.returns-in_err-ensure_creatable-clause-err
returns-in_err-ensure_creatable-clause-err c =
    let settings = c.args.asking.now.settings in
    let state = c.args.asking.now.state in
    let caller = c.args.asking.now.caller in
    let form = c.args.form.now in
    let n = c.args.network.now in
    let first = c.in_ok-first.first in
    let s = first.supply in
    let named : first.mac ≡ mac_for state.rows.ports n.id form.mac_address = c.in_ok-first.ensures.mac ∙ ap (λ (r : RowLists). mac_for r.ports n.id form.mac_address) c.rows-rows.ensures.rows in
    let is = supply_at state.rows form n s c.rows-rows.result.now (expected_mac first.mac) c.rows-rows.ensures.rows (ap expected_mac named) c.in_ok-first.ensures.supply in
    let p = err_from_is_err_and c.from_residual-in_err-ensure_creatable.result c.from_residual-in_err-ensure_creatable.ensures.1 in
    rw (p.1, p.2) (made_refused settings state caller form n c.args.owner.now s is c.in_err-ensure_creatable.field-0.0 c.in_err-ensure_creatable.ensures)

pub returns-in_err-fixed-clause-err : goal.returns-in_err-fixed-clause-err
returns-in_err-fixed-clause-err c =
    let settings = c.args.asking.now.settings in
    let state = c.args.asking.now.state in
    let caller = c.args.asking.now.caller in
    let form = c.args.form.now in
    let n = c.args.network.now in
    let first = c.in_ok-first.first in
    let s = first.supply in
    let named : first.mac ≡ mac_for state.rows.ports n.id form.mac_address = c.in_ok-first.ensures.mac ∙ ap (λ (r : RowLists). mac_for r.ports n.id form.mac_address) c.rows-rows.ensures.rows in
    let is = supply_at state.rows form n s c.rows-rows.result.now (expected_mac first.mac) c.rows-rows.ensures.rows (ap expected_mac named) c.in_ok-first.ensures.supply in
    let p = err_from_is_err_and c.from_residual-in_err-fixed.result c.from_residual-in_err-fixed.ensures.1 in
    rw (p.1, p.2) (made_unfixed settings state caller form n c.args.owner.now s is c.in_ok-ensure_creatable.ensures c.in_err-fixed.field-0.0 c.in_err-fixed.ensures.spent)

pub returns-in-Some-clause-ok : goal.returns-in-Some-clause-ok
returns-in-Some-clause-ok c =
    let settings = c.args.asking.now.settings in
    let state = c.args.asking.now.state in
    let caller = c.args.asking.now.caller in
    let form = c.args.form.now in
    let n = c.args.network.now in
    let first = c.in_ok-first.first in
    let s = first.supply in
    let named : first.mac ≡ mac_for state.rows.ports n.id form.mac_address = c.in_ok-first.ensures.mac ∙ ap (λ (r : RowLists). mac_for r.ports n.id form.mac_address) c.rows-rows.ensures.rows in
    let is = supply_at state.rows form n s c.rows-rows.result.now (expected_mac first.mac) c.rows-rows.ensures.rows (ap expected_mac named) c.in_ok-first.ensures.supply in
    made_chosen settings state caller form n c.args.owner.now s is c.in_ok-ensure_creatable.ensures c.in_ok-fixed.fixed c.in_ok-fixed.ensures.there c.in-Some.mac (sym named ∙ c.in-Some.is)

pub returns-in-None-clause-err : goal.returns-in-None-clause-err
returns-in-None-clause-err c =
    let settings = c.args.asking.now.settings in
    let state = c.args.asking.now.state in
    let caller = c.args.asking.now.caller in
    let form = c.args.form.now in
    let n = c.args.network.now in
    let first = c.in_ok-first.first in
    let s = first.supply in
    let named : first.mac ≡ mac_for state.rows.ports n.id form.mac_address = c.in_ok-first.ensures.mac ∙ ap (λ (r : RowLists). mac_for r.ports n.id form.mac_address) c.rows-rows.ensures.rows in
    let is = supply_at state.rows form n s c.rows-rows.result.now (expected_mac first.mac) c.rows-rows.ensures.rows (ap expected_mac named) c.in_ok-first.ensures.supply in
    inr (made_unnamed settings state caller form n c.args.owner.now s is c.in_ok-ensure_creatable.ensures c.in_ok-fixed.fixed c.in_ok-fixed.ensures.there (sym named ∙ c.in-None.is))
