use Rattle.std.proofs.Common.{◌∙◌, ◌∷◌, [], Option, subst, sym}
use Rattle.std.proofs.lemmas.Result.{err_from_is_err_and}
use Rattle.api_ipam.specs.MacChoice.{free_mac}
use Rattle.api_policy.specs.Quotas.{over_quota}
use Rattle.api_types.specs.declared.kind.Kind.TheVariants.{Floating as FloatingKind}
use Rattle.api_types.specs.declared.kind.Row.TheVariants.{Floating, Port}
use Rattle.api_types.specs.declared.refusal.Refusal.{Refusal}
use Rattle.call_parts.specs.Answers.{IsRefusalIn, drawing_of}
use Rattle.call_parts.specs.Edits.{Add, made}
use Rattle.plan_floatings.specs.FloatingCalls.{aim_asked, outer_address, own_port}
use Rattle.plan_floatings.specs.Plans.{outer_refusal, target_of, unjoined}
use Rattle.plan_floatings.proofs.CallLemmas.{led_moved, led_over, led_spent, led_unheld, led_unjoined}
use Rattle.plan_floatings.proofs.creation.place_floating.Goals as goal

pub returns-in_err-target-clause-err : goal.returns-in_err-target-clause-err
returns-in_err-target-clause-err c =
    let settings = c.args.asking.now.settings in
    let state = c.args.asking.now.state in
    let caller = c.args.asking.now.caller in
    let form = c.args.form.now in
    let owner = c.args.owner.now in
    let n = c.args.network.now in
    let refused = sym (λ j. unjoined (c.rows-rows.ensures.rows j) owner n.id (aim_asked (c.rows-rows.ensures.rows j) (c.caller.ensures j) form)) ∙ c.in_err-target.ensures.err in
    let p = err_from_is_err_and c.from_residual.result c.from_residual.ensures.1 in
    rw (p.1, p.2) (led_unjoined settings state caller form owner n c.in_err-target.field-0.0 refused)

pub returns-in_err-over_quota-clause-err : goal.returns-in_err-over_quota-clause-err
returns-in_err-over_quota-clause-err c =
    let settings = c.args.asking.now.settings in
    let state = c.args.asking.now.state in
    let caller = c.args.asking.now.caller in
    let form = c.args.form.now in
    let owner = c.args.owner.now in
    let n = c.args.network.now in
    let joined = sym (λ j. unjoined (c.rows-rows.ensures.rows j) owner n.id (aim_asked (c.rows-rows.ensures.rows j) (c.caller.ensures j) form)) ∙ c.in_ok-target.ensures.passes in
    let refused = sym (λ j. over_quota (c.settings-settings.ensures j) (c.rows-rows.ensures.rows j) owner FloatingKind) ∙ c.in_err-over_quota.ensures in
    let p = err_from_is_err_and c.from_residual-in_err-over_quota.result c.from_residual-in_err-over_quota.ensures.1 in
    rw (p.1, p.2) (led_over settings state caller form owner n joined c.in_err-over_quota.field-0.0 refused)

pub returns-in_err-outer-clause-err : goal.returns-in_err-outer-clause-err
returns-in_err-outer-clause-err c =
    let settings = c.args.asking.now.settings in
    let state = c.args.asking.now.state in
    let caller = c.args.asking.now.caller in
    let form = c.args.form.now in
    let owner = c.args.owner.now in
    let n = c.args.network.now in
    let e = c.in_err-outer.field-0.0 in
    let joined = sym (λ j. unjoined (c.rows-rows.ensures.rows j) owner n.id (aim_asked (c.rows-rows.ensures.rows j) (c.caller.ensures j) form)) ∙ c.in_ok-target.ensures.passes in
    let passed = sym (λ j. over_quota (c.settings-settings.ensures j) (c.rows-rows.ensures.rows j) owner FloatingKind) ∙ c.in_ok-over_quota.ensures in
    let refused = subst (λ (r : Option Refusal). IsRefusalIn r e) (λ j. outer_refusal (c.rows-rows.ensures.rows j) n.id (c.value_of.ensures j)) c.in_err-outer.ensures.refused in
    let p = err_from_is_err_and c.from_residual-in_err-outer.result c.from_residual-in_err-outer.ensures.1 in
    rw (p.1, p.2) (led_unheld settings state caller form owner n joined passed e refused)

pub returns-in_err-drawn-clause-err : goal.returns-in_err-drawn-clause-err
returns-in_err-drawn-clause-err c =
    let settings = c.args.asking.now.settings in
    let state = c.args.asking.now.state in
    let caller = c.args.asking.now.caller in
    let form = c.args.form.now in
    let owner = c.args.owner.now in
    let n = c.args.network.now in
    let outer = c.in_ok-outer.outer in
    let joined = sym (λ j. unjoined (c.rows-rows.ensures.rows j) owner n.id (aim_asked (c.rows-rows.ensures.rows j) (c.caller.ensures j) form)) ∙ c.in_ok-target.ensures.passes in
    let passed = sym (λ j. over_quota (c.settings-settings.ensures j) (c.rows-rows.ensures.rows j) owner FloatingKind) ∙ c.in_ok-over_quota.ensures in
    let there = sym (λ j. outer_address (c.rows-rows.ensures.rows j) n.id (c.value_of.ensures j)) ∙ c.in_ok-outer.ensures.address in
    let mac = sym (λ j. free_mac (c.rows-rows.ensures.rows j).ports n.id) ∙ c.in_ok-outer.ensures.mac in
    let p = err_from_is_err_and c.from_residual-in_err-drawn.result c.from_residual-in_err-drawn.ensures.1 in
    rw (p.1, p.2) (led_spent settings state caller form owner n joined passed outer.fixed outer.mac there mac c.in_err-drawn.field-0.0 c.in_err-drawn.ensures.spent)

pub returns-clause-ok : goal.returns-clause-ok
returns-clause-ok c =
    let settings = c.args.asking.now.settings in
    let state = c.args.asking.now.state in
    let caller = c.args.asking.now.caller in
    let form = c.args.form.now in
    let owner = c.args.owner.now in
    let n = c.args.network.now in
    let outer = c.in_ok-outer.outer in
    let drawn = c.in_ok-drawn.drawn in
    let planned = c.in_ok-add_floating.field-0 in
    let joined = sym (λ j. unjoined (c.rows-rows.ensures.rows j) owner n.id (aim_asked (c.rows-rows.ensures.rows j) (c.caller.ensures j) form)) ∙ c.in_ok-target.ensures.passes in
    let passed = sym (λ j. over_quota (c.settings-settings.ensures j) (c.rows-rows.ensures.rows j) owner FloatingKind) ∙ c.in_ok-over_quota.ensures in
    let there = sym (λ j. outer_address (c.rows-rows.ensures.rows j) n.id (c.value_of.ensures j)) ∙ c.in_ok-outer.ensures.address in
    let mac = sym (λ j. free_mac (c.rows-rows.ensures.rows j).ports n.id) ∙ c.in_ok-outer.ensures.mac in
    let target = c.in_ok-target.ensures.ok ∙ (λ j. target_of (c.rows-rows.ensures.rows j) owner n.id (aim_asked (c.rows-rows.ensures.rows j) (c.caller.ensures j) form)) in
    let leads = c.in_ok-add_floating.ensures.rows ∙ (λ j. made drawn.draft.rows (Add (Floating planned.row) ∷ Add (Port (own_port (c.settings-settings.ensures j) n planned.row outer.mac outer.fixed)) ∷ [])) in
    record {
      start = c.in_ok-add_floating.ensures.start ∙ c.in_ok-drawn.ensures.start;
      moved = led_moved settings state caller form owner n joined passed outer.fixed outer.mac there mac (drawing_of drawn) c.in_ok-target.target planned.row planned.draft.rows
          c.in_ok-drawn.ensures.drawn target c.in_ok-add_floating.ensures.row leads;
    }
