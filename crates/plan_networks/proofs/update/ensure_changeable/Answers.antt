use Rattle.std.proofs.Common.{◌∙◌, Option, subst, sym}
use Rattle.std.specs.Prelude.{if◌then◌else◌, None, ◌||◌}
use Rattle.api_policy.specs.Permits.{admin_only, owner_only}
use Rattle.api_policy.specs.Reserved.{network_for_admin}
use Rattle.api_policy.specs.Standing.{without_closed}
use Rattle.api_policy.specs.Uses.{open_in_use}
use Rattle.api_types.specs.declared.refusal.Refusal.{Refusal}
use Rattle.call_parts.specs.Answers.{Passes}
use Rattle.plan_networks.proofs.RefusalLemmas.{third_passes}
use Rattle.plan_networks.proofs.update.ensure_changeable.Goals as goal

pub returns : goal.returns
returns c =
    let n = c.args.network.now in
    let wanted = c.network_for_admin.ensures ∙ (λ j. network_for_admin (c.caller-caller.ensures j) c.args.form.now) in
    let admin = sym (λ j. admin_only (c.caller-caller.ensures j) (wanted j)) ∙ c.in_ok-admin_only.ensures in
    let owner = sym (λ j. owner_only (c.caller-caller.ensures j) n.project) ∙ c.in_ok-owner_only.ensures in
    let closing = subst (λ (o : Option Refusal). Passes o c.ensure_closable.result)
    (λ j. if c.is_cleared-shared.ensures j || c.is_cleared-external.ensures j then open_in_use (c.rows-rows.ensures.rows j) (c.caller-caller.ensures j)
    (without_closed n.id (c.is_cleared-shared.ensures j) (c.is_cleared-external.ensures j) (c.rows-rows.ensures.rows j).policies) n else None)
    c.ensure_closable.ensures in
    third_passes _ _ _ c.ensure_closable.result admin owner closing
