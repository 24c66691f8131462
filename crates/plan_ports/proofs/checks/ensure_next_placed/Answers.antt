use Rattle.std.proofs.Common.{◌≡◌, ◌∙◌, Option, ap, subst}
use Rattle.api_ipam.specs.FixedChoice.{old_renewed}
use Rattle.api_types.specs.declared.refusal.Refusal.{Refusal}
use Rattle.call_parts.specs.Answers.{Passes}
use Rattle.plan_ports.specs.PortRules.{bad_fixed}
use Rattle.plan_ports.proofs.checks.ensure_next_placed.Goals as goal

pub returns : goal.returns
returns c =
    let supply = c.args.supply.now in
    let port = c.args.port.now in
    let same = c.as_slice-subnets.ensures in
    let old : c.as_slice.result.now ≡ old_renewed supply.subnets port supply.mac =
    c.as_slice.ensures ∙ (c.in_ok-old.ensures ∙ ap (λ ss. old_renewed ss port supply.mac) same) in
    subst (λ (o : Option Refusal). Passes o c.ensure_placed.result)
    (λ j. bad_fixed c.args.rows.now c.args.caller.now (same j) supply.mac (old j) (c.items_of.ensures j)) c.ensure_placed.ensures
