use Rattle.std.proofs.Common.{◌≡◌, ◌∙◌, [], Option, ap, subst, sym}
use Rattle.api_ipam.proofs.EuiLemmas.{fits_on}
use Rattle.api_ipam.specs.Euis.{fits_eui}
use Rattle.api_types.specs.HeldAddresses.{subnets_on}
use Rattle.api_types.specs.Ident.{Ident}
use Rattle.api_types.specs.Lists.{Pass}
use Rattle.api_types.specs.declared.refusal.Refusal.{Refusal}
use Rattle.call_parts.specs.Answers.{Passes}
use Rattle.plan_ports.specs.PortCalls.{mac_at_first}
use Rattle.plan_ports.specs.PortRules.{bad_fixed}
use Rattle.plan_ports.proofs.checks.ensure_first_placed.Goals as goal

pub ensure_placed-requires : goal.ensure_placed-requires
ensure_placed-requires c =
    let network : Ident = c.args.network.now.id in
    let same : c.as_slice.result.now ≡ subnets_on c.args.rows.now.subnets network =
    c.as_slice.ensures ∙ (c.in_ok-subnets.ensures ∙ ap (λ ss. subnets_on ss network) (c.rows.ensures.rows ∙ c.subnets.ensures)) in
    subst (Pass fits_eui) (sym same) (fits_on c.args.rows.now network c.requires)

pub returns : goal.returns
returns c =
    let rows = c.args.rows.now in
    let caller = c.args.caller.now in
    let form = c.args.form.now in
    let network : Ident = c.args.network.now.id in
    let same : c.as_slice.result.now ≡ subnets_on rows.subnets network =
    c.as_slice.ensures ∙ (c.in_ok-subnets.ensures ∙ ap (λ ss. subnets_on ss network) (c.rows.ensures.rows ∙ c.subnets.ensures)) in
    let mac = c.mac_at_first-mac.ensures ∙ ap (λ ports. mac_at_first ports form network) (c.rows-2.ensures.rows ∙ c.ports.ensures) in
    subst (λ (o : Option Refusal). Passes o c.ensure_placed.result) (λ j. bad_fixed rows caller (same j) (mac j) [] (c.items_of-items.ensures j)) c.ensure_placed.ensures
