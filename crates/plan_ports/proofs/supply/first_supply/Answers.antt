use Rattle.std.proofs.Common.{◌≡◌, ◌∙◌, ap, subst, sym}
use Rattle.api_ipam.proofs.EuiLemmas.{fits_on}
use Rattle.api_ipam.specs.Euis.{fits_eui}
use Rattle.api_types.specs.HeldAddresses.{is_address_held, subnets_on}
use Rattle.api_types.specs.Lists.{Pass}
use Rattle.plan_ports.proofs.supply.first_supply.Goals as goal

pub returns-clause-supply : goal.returns-clause-supply
returns-clause-supply c =
    let network = c.args.network in
    let same : c.in_ok-subnets.subnets ≡ subnets_on c.args.rows.now.subnets network =
    c.in_ok-subnets.ensures ∙ ap (λ ss. subnets_on ss network) (c.rows.ensures.rows ∙ c.subnets.ensures) in
    record {
      on_network = same;
      holds = λ x. c.in_ok-found.ensures.held x ∙ ap (λ ports. is_address_held ports network x) (c.rows-2.ensures.rows ∙ c.ports.ensures);
      has = c.expected_mac-expected.ensures;
      fit = subst (Pass fits_eui) (sym same) (fits_on c.args.rows.now network c.requires);
    }
