use Rattle.std.proofs.Common.{◌≡◌, ◌∙◌, ap, subst, sym}
use Rattle.api_ipam.proofs.EuiLemmas.{fits_on}
use Rattle.api_ipam.specs.Euis.{fits_eui}
use Rattle.api_types.specs.HeldAddresses.{is_held_by_other, subnets_on}
use Rattle.api_types.specs.Lists.{Pass}
use Rattle.plan_ports.proofs.supply.next_supply.Goals as goal

pub returns : goal.returns
returns c =
    let port = c.args.port.now in
    let same : c.in_ok-subnets_on.field-0 ≡ subnets_on c.args.rows.now.subnets port.network =
    c.in_ok-subnets_on.ensures ∙ ap (λ ss. subnets_on ss port.network) (c.rows.ensures.rows ∙ c.subnets.ensures) in
    record {
      on_network = same;
      holds = λ x. c.in_ok-by_others.ensures x ∙ ap (λ ports. is_held_by_other ports port x) (c.rows-2.ensures.rows ∙ c.ports.ensures);
      has = c.value_or.ensures;
      fit = subst (Pass fits_eui) (sym same) (fits_on c.args.rows.now port.network c.requires);
    }
