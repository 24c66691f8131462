use Rattle.std.proofs.Common.{◌∙◌, List, ap, subst, sym}
use Rattle.api_ipam.specs.Euis.{fits_eui}
use Rattle.api_ipam.proofs.EuiLemmas.{fits_on}
use Rattle.api_types.specs.HeldAddresses.{subnets_on}
use Rattle.api_types.specs.Lists.{Pass}
use Rattle.api_types.specs.declared.subnet.SubnetRow.{SubnetRow}
use Rattle.call_parts.proofs.EditLaws.{ok_by}
use Rattle.plan_routers.proofs.outer.outer_subnets.Goals as goal

pub returns-clause-fit : goal.returns-clause-fit
returns-clause-fit c =
    let network = c.args.network in
    let subnets = ap (λ (ss : List SubnetRow). subnets_on ss network) (c.rows.ensures.rows ∙ c.subnets.ensures) in
    ok_by _ _ c.subnets_on.result (λ found is. subst (Pass fits_eui) (sym (is ∙ subnets)) (fits_on c.args.rows.now network c.requires)) c.subnets_on.ensures
