use Rattle.std.proofs.Common.{◌∙◌, ap}
use Rattle.api_types.specs.Lists.{if_some}
use Rattle.api_types.specs.Table.{ident_eq}
use Rattle.api_types.specs.declared.subnet.SubnetRow.{SubnetRow}
use Rattle.api_ipam.specs.Euis.{fits_eui}
use Rattle.api_ipam.proofs.EuiLemmas.{found_fits}
use Rattle.api_ipam.proofs.asked.old_renewed.Goals as goal

pub renewed-requires : goal.renewed-requires
renewed-requires c =
    ap (if_some fits_eui) c.subnet_with-subnet.ensures ∙ found_fits (λ (s : SubnetRow). ident_eq c.fixed-item.result.subnet s.id) c.args.subnets.now c.requires
