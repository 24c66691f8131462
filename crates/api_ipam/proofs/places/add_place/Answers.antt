use Rattle.std.proofs.Common.{◌∙◌, ap, sym}
use Rattle.api_ipam.specs.Euis.{fits_eui}
use Rattle.api_ipam.proofs.EuiLemmas.{item_fits}
use Rattle.api_ipam.proofs.places.add_place.Goals as goal

pub known_at-known-requires : goal.known_at-known-requires
known_at-known-requires c = ap fits_eui c.deref.ensures ∙ item_fits c.args.subnets.now c.args.item.now c.requires _ (sym c.in-Some.ensures)
