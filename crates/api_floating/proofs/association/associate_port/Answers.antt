use Rattle.std.proofs.Common.{sym}
use Rattle.api_floating.proofs.AimLemmas.{fixed_four}
use Rattle.api_floating.proofs.association.associate_port.Goals as goal

pub lead_to-requires : goal.lead_to-requires
lead_to-requires c = fixed_four c.args.fixed c.as_slice.result.now c.in-Some.fixed.now (sym c.in-Some.ensures)
