use Rattle.std.proofs.Common.{List, subst, sym}
use Rattle.api_types.specs.Parts.{port_of}
use Rattle.api_types.specs.declared.change.Item.{Item}
use Rattle.api_types.specs.declared.kind.Kind.TheVariants.{Port}
use Rattle.api_types.specs.declared.port.PortRow.{PortRow}
use Rattle.plane_types.specs.NumberedRows.{row_items}
use Rattle.table_edits.specs.NumbersTold.{FitRows}
use Rattle.table_edits.proofs.KindsAfter.{ports_fit}
use Rattle.touched_rows.proofs.rewiring.Rewiring.of.Goals as goal

pub of-requires-3 : goal.of-requires-3
of-requires-3 c =
    subst (λ (is : List Item). FitRows (λ (r : PortRow). r.id) c.args.before.now.ports (row_items Port port_of is)) (sym c.as_slice-items.ensures) (ports_fit c.args.before.now c.args.change.now c.requires.leads_on.fits)
