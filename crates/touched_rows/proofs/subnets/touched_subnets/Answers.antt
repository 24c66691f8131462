use Rattle.std.proofs.Common.{◌∙◌, List, ap, subst, sym}
use Rattle.api_types.specs.Parts.{subnet_of}
use Rattle.api_types.specs.RowLists.{RowLists}
use Rattle.api_types.specs.declared.kind.Kind.TheVariants.{Subnet}
use Rattle.api_types.specs.declared.subnet.SubnetRow.{SubnetRow}
use Rattle.plane_types.specs.Numbered.{rows_after}
use Rattle.plane_types.specs.NumberedRows.{row_items}
use Rattle.table_edits.specs.NumbersTold.{FitRows}
use Rattle.table_edits.proofs.KindsAfter.{subnets_after, subnets_fit}
use Rattle.touched_rows.proofs.subnets.touched_subnets.Goals as goal

pub changed_ids-requires-clause-fits : goal.changed_ids-requires-clause-fits
changed_ids-requires-clause-fits c =
    subst (λ (rs : List SubnetRow). FitRows (λ (r : SubnetRow). r.id) rs (row_items Subnet subnet_of c.args.items.now)) (sym c.subnets.ensures) (subnets_fit c.args.before.now c.args.items.now c.requires.fits)

pub changed_ids-requires-clause-leads : goal.changed_ids-requires-clause-leads
changed_ids-requires-clause-leads c =
    c.subnets-2.ensures
    ∙ ap (λ (r : RowLists). r.subnets) c.requires.leads
    ∙ subnets_after c.args.before.now c.args.items.now
    ∙ ap (λ (rs : List SubnetRow). rows_after rs (row_items Subnet subnet_of c.args.items.now)) (sym c.subnets.ensures)
