use Rattle.std.proofs.Common.{◌∙◌, ap}
use Rattle.api_types.specs.Table.{row_of}
use Rattle.api_types.specs.declared.port.PortRow.{PortRow}
use Rattle.api_floating.specs.Associated.{associated_if}
use Rattle.api_floating.proofs.association.associate.Goals as goal

pub returns-in-Some : goal.returns-in-Some
returns-in-Some c =
    c.associate_port.ensures
    ∙ ap (associated_if c.args.rows.now c.args.network c.args.project.now c.args.own c.args.fixed) (c.in-Some.ensures ∙ ap (row_of (λ (p : PortRow). p.id) c.args.port) c.ports.ensures)
