use Rattle.std.proofs.Common.{◌≡◌, ◌∙◌}
use Rattle.api_types.specs.RowLists.{RowLists}
use Rattle.api_types.specs.declared.kind.Row.TheVariants.{Port}
use Rattle.api_types.specs.declared.port.PortRow.{PortRow}
use Rattle.call_parts.specs.Edits.{made}
use Rattle.api_types.specs.WithRows.{with_put}
use Rattle.call_parts.specs.Leaving.{disassociations}
use Rattle.plan_ports.proofs.update.replace_port.Goals as goal

-- the floating addresses are those of now, since only a port was put in its place
pub returns-clause-rows : goal.returns-clause-rows
returns-clause-rows c =
    let rows : RowLists = c.args.rows.now in
    let port : PortRow = c.args.port in
    let put : c.in_ok-draft-2.draft.rows ≡ with_put rows (Port port) =
    c.in_ok-draft-2.ensures.rows ∙ (λ j. with_put (c.in_ok-draft.ensures.rows j) (Port (c.in_ok-copy.ensures j))) in
    c.in_ok-draft-3.ensures.rows ∙ (λ j. made (put j) (disassociations (put j).floatings port.id (c.as_slice.ensures j)))
