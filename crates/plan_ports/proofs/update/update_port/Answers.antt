use Rattle.std.proofs.Common.{◌∙◌, List, [], ap, sym}
use Rattle.api_types.specs.Outcome.{Moved}
use Rattle.api_types.specs.Printed.{OneRow}
use Rattle.api_types.specs.RowLists.{RowLists}
use Rattle.api_types.specs.Table.{row_of}
use Rattle.api_types.specs.declared.network.NetworkRow.{NetworkRow}
use Rattle.call_parts.specs.Edits.{made}
use Rattle.plan_ports.specs.PortCalls.{port_edits, port_shown}
use Rattle.plan_ports.proofs.CallLemmas.{updated_on}
use Rattle.plan_ports.proofs.update.update_port.Goals as goal

pub returns-clause-ok : goal.returns-clause-ok
returns-clause-ok c =
    let settings = c.args.asking.now.settings in
    let state = c.args.asking.now.state in
    let caller = c.args.asking.now.caller in
    let p = c.in_ok-port.port.now in
    let networks = c.networks.ensures ∙ ap (λ (r : RowLists). r.networks) c.rows-rows.ensures.rows in
    let placed = sym (c.in-Some.ensures ∙ ap (λ (ns : List NetworkRow). row_of (λ (n : NetworkRow). n.id) p.network ns) networks) in
    let done = c.in_ok-replace_port.ensures in
    let after = done.rows ∙ (λ j. made (c.rows-rows.ensures.rows j) (port_edits (c.rows-rows.ensures.rows j).floatings c.in_ok-changed.changed)) in
    record {
      start = done.start ∙ c.rows-rows.ensures.rows;
      moved = updated_on settings state caller c.args.name.now c.args.form.now p c.in_ok-port.ensures.found c.in-Some.network.now placed
          ∙ (c.in_ok-changed.ensures.ok ∙ (λ j. Moved (sym after j) (OneRow (port_shown (sym after j) caller (sym done.row j) []))));
    }
