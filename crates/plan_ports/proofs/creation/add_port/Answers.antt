use Rattle.std.proofs.Common.{◌≡◌, ◌∙◌, None, ap, subst, sym}
use Rattle.api_types.specs.Ident.{Ident}
use Rattle.api_types.specs.RowLists.{RowLists}
use Rattle.api_types.specs.Table.{row_of}
use Rattle.api_types.specs.declared.port.PortRow.{PortRow}
use Rattle.call_parts.specs.Drafts.{DraftParts}
use Rattle.plan_ports.specs.PortCalls.{new_port}
use Rattle.plan_ports.proofs.creation.add_port.Goals as goal

pub add-requires : goal.add-requires
add-requires c =
    let rows : RowLists = c.args.drawn.draft.rows in
    let settled = ap (λ (d : DraftParts). d.rows) c.in_ok-settled.ensures in
    let id_is = ap (λ (p : PortRow). p.id) c.in_ok-port.ensures ∙ c.id-id.ensures rows in
    record {
      new = subst (λ (r : RowLists). row_of (λ (p : PortRow). p.id) c.in_ok-port.port.id r.ports ≡ None) (sym settled)
          (subst (λ (i : Ident). row_of (λ (p : PortRow). p.id) i rows.ports ≡ None) (sym id_is) c.requires.new);
    }

pub returns-clause-row : goal.returns-clause-row
returns-clause-row c =
    let asking = c.args.asking.now in
    let rows : RowLists = c.args.drawn.draft.rows in
    let settled = ap (λ (d : DraftParts). d.rows) c.in_ok-settled.ensures in
    let port_is = c.in_ok-port.ensures
    ∙ (λ j. new_port asking.settings ((c.rows.ensures ∙ settled) j) asking.caller c.args.form.now c.args.network.now c.args.owner.now (c.id-id.ensures rows j) c.args.chosen.mac c.args.chosen.fixed) in
    c.in_ok-kept.ensures ∙ port_is
