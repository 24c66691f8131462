use Rattle.std.proofs.Common.{◌≡◌, ◌∙◌, ◌+◌, None, ap, subst, sym}
use Rattle.api_types.specs.Ident.{Ident}
use Rattle.api_types.specs.Registration.{ident}
use Rattle.api_types.specs.RowLists.{RowLists}
use Rattle.api_types.specs.Table.{row_of}
use Rattle.api_types.specs.declared.kind.Row.TheVariants.{Port}
use Rattle.api_types.specs.declared.port.PortRow.{PortRow}
use Rattle.api_types.specs.WithRows.{with_added}
use Rattle.call_parts.specs.Drafts.{DraftParts}
use Rattle.plan_routers.specs.InterfaceCalls.{interface_port, interface_shown}
use Rattle.plan_routers.proofs.adding.add_port.Goals as goal

pub add-requires : goal.add-requires
add-requires c =
    let rows : RowLists = c.args.drawn.draft.rows in
    let id_is = ap (λ (p : PortRow). p.id) c.in_ok-port.ensures ∙ c.id-id.ensures rows in
    let settled = ap (λ (d : DraftParts). d.rows) c.in_ok-settled.ensures in
    record {
      new = subst (λ (r : RowLists). row_of (λ (p : PortRow). p.id) c.in_ok-port.port.id r.ports ≡ None) (sym settled)
          (subst (λ (i : Ident). row_of (λ (p : PortRow). p.id) i rows.ports ≡ None) (sym id_is) c.requires.new);
    }

pub returns-clause-rows : goal.returns-clause-rows
returns-clause-rows c =
    let rows : RowLists = c.args.drawn.draft.rows in
    let i : Ident = ident c.args.drawn.ordinal (c.args.drawn.first + 0) in
    let settled = ap (λ (d : DraftParts). d.rows) c.in_ok-settled.ensures in
    let port_is : c.in_ok-port.port ≡ interface_port c.args.asking.now.settings rows c.args.asking.now.caller c.args.router.now c.args.network.now i c.args.mac c.args.fixed =
    c.in_ok-port.ensures ∙ (λ j. interface_port c.args.asking.now.settings ((c.rows.ensures ∙ settled) j) c.args.asking.now.caller c.args.router.now c.args.network.now (c.id-id.ensures rows j) c.args.mac c.args.fixed) in
    c.in_ok-add.ensures.rows ∙ (λ j. with_added (settled j) (Port (port_is j)))

pub returns-clause-shown : goal.returns-clause-shown
returns-clause-shown c =
    let rows : RowLists = c.args.drawn.draft.rows in
    let i : Ident = ident c.args.drawn.ordinal (c.args.drawn.first + 0) in
    let settled = ap (λ (d : DraftParts). d.rows) c.in_ok-settled.ensures in
    let port_is : c.in_ok-port.port ≡ interface_port c.args.asking.now.settings rows c.args.asking.now.caller c.args.router.now c.args.network.now i c.args.mac c.args.fixed =
    c.in_ok-port.ensures ∙ (λ j. interface_port c.args.asking.now.settings ((c.rows.ensures ∙ settled) j) c.args.asking.now.caller c.args.router.now c.args.network.now (c.id-id.ensures rows j) c.args.mac c.args.fixed) in
    c.in_ok-shown.ensures ∙ ap (λ (p : PortRow). interface_shown c.args.router.now p c.args.fixed.subnet) port_is
