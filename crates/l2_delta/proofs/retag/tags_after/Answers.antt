use Rattle.std.proofs.Common.{◌≡◌, ◌∙◌, List, subst, sym}
use Rattle.std.proofs.lemmas.Result.{IfOk-weaker}
use Rattle.api_types.specs.Parts.{network_of, port_of}
use Rattle.api_types.specs.declared.change.Item.{Item}
use Rattle.api_types.specs.declared.kind.Kind.TheVariants.{Network, Port}
use Rattle.api_types.specs.declared.network.NetworkRow.{NetworkRow}
use Rattle.api_types.specs.declared.port.PortRow.{PortRow}
use Rattle.plane_types.specs.NumberedRows.{row_items}
use Rattle.plane_types.specs.declared.table.TagRow.{TagRow}
use Rattle.table_edits.specs.NumbersTold.{FitRows}
use Rattle.table_edits.proofs.KindsAfter.{networks_fit, ports_fit}
use Rattle.l2_delta.proofs.TagsLaw.{NetworksStay, PortsStay, tags_are_kept}
use Rattle.l2_delta.proofs.retag.tags_after.Goals as goal

pub of-requires : goal.of-requires
of-requires c =
    let before = c.args.before.now in
    subst
    (λ (is : List Item). FitRows (λ (r : NetworkRow). r.id) before.networks
    (row_items Network network_of is))
    (sym c.as_slice-items.ensures)
    (networks_fit before c.args.change.now c.requires.leads_on.fits)

pub of-requires-2 : goal.of-requires-2
of-requires-2 c =
    let before = c.args.before.now in
    subst
    (λ (is : List Item). FitRows (λ (r : PortRow). r.id) before.ports
    (row_items Port port_of is))
    (sym c.as_slice-items.ensures)
    (ports_fit before c.args.change.now c.requires.leads_on.fits)

pub returns-then-stay_by_ports : goal.returns-then-stay_by_ports
returns-then-stay_by_ports c =
    let before = c.args.before.now in
    let after = c.args.after.now in
    let host = c.args.host.now in
    let tags = c.args.tables.now.lists.tags in
    let networks = c.in_ok-networks.networks in
    let ports = c.in_ok-ports.ports in
    let had : c.in_ok-of.field-0 ≡ tags = c.in_ok-of.ensures ∙ c.tags.ensures in
    let kept =
    tags_are_kept before after c.args.change.now c.requires.leads_on host tags
    c.requires.realised.tags networks ports
    (c.in_ok-networks.ensures ∙ (λ j. record {
      rows = before.networks;
      items = row_items Network network_of (c.as_slice-items.ensures j);
    }))
    (c.in_ok-ports.ensures ∙ (λ j. record {
      rows = before.ports;
      items = row_items Port port_of (c.as_slice-items.ensures j);
    }))
    (subst (λ (ts : List TagRow). NetworksStay before after ts networks) had
    (c.stay_by_networks.ensures c.if-stay_by_networks.true))
    (subst (λ (ts : List TagRow). PortsStay before after host ts ports) had
    (c.stay_by_ports.ensures c.if-stay_by_ports.true)) in
    IfOk-weaker c.copy_tags.result _ _ (λ ts are. are ∙ sym kept) c.copy_tags.ensures
