use Rattle.std.proofs.Common.{◌∙◌, ap}
use Rattle.api_types.specs.declared.wire.Wire.{Wire}
use Rattle.plane_types.specs.InwardKeys.{is_inward_at}
use Rattle.plane_types.specs.TableStep.{carrier_eq, inward_at}
use Rattle.plane_types.specs.Tables.{Tables}
use Rattle.plane_types.specs.declared.keys.InwardKey.TheVariants.{Tag}
use Rattle.plane_types.specs.declared.table.Carrier.TheVariants.{Wire as ByWire}
use Rattle.plane_types.specs.declared.table.InwardRow.{InwardRow}
use Rattle.plane_types.proofs.RunLemmas.{found_within, wire_tagged}
use Rattle.plane_types.proofs.tables.HostTables.inward_wire.Goals as goal

-- among the rows of the tag are all of the wire
pub returns : goal.returns
returns c =
    let wire : Wire = record { physical = c.args.physical.now; tag = c.args.tag } in
    c.wire_among.ensures
    ∙ found_within (is_inward_at (Tag c.args.tag)) (λ (r : InwardRow). carrier_eq (ByWire wire) r.carrier) (λ r h. wire_tagged wire r.carrier h) c.near.result.now c.self.inside.inward.items c.near.ensures
    ∙ ap (λ (t : Tables). inward_at t.lists (ByWire wire)) c.self.view_is
