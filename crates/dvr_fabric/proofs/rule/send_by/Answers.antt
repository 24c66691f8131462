use Rattle.std.proofs.Common.{◌∙◌, ap, sym}
use Rattle.std.specs.Option.{unwrap_or}
use Rattle.std.specs.Prelude.{option_copied}
use Rattle.dvr_fabric.specs.Steps.{plain_out}
use Rattle.plane_types.specs.Ends.{destination}
use Rattle.plane_types.specs.Parts.{packet_of}
use Rattle.dvr_fabric.proofs.rule.send_by.Goals as goal

pub returns-in-Some : goal.returns-in-Some
returns-in-Some c =
    c.send_out.ensures
    ∙ sym (ap (plain_out c.args.copies.now (unwrap_or c.args.row.now.next (destination c.args.packet.now.ends)) (packet_of c.args.packet.now)) (sym c.port_of.ensures ∙ ap option_copied c.in-Some.is))

pub returns-in-None : goal.returns-in-None
returns-in-None c =
    sym (ap (plain_out c.args.copies.now (unwrap_or c.args.row.now.next (destination c.args.packet.now.ends)) (packet_of c.args.packet.now)) (sym c.port_of.ensures ∙ ap option_copied c.in-None.is))
