use Rattle.std.proofs.Common.{◌∙◌, ◌++◌, ap, sym}
use Rattle.std.specs.Prelude.{option_map}
use Rattle.plane_types.specs.Parts.{packet_of}
use Rattle.host_plane.proofs.PacketFrames.{sends_packet}
use Rattle.host_plane.proofs.tap.sends.Goals as goal

pub returns-in-Some : goal.returns-in-Some
returns-in-Some c =
    c.send_filtered.ensures ∙ sends_packet c.args.tables.now.lists (c.args.entries.now ++ c.args.fresh.now) c.args.tap.now c.args.frame (packet_of c.in-Some.packet) (sym (ap (option_map packet_of) c.in-Some.is) ∙ c.of.ensures)
