use Rattle.std.proofs.Common.{◌∙◌, ap, sym}
use Rattle.std.specs.Prelude.{option_copied}
use Rattle.dvr_fabric.proofs.PlainLaw.{found-handled, none-handled}
use Rattle.plane_types.specs.Parts.{packet_of}
use Rattle.dvr_fabric.proofs.copies.handled_here.Goals as goal

pub returns-in-Some : goal.returns-in-Some
returns-in-Some c =
    c.handled_by.ensures
    ∙ sym (found-handled c.args.copies.now c.args.network (packet_of c.args.packet.now) c.in-Some.copy.now (sym c.copy_at.ensures ∙ ap option_copied c.in-Some.is))

pub returns-in-None : goal.returns-in-None
returns-in-None c = sym (none-handled c.args.copies.now c.args.network (packet_of c.args.packet.now) (sym c.copy_at.ensures ∙ ap option_copied c.in-None.is))
