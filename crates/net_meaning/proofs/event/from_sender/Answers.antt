use Rattle.std.proofs.Common.{◌≡◌, ◌∙◌, ◌++◌, Some, List, suc, ap, sym}
use Rattle.std.specs.Prelude.{option_map}
use Rattle.std.proofs.lemmas.Result.{IfOk-weaker}
use Rattle.api_types.specs.RowLists.{RowLists}
use Rattle.api_types.specs.declared.group.Direction.TheVariants.{Egress}
use Rattle.api_types.specs.declared.port.PortRow.{PortRow}
use Rattle.plane_types.specs.Meaning.{Trace, from_sender, port_fate, life_of, rows_passage, sent_out}
use Rattle.plane_types.specs.Packets.{Packet, packet, packet_in}
use Rattle.plane_types.specs.Parts.{packet_of}
use Rattle.plane_types.specs.declared.entry.Entry.{Entry}
use Rattle.plane_types.specs.declared.frame.Frame.{Frame}
use Rattle.plane_types.specs.declared.frame.Frame.TheVariants.{Dhcp, Ip, NeighbourAsk, Other}
use Rattle.net_meaning.specs.Views.{trace_of}
use Rattle.net_meaning.proofs.event.from_sender.Goals as goal

-- the packet of a frame is sent out
sends : (rows : RowLists) (entries : List Entry) (p : PortRow) (f : Frame) (x : Packet) (t on : Trace) → Some x ≡ packet_in f → t ≡ on → sent_out rows (port_fate rows entries (suc x.ttl)) p x t (rows_passage rows (entries ++ t.fresh) p Egress x) ≡ from_sender rows entries (life_of f) p on f
sends rows entries p (Ip src dst ends ttl part) x t on x_is t_is =
    let is : x ≡ packet src dst ends ttl part = cc in
    ap (λ (y : Packet). sent_out rows (port_fate rows entries (suc y.ttl)) p y t (rows_passage rows (entries ++ t.fresh) p Egress y)) is
    ∙ ap (λ (u : Trace). sent_out rows (port_fate rows entries (suc ttl)) p (packet src dst ends ttl part) u (rows_passage rows (entries ++ u.fresh) p Egress (packet src dst ends ttl part))) t_is
sends rows entries p (NeighbourAsk src ends) x t on x_is t_is = cc
sends rows entries p (Dhcp src from) x t on x_is t_is = cc
sends rows entries p (Other src dst ethertype) x t on x_is t_is = cc

pub returns-in-Some : goal.returns-in-Some
returns-in-Some c =
    IfOk-weaker c.sent_out.result _ _
    (λ f h. h ∙ sends c.args.rows.now c.args.entries.now c.args.sender.now c.args.frame (packet_of c.in-Some.packet) (trace_of c.in_ok-trace.trace) _ (sym (ap (option_map packet_of) c.in-Some.is) ∙ c.of.ensures) c.in_ok-trace.ensures)
    c.sent_out.ensures
