-- What a tap does with a frame in which there is a packet.
use Rattle.std.proofs.Common.{◌≡◌, List, Some, ap, sym}
use Rattle.std.proofs.lemmas.Option.{none-some, same_Some}
use Rattle.api_types.specs.declared.group.Direction.TheVariants.{Egress, Ingress}
use Rattle.plane_types.specs.Packets.{Packet, ip_frame, packet, packet_in}
use Rattle.plane_types.specs.TableStep.{tap_delivers, tap_filtered, tap_out_by, tap_passage, tap_sends}
use Rattle.plane_types.specs.declared.entry.Entry.{Entry}
use Rattle.plane_types.specs.declared.frame.Frame.{Frame}
use Rattle.plane_types.specs.declared.frame.Frame.TheVariants.{Dhcp, Ip, NeighbourAsk, Other}
use Rattle.plane_types.specs.declared.table.TapRow.{TapRow}
use Rattle.plane_types.specs.declared.lists.TableLists.{TableLists}

pub frame_of : (frame : Frame) (p : Packet) → Some p ≡ packet_in frame → ip_frame p ≡ frame
frame_of (Ip src dst ends ttl part) p is = ap ip_frame (same_Some p (packet src dst ends ttl part) is)
frame_of (NeighbourAsk src ends) p is = absurd (none-some p (sym is))
frame_of (Dhcp src from) p is = absurd (none-some p (sym is))
frame_of (Other src dst ethertype) p is = absurd (none-some p (sym is))

module _ (t : TableLists) (entries : List Entry) (tap : TapRow) (frame : Frame) (p : Packet) (is : Some p ≡ packet_in frame) where
  pub sends_packet : tap_filtered (ip_frame p) tap (tap_passage t entries tap Egress p) ≡ tap_sends t entries tap frame
  sends_packet = ap (tap_sends t entries tap) (frame_of frame p is)

  pub gets_packet : tap_delivers tap.port (ip_frame p) (tap_passage t entries tap Ingress p) ≡ tap_out_by t entries frame tap
  gets_packet = ap (λ f. tap_out_by t entries f tap) (frame_of frame p is)
