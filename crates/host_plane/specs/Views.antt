-- Where a look-up leads, without the borrowing of names and leases.
use Rattle.std.specs.Prelude.{option_to_list}
use Rattle.plane_types.specs.Places.{End, Next, Step, ToTunnel, ToWire, view_of_place}
use Rattle.plane_types.specs.TableStep.{Stepped}
use Rattle.plane_types.specs.declared.verdict.AskAnswer.TheVariants.{Arp as ArpAnswer, Lease as LeaseAnswer}
use Rattle.plane_types.specs.declared.verdict.Outcome.{Outcome}
use Rattle.plane_types.specs.declared.verdict.Outcome.TheVariants.{Absorbed, Answered, Delivered, Dropped, Out}
use Rattle.host_plane.specs.declared.ending.FrameEnd.{FrameEnd}
use Rattle.host_plane.specs.declared.ending.FrameEnd.TheVariants.{Absorbed as TheirAbsorbed, Address as TheirAddress, Delivered as TheirDelivered, Dropped as TheirDropped, Lease as TheirLease, Out as TheirOut}
use Rattle.host_plane.specs.declared.ending.Step.{Step as TheirStep}
use Rattle.host_plane.specs.declared.ending.Step.TheVariants.{End as TheirEnd, Next as TheirNext, ToTunnel as TheirToTunnel, ToWire as TheirToWire}
use Rattle.host_plane.specs.declared.ending.Stepped.{Stepped as TheirStepped}

abbrev pub outcome_of : FrameEnd → Outcome
outcome_of (TheirDelivered port frame) = Delivered port frame
outcome_of (TheirAddress address mac) = Answered (ArpAnswer address mac)
outcome_of (TheirLease lease) = Answered (LeaseAnswer lease.now)
outcome_of (TheirAbsorbed router) = Absorbed router
outcome_of (TheirOut network toward frame) = Out network toward frame
outcome_of (TheirDropped cause) = Dropped cause

abbrev pub view_of_step : TheirStep → Step
view_of_step (TheirNext place) = Next (view_of_place place)
view_of_step (TheirToTunnel host number frame) = ToTunnel host.now number frame
view_of_step (TheirToWire physical tag network toward frame) =
    ToWire (record { physical = physical.now; tag = tag }) network toward frame
view_of_step (TheirEnd e) = End (outcome_of e.ended) e.way

abbrev pub view_of_stepped : TheirStepped → Stepped
view_of_stepped s = record { step = view_of_step s.step; made = option_to_list s.made }
