-- Where steps lead, and where they end.
use Rattle.std.proofs.Common.{◌≡◌, ◌∙◌, ◌<◌, ℕ, zero, suc, List, length, Bool, true, false, Option, Some, None, refl, ap, sym}
use Rattle.std.specs.Prelude.{find, if◌then◌else◌, is_some, slice_get}
use Rattle.api_types.specs.Ident.{Ident}
use Rattle.api_types.specs.declared.wire.Wire.{Wire}
use Rattle.dvr_fabric.proofs.HostLemmas.{there}
use Rattle.dvr_fabric.proofs.TellsLemmas.{stays_with}
use Rattle.dvr_fabric.specs.Beginnings.{fate_begun, start_fate}
use Rattle.dvr_fabric.specs.Positions.{end_of_next, end_of_step, fate_of_copy, fate_there, next_fate, run_with, step_fate}
use Rattle.dvr_fabric.specs.Steps.{ids_after}
use Rattle.dvr_fabric.specs.declared.begin.Start.TheVariants.{At as StartAt}
use Rattle.dvr_fabric.specs.declared.position.Next.{Next as TheirNext}
use Rattle.dvr_fabric.specs.declared.position.Next.TheVariants.{Step as NextStep, Toward as NextToward}
use Rattle.dvr_types.specs.CopySteps.{CopyEnds, CopySends, CopyStep}
use Rattle.dvr_types.specs.DvrFabric.{At, DvrFate, DvrGoing, DvrHost, DvrPlace, DvrRun, On, dvr_fate, dvr_outside, dvr_walk, fate_at_place, fate_of_dvr, fate_toward, from_dvr_tap, from_dvr_wire, handled_at, next_of_copy, over_dvr_tunnel, over_dvr_wire, run_at, run_nowhere, with_passed}
use Rattle.dvr_types.specs.declared.copies.NearTo.{NearTo}
use Rattle.host_plane.specs.Views.{view_of_step}
use Rattle.net_addr.specs.Words.{Text}
use Rattle.plane_types.specs.Fabric.{takes}
use Rattle.plane_types.specs.Packets.{Packet, is_unsupported}
use Rattle.plane_types.specs.Places.{End, Next, Place, Step, ToTunnel, ToWire, TunnelIn, WireIn}
use Rattle.plane_types.specs.TableStep.{tap_at}
use Rattle.plane_types.specs.declared.event.Event.TheVariants.{FromPort, FromWire}
use Rattle.plane_types.specs.declared.frame.Frame.{Frame}
use Rattle.plane_types.specs.declared.verdict.DropCause.TheVariants.{Dead, Unknown, Unsupported}
use Rattle.plane_types.specs.declared.verdict.Outcome.TheVariants.{Dropped}
use Rattle.plane_types.specs.declared.verdict.Toward.{Toward}

-- at this host, whatever comes next
pub stays_at : (on : DvrGoing) (d : DvrHost) (r : DvrRun) (next : TheirNext) (o : Option DvrHost) → o ≡ Some d → fate_there on (run_with d r o) next o ≡ next_fate on d r next
stays_at on d r next o here = ap (λ x. fate_there on x next o) (stays_with d r o here) ∙ ap (fate_there on r next) here

-- to the host that was found
pub tunnelled_to : (on : DvrGoing) (d : DvrHost) (number : ℕ) (frame : Frame) (r : DvrRun) (next : TheirNext) (o : Option DvrHost) (x : DvrHost) → o ≡ Some x
    → ((e : DvrHost) (s : DvrRun) → next_fate on e s next ≡ on e (At (TunnelIn number frame)) s)
    → fate_there on (run_with d r o) next o ≡ over_dvr_tunnel on d number frame r o
tunnelled_to on d number frame r next o x here is =
    ap (λ z. fate_there on (run_with d r z) next z) here ∙ is x (run_at d x r) ∙ sym (ap (over_dvr_tunnel on d number frame r) here)

pub wired_to : (on : DvrGoing) (d : DvrHost) (w : Wire) (n : Ident) (toward : Toward) (frame : Frame) (r : DvrRun) (next : TheirNext) (o : Option DvrHost) (x : DvrHost) → o ≡ Some x
    → ((e : DvrHost) (s : DvrRun) → next_fate on e s next ≡ on e (At (WireIn w frame)) s)
    → fate_there on (run_with d r o) next o ≡ over_dvr_wire on d w n toward frame r o
wired_to on d w n toward frame r next o x here is =
    ap (λ z. fate_there on (run_with d r z) next z) here ∙ is x (run_at d x r) ∙ sym (ap (over_dvr_wire on d w n toward frame r) here)

-- no step is left
pub walk_over : (hosts : List DvrHost) (d : DvrHost) (p : DvrPlace) (r : DvrRun) → dvr_walk hosts zero d p r ≡ fate_of_dvr r (Dropped Unknown)
unfolding dvr_walk
walk_over hosts d p r = refl

pub stands : (hosts : List DvrHost) (r : DvrRun) (next : TheirNext) (d : DvrHost) → next_fate (dvr_walk hosts zero) d r next ≡ fate_of_dvr r (end_of_next next)
unfolding dvr_walk
stands hosts r (NextStep step) d = go (view_of_step step)
  where
    go : (s : Step) → step_fate (dvr_walk hosts zero) d r s ≡ fate_of_dvr r (end_of_step s)
    go (Next place) = refl
    go (End o way) = refl
    go (ToTunnel name number frame) = refl
    go (ToWire w n toward frame) = refl
stands hosts r (NextToward network to packet) d = refl

-- after a copy's step
pub after_copy : (on : DvrGoing) (d : DvrHost) (r : DvrRun) (router : Ident) (s : CopyStep) (next : TheirNext) (o : Option DvrHost) → o ≡ Some d
    → ((e : DvrHost) (t : DvrRun) → next_fate on e t next ≡ fate_of_copy on e t s)
    → next_of_copy on d r router s ≡ fate_there on (run_with d (with_passed r (ids_after router s)) o) next o
after_copy on d r router (CopyEnds outcome way) next o here is =
    sym (stays_at on d (with_passed r (ids_after router (CopyEnds outcome way))) next o here ∙ is d (with_passed r (ids_after router (CopyEnds outcome way))))
after_copy on d r router (CopySends n to p) next o here is =
    sym (stays_at on d (with_passed r (ids_after router (CopySends n to p))) next o here ∙ is d (with_passed r (ids_after router (CopySends n to p))))

-- where an event begins
pub began_at_tap : (hosts : List DvrHost) (port : Ident) (frame : Frame) (at : ℕ) → at < length hosts → slice_get hosts at ≡ find (λ (x : DvrHost). is_some (tap_at x.host.tables port)) hosts → start_fate hosts (FromPort port frame) (StartAt at) ≡ dvr_fate hosts (FromPort port frame)
unfolding dvr_fate
began_at_tap hosts port frame at within found =
    let d = there hosts at within in
    ap (fate_begun hosts (FromPort port frame)) d.1 ∙ sym (ap (from_dvr_tap hosts port frame) (sym found ∙ d.1))

pub no_tap : (hosts : List DvrHost) (port : Ident) (frame : Frame) → find (λ (x : DvrHost). is_some (tap_at x.host.tables port)) hosts ≡ None → fate_of_dvr run_nowhere (Dropped Dead) ≡ dvr_fate hosts (FromPort port frame)
unfolding dvr_fate
no_tap hosts port frame none = sym (ap (from_dvr_tap hosts port frame) none)

module _ (hosts : List DvrHost) (physical : Text) (tag : Option ℕ) (frame : Frame) where
  abbrev w : Wire
  w = record { physical = physical; tag = tag }

  abbrev outside_if : Bool → DvrFate
  outside_if b = if b then fate_of_dvr run_nowhere (Dropped Unsupported) else dvr_outside hosts w frame

  pub began_at_wire : (at : ℕ) → at < length hosts → is_unsupported frame ≡ false → slice_get hosts at ≡ find (λ (x : DvrHost). takes w frame x.host) hosts → start_fate hosts (FromWire physical tag frame) (StartAt at) ≡ dvr_fate hosts (FromWire physical tag frame)
  unfolding dvr_fate
  began_at_wire at within supported found =
      let d = there hosts at within in
      ap (fate_begun hosts (FromWire physical tag frame)) d.1 ∙ sym (ap outside_if supported ∙ ap (from_dvr_wire hosts w frame) (sym found ∙ d.1))

  pub not_taken : is_unsupported frame ≡ false → find (λ (x : DvrHost). takes w frame x.host) hosts ≡ None → fate_of_dvr run_nowhere (Dropped Unknown) ≡ dvr_fate hosts (FromWire physical tag frame)
  unfolding dvr_fate
  not_taken supported none = sym (ap outside_if supported ∙ ap (from_dvr_wire hosts w frame) none)

  pub unsupported : is_unsupported frame ≡ true → fate_of_dvr run_nowhere (Dropped Unsupported) ≡ dvr_fate hosts (FromWire physical tag frame)
  unfolding dvr_fate
  unsupported is = sym (ap outside_if is)

-- one step of those that are left
pub walk_at : (hosts : List DvrHost) (many : ℕ) (d : DvrHost) (place : Place) (r : DvrRun) → dvr_walk hosts (suc many) d (At place) r ≡ fate_at_place hosts (dvr_walk hosts many) d place r (handled_at d.copies d.host.tables place)
unfolding dvr_walk
walk_at hosts many d place r = refl

pub walk_toward : (hosts : List DvrHost) (many : ℕ) (d : DvrHost) (n : Ident) (to : NearTo) (p : Packet) (r : DvrRun) → dvr_walk hosts (suc many) d (On n to p) r ≡ fate_toward hosts (dvr_walk hosts many) d n p r to
unfolding dvr_walk
walk_toward hosts many d n to p r = refl
