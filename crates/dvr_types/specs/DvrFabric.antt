-- The run of a frame over hosts that have copies of routers: each step looks at the tables, the
-- copies and the entries of one host. On a bridge a packet for the interface of a copied router is
-- handled by the copy, if it is near; all else goes by the host's tables.
use Rattle.api_types.specs.Ident.{Ident}
use Rattle.api_types.specs.declared.wire.Wire.{Wire}
use Rattle.dvr_types.specs.CopySteps.{CopyEnds, CopySends, CopyStep, Handled, handled_here}
use Rattle.dvr_types.specs.declared.copies.Copies.{Copies}
use Rattle.dvr_types.specs.declared.copies.NearTo.{NearTo}
use Rattle.dvr_types.specs.declared.copies.NearTo.TheVariants.{Router as NearRouter, Tap as NearTap, Tunnel as NearTunnel}
use Rattle.net_addr.specs.Words.{Text}
use Rattle.plane_types.specs.Fabric.{Run, after_step, at_inward, at_tap, run_from, steps_for, takes}
use Rattle.plane_types.specs.Hosts.{Host, is_named}
use Rattle.plane_types.specs.Meaning.{life_of}
use Rattle.plane_types.specs.Packets.{Packet, ip_frame, is_unsupported, packet}
use Rattle.plane_types.specs.Places.{Bridge, DhcpIn, End, Next, Place, RouterIn, Step, TapIn, TapOut, ToTunnel, ToWire, TunnelIn, WireIn}
use Rattle.plane_types.specs.TableStep.{Stepped, inward_at, table_step, tag_row, tap_at}
use Rattle.plane_types.specs.declared.event.Event.{Event}
use Rattle.plane_types.specs.declared.event.Event.TheVariants.{FromPort, FromWire}
use Rattle.plane_types.specs.declared.frame.Frame.{Frame}
use Rattle.plane_types.specs.declared.frame.Frame.TheVariants.{Dhcp, Ip, NeighbourAsk, Other}
use Rattle.plane_types.specs.declared.lists.TableLists.{TableLists}
use Rattle.plane_types.specs.declared.table.Carrier.TheVariants.{Wire as ByWire}
use Rattle.plane_types.specs.declared.table.TagRow.{TagRow}
use Rattle.plane_types.specs.declared.verdict.DropCause.TheVariants.{Dead, Unknown, Unsupported}
use Rattle.plane_types.specs.declared.verdict.Outcome.{Outcome}
use Rattle.plane_types.specs.declared.verdict.Outcome.TheVariants.{Dropped, Out}
use Rattle.plane_types.specs.declared.verdict.Toward.{Toward}
use Rattle.std.specs.Prelude.{Bool, List, None, Option, Some, [], find, if◌then◌else◌, is_some, not, suc, zero, ℕ, ◌&&◌, ◌++◌, ◌∷◌}
use Rattle.std.specs.Str.{bytes_eq}

-- a host with its copies
pub record DvrHost : Type 0 where
  pub host : Host
  pub copies : Copies

abbrev pub is_dvr_named : Text → DvrHost → Bool
is_dvr_named name d = is_named name d.host

-- where a packet is at a host: at a place of its tables; or on a network, which may have no tag
-- here, on its way to where an address leads
pub data DvrPlace : Type 0 where
  At : Place → DvrPlace
  On : Ident → NearTo → Packet → DvrPlace

-- what a run has come to so far, and the hosts at which the frame was, none twice in a row
pub record DvrRun : Type 0 where
  pub run : Run
  pub hosts : List Text

pub record DvrFate : Type 0 where
  pub outcome : Outcome
  pub run : DvrRun

abbrev pub fate_of_dvr : DvrRun → Outcome → DvrFate
fate_of_dvr run o = record { outcome = o; run = run }

abbrev pub name_elsewhere : Text → Text → List Text
name_elsewhere here there = if bytes_eq here there then [] else there ∷ []

-- from one host to another
abbrev pub run_at : DvrHost → DvrHost → DvrRun → DvrRun
run_at a b run = record {
  run = run.run;
  hosts = run.hosts ++ name_elsewhere a.host.name b.host.name;
}

abbrev pub with_passed : DvrRun → List Ident → DvrRun
with_passed run ids = record {
  run = record (run.run) { path = run.run.path ++ ids };
  hosts = run.hosts;
}

abbrev pub DvrGoing : Type 0
DvrGoing = DvrHost → DvrPlace → DvrRun → DvrFate

-- to the host with a name, or to one that takes the frame from the wire
abbrev pub over_dvr_tunnel : DvrGoing → DvrHost → ℕ → Frame → DvrRun → Option DvrHost → DvrFate
over_dvr_tunnel on d number frame run None = fate_of_dvr run (Dropped Unknown)
over_dvr_tunnel on d number frame run (Some x) = on x (At (TunnelIn number frame)) (run_at d x run)

abbrev pub over_dvr_wire : DvrGoing → DvrHost → Wire → Ident → Toward → Frame → DvrRun
    → Option DvrHost → DvrFate
over_dvr_wire on d w n toward frame run None = fate_of_dvr run (Out n toward frame)
over_dvr_wire on d w n toward frame run (Some x) = on x (At (WireIn w frame)) (run_at d x run)

abbrev pub takes_elsewhere : DvrHost → Wire → Frame → DvrHost → Bool
takes_elsewhere d w frame x = not (bytes_eq x.host.name d.host.name) && takes w frame x.host

-- after a look-up in the host's tables
abbrev pub next_of_tables : List DvrHost → DvrGoing → DvrHost → DvrRun → Step → DvrFate
next_of_tables hosts on d run (Next place) = on d (At place) run
next_of_tables hosts on d run (End o way) = fate_of_dvr run o
next_of_tables hosts on d run (ToTunnel name number frame) =
    over_dvr_tunnel on d number frame run (find (is_dvr_named name) hosts)
next_of_tables hosts on d run (ToWire w n toward frame) =
    over_dvr_wire on d w n toward frame run (find (takes_elsewhere d w frame) hosts)

abbrev pub fate_after_tables : List DvrHost → DvrGoing → DvrHost → Place → DvrRun → Stepped
    → DvrFate
fate_after_tables hosts on d place run s =
    next_of_tables hosts on d
    (record { run = after_step d.host place s run.run; hosts = run.hosts }) s.step

-- after a copy's step: router and network are passed if the router sent the packet on to a network,
-- also if nobody holds the next hop there
abbrev pub passed_by_copy : Ident → Option Ident → List Ident
passed_by_copy router None = []
passed_by_copy router (Some n) = router ∷ n ∷ []

abbrev pub next_of_copy : DvrGoing → DvrHost → DvrRun → Ident → CopyStep → DvrFate
next_of_copy on d run router (CopyEnds o way) =
    fate_of_dvr (with_passed run (passed_by_copy router way)) o
next_of_copy on d run router (CopySends n to p) =
    on d (On n to p) (with_passed run (router ∷ n ∷ []))

abbrev pub fate_after_copy : DvrGoing → DvrHost → DvrRun → Handled → DvrFate
fate_after_copy on d run x = next_of_copy on d run x.router x.step

-- at a place of the tables: on a bridge the copies are asked first
abbrev pub handled_on : Copies → Packet → Option TagRow → Option Handled
handled_on c p None = None
handled_on c p (Some t) = handled_here c t.network p

abbrev pub handled_at : Copies → TableLists → Place → Option Handled
handled_at c t (Bridge tag (Ip src dst ends ttl part)) =
    handled_on c (packet src dst ends ttl part) (tag_row t tag)
handled_at c t (Bridge tag (NeighbourAsk src ends)) = None
handled_at c t (Bridge tag (Dhcp src from)) = None
handled_at c t (Bridge tag (Other s d y)) = None
handled_at c t (TapIn i f) = None
handled_at c t (TunnelIn n f) = None
handled_at c t (WireIn w f) = None
handled_at c t (RouterIn i r f) = None
handled_at c t (DhcpIn n f) = None
handled_at c t (TapOut i f) = None

abbrev pub fate_at_place : List DvrHost → DvrGoing → DvrHost → Place → DvrRun → Option Handled
    → DvrFate
fate_at_place hosts on d place run None =
    fate_after_tables hosts on d place run
    (table_step d.host.tables (d.host.entries ++ run.run.fresh) place)
fate_at_place hosts on d place run (Some x) = fate_after_copy on d run x

-- on the way to where an address leads: another router's copy may handle the packet as well
abbrev pub fate_at_router : List DvrHost → DvrGoing → DvrHost → Text → ℕ → Packet → DvrRun
    → Option Handled → DvrFate
fate_at_router hosts on d host number p run None =
    over_dvr_tunnel on d number (ip_frame p) run (find (is_dvr_named host) hosts)
fate_at_router hosts on d host number p run (Some x) = fate_after_copy on d run x

abbrev pub fate_toward : List DvrHost → DvrGoing → DvrHost → Ident → Packet → DvrRun → NearTo
    → DvrFate
fate_toward hosts on d n p run (NearTap port) = on d (At (TapOut port (ip_frame p))) run
fate_toward hosts on d n p run (NearTunnel host number) =
    over_dvr_tunnel on d number (ip_frame p) run (find (is_dvr_named host) hosts)
fate_toward hosts on d n p run (NearRouter r host number) =
    fate_at_router hosts on d host number p run (handled_here d.copies n p)

-- so many steps
unfoldable pub dvr_walk : List DvrHost → ℕ → DvrGoing
dvr_walk hosts zero d place run = fate_of_dvr run (Dropped Unknown)
dvr_walk hosts (suc many) d (At place) run =
    fate_at_place hosts (dvr_walk hosts many) d place run
    (handled_at d.copies d.host.tables place)
dvr_walk hosts (suc many) d (On n to p) run =
    fate_toward hosts (dvr_walk hosts many) d n p run to

-- an event from a port begins at the first host with a tap of it, one from a wire at the first
-- host that takes it
abbrev pub run_at_first : DvrHost → List Ident → DvrRun
run_at_first d path = record { run = run_from path; hosts = d.host.name ∷ [] }

abbrev pub run_nowhere : DvrRun
run_nowhere = record { run = run_from []; hosts = [] }

abbrev pub from_dvr_tap : List DvrHost → Ident → Frame → Option DvrHost → DvrFate
from_dvr_tap hosts port frame None = fate_of_dvr run_nowhere (Dropped Dead)
from_dvr_tap hosts port frame (Some d) =
    dvr_walk hosts (suc (steps_for (life_of frame))) d (At (TapIn port frame))
    (run_at_first d (at_tap d.host (tap_at d.host.tables port)))

abbrev pub from_dvr_wire : List DvrHost → Wire → Frame → Option DvrHost → DvrFate
from_dvr_wire hosts w frame None = fate_of_dvr run_nowhere (Dropped Unknown)
from_dvr_wire hosts w frame (Some d) =
    dvr_walk hosts (steps_for (life_of frame)) d (At (WireIn w frame))
    (run_at_first d (at_inward d.host (inward_at d.host.tables (ByWire w))))

abbrev pub dvr_outside : List DvrHost → Wire → Frame → DvrFate
dvr_outside hosts w frame =
    from_dvr_wire hosts w frame (find (λ (d : DvrHost). takes w frame d.host) hosts)

unfoldable pub dvr_fate : List DvrHost → Event → DvrFate
dvr_fate hosts (FromPort port frame) =
    from_dvr_tap hosts port frame
    (find (λ (d : DvrHost). is_some (tap_at d.host.tables port)) hosts)
dvr_fate hosts (FromWire physical tag frame) =
    if is_unsupported frame then fate_of_dvr run_nowhere (Dropped Unsupported)
    else dvr_outside hosts (record { physical = physical; tag = tag }) frame
