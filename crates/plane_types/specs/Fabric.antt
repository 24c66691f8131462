-- The run of a frame through the tables of all hosts.
use Rattle.std.specs.Prelude.{ℕ, zero, suc, ◌+◌, ◌*◌, Bool, true, false, not, ◌&&◌, List, [], ◌∷◌, ◌++◌, map, Option, Some, None, find, is_some, if◌then◌else◌}
use Rattle.std.specs.Str.{bytes_eq}
use Rattle.net_addr.specs.Words.{Text}
use Rattle.api_types.specs.Ident.{Ident}
use Rattle.plane_types.specs.Ends.{destination}
use Rattle.plane_types.specs.Hosts.{Host, is_named}
use Rattle.plane_types.specs.Meaning.{Fate, life_of}
use Rattle.plane_types.specs.Packets.{is_unsupported}
use Rattle.plane_types.specs.Places.{Bridge, DhcpIn, End, Next, Place, RouterIn, Step, TapIn, TapOut, ToTunnel, ToWire, TunnelIn, WireIn}
use Rattle.plane_types.specs.TableStep.{Stepped, bridge_at, inward_at, neighbour_at, table_step, tag_row, tap_at}
use Rattle.plane_types.specs.declared.entry.Entry.{Entry}
use Rattle.plane_types.specs.declared.event.Event.{Event}
use Rattle.plane_types.specs.declared.event.Event.TheVariants.{FromPort, FromWire}
use Rattle.plane_types.specs.declared.frame.Frame.{Frame}
use Rattle.plane_types.specs.declared.frame.Frame.TheVariants.{Dhcp, Ip, NeighbourAsk, Other}
use Rattle.plane_types.specs.declared.table.BridgeKey.TheVariants.{Dhcp as AtDhcp, Mac as AtMac}
use Rattle.plane_types.specs.declared.table.BridgeRow.{BridgeRow}
use Rattle.plane_types.specs.declared.table.BridgeTo.TheVariants.{Tunnel as ToHost, Router as ToRouter, Tap as ToTap}
use Rattle.plane_types.specs.declared.table.Carrier.TheVariants.{Tunnel as ByTunnel, Wire as ByWire}
use Rattle.plane_types.specs.declared.table.InwardRow.{InwardRow}
use Rattle.plane_types.specs.declared.table.TagRow.{TagRow}
use Rattle.plane_types.specs.declared.table.TapRow.{TapRow}
use Rattle.api_types.specs.declared.wire.Wire.{Wire}
use Rattle.plane_types.specs.declared.lists.TableLists.{TableLists}
use Rattle.plane_types.specs.declared.verdict.DropCause.TheVariants.{Dead, Unknown, Unsupported}
use Rattle.plane_types.specs.declared.verdict.Outcome.{Outcome}
use Rattle.plane_types.specs.declared.verdict.Outcome.TheVariants.{Dropped, Out}
use Rattle.plane_types.specs.declared.verdict.Toward.{Toward}

-- what a run has come to so far; makers and trail are told beside the verdict
pub record Run : Type 0 where
  pub path : List Ident
  pub fresh : List Entry
  pub makers : List Text
  pub trail : List (Text × ℕ)

pub record FabricFate : Type 0 where
  pub outcome : Outcome
  pub run : Run

-- the verdict, makers and trail left aside
abbrev pub meant : FabricFate → Fate
meant v = record { outcome = v.outcome; path = v.run.path; fresh = v.run.fresh }

abbrev pub fate_of_run : Run → Outcome → FabricFate
fate_of_run run o = record { outcome = o; run = run }

abbrev pub takes_to : Option BridgeRow → Bool
takes_to None = false
takes_to (Some r) = elim r.to [ ToTap p ↦ true | ToRouter r p ↦ true | ToHost h n ↦ false ]

abbrev pub takes_at : TableLists → Frame → Option InwardRow → Bool
takes_at t frame None = false
takes_at t (Ip src dst ends ttl part) (Some r) = takes_to (bridge_at t r.tag (AtMac dst))
takes_at t (NeighbourAsk src ends) (Some r) = is_some (neighbour_at t r.tag (destination ends))
takes_at t (Dhcp src from) (Some r) = takes_to (bridge_at t r.tag AtDhcp)
takes_at t (Other s d y) (Some r) = false

abbrev pub takes : Wire → Frame → Host → Bool
takes w frame h = takes_at h.tables frame (inward_at h.tables (ByWire w))

abbrev pub network_at : Option TagRow → List Ident
network_at None = []
network_at (Some r) = r.network ∷ []

abbrev pub path_at : Host → ℕ → List Ident
path_at h tag = network_at (tag_row h.tables tag)

-- what a step adds to the path: a router that sent the packet on, and the network
abbrev pub next_path : Host → Place → List Ident
next_path h (Bridge tag frame) = path_at h tag
next_path h (TapIn p f) = []
next_path h (TunnelIn n f) = []
next_path h (WireIn w f) = []
next_path h (RouterIn p r f) = []
next_path h (DhcpIn t f) = []
next_path h (TapOut p f) = []

abbrev pub sent_path : Host → Ident → Step → List Ident
sent_path h router (Next place) = router ∷ next_path h place
sent_path h router (End o way) = elim way [ None ↦ [] | Some n ↦ router ∷ n ∷ [] ]
sent_path h router (ToTunnel a b c) = []
sent_path h router (ToWire a b c d) = []

abbrev pub step_path : Host → Place → Step → List Ident
step_path h (RouterIn port router frame) step = sent_path h router step
step_path h (TapIn p f) step = []
step_path h (Bridge t f) step = []
step_path h (TunnelIn n f) step = []
step_path h (WireIn w f) step = []
step_path h (DhcpIn t f) step = []
step_path h (TapOut p f) step = []

abbrev pub inward_trail : Host → Option InwardRow → List (Text × ℕ)
inward_trail h None = []
inward_trail h (Some r) = (h.name, r.tag) ∷ []

abbrev pub place_trail : Host → Place → List (Text × ℕ)
place_trail h (Bridge tag f) = (h.name, tag) ∷ []
place_trail h (TunnelIn n f) = inward_trail h (inward_at h.tables (ByTunnel n))
place_trail h (WireIn w f) = inward_trail h (inward_at h.tables (ByWire w))
place_trail h (TapIn p f) = []
place_trail h (RouterIn p r f) = []
place_trail h (DhcpIn t f) = []
place_trail h (TapOut p f) = []

abbrev pub after_step : Host → Place → Stepped → Run → Run
after_step h place s run = record {
  path = run.path ++ step_path h place s.step;
  fresh = run.fresh ++ s.made;
  makers = run.makers ++ map (λ (e : Entry). h.name) s.made;
  trail = run.trail ++ place_trail h place;
}

abbrev pub Going : Type 0
Going = Host → Place → Run → FabricFate

abbrev pub over_tunnel : Going → ℕ → Frame → Run → Option Host → FabricFate
over_tunnel on number frame run None = fate_of_run run (Dropped Unknown)
over_tunnel on number frame run (Some h) = on h (TunnelIn number frame) run

abbrev pub over_wire : Going → Wire → Ident → Toward → Frame → Run → Option Host → FabricFate
over_wire on w n toward frame run None = fate_of_run run (Out n toward frame)
over_wire on w n toward frame run (Some h) = on h (WireIn w frame) run

abbrev pub next_position : List Host → Going → Host → Run → Step → FabricFate
next_position hosts on h run (Next place) = on h place run
next_position hosts on h run (End o way) = fate_of_run run o
next_position hosts on h run (ToTunnel name number frame) =
    over_tunnel on number frame run (find (is_named name) hosts)
next_position hosts on h run (ToWire w n toward frame) =
    over_wire on w n toward frame run
    (find (λ (x : Host). not (bytes_eq x.name h.name) && takes w frame x) hosts)

abbrev pub fate_after : List Host → Going → Host → Place → Run → Stepped → FabricFate
fate_after hosts on h place run s = next_position hosts on h (after_step h place s run) s.step

-- that many steps
unfoldable pub walk : List Host → ℕ → Host → Place → Run → FabricFate
walk hosts zero h place run = fate_of_run run (Dropped Unknown)
walk hosts (suc many) h place run =
    fate_after hosts (walk hosts many) h place run
    (table_step h.tables (h.entries ++ run.fresh) place)

-- the steps of a packet that passes that many routers: three for each, and three to the port
unfoldable pub steps_for : ℕ → ℕ
steps_for many = 3 * many + 3

abbrev pub run_from : List Ident → Run
run_from path = record { path = path; fresh = []; makers = []; trail = [] }

abbrev pub at_tap : Host → Option TapRow → List Ident
at_tap h None = []
at_tap h (Some tap) = path_at h tap.tag

abbrev pub from_tap : List Host → Ident → Frame → Option Host → FabricFate
from_tap hosts port frame None = fate_of_run (run_from []) (Dropped Dead)
from_tap hosts port frame (Some h) =
    walk hosts (suc (steps_for (life_of frame))) h (TapIn port frame)
    (run_from (at_tap h (tap_at h.tables port)))

abbrev pub at_inward : Host → Option InwardRow → List Ident
at_inward h None = []
at_inward h (Some r) = path_at h r.tag

abbrev pub from_outside : List Host → Wire → Frame → Option Host → FabricFate
from_outside hosts w frame None = fate_of_run (run_from []) (Dropped Unknown)
from_outside hosts w frame (Some h) =
    walk hosts (steps_for (life_of frame)) h (WireIn w frame)
    (run_from (at_inward h (inward_at h.tables (ByWire w))))

abbrev pub outside : List Host → Wire → Frame → FabricFate
outside hosts w frame = from_outside hosts w frame (find (takes w frame) hosts)

-- an event from a port begins at the first host with a tap of it, one from a wire at the first
-- host that takes it
unfoldable pub fabric_fate : List Host → Event → FabricFate
fabric_fate hosts (FromPort port frame) =
    from_tap hosts port frame (find (λ (h : Host). is_some (tap_at h.tables port)) hosts)
fabric_fate hosts (FromWire physical tag frame) =
    if is_unsupported frame then fate_of_run (run_from []) (Dropped Unsupported)
    else outside hosts (record { physical = physical; tag = tag }) frame
