-- Hosts, what is sought among them, and where an event is, as code has them.
use Rattle.std.specs.Prelude.{ℕ, suc, [], ◌&&◌, ◌≡◌, ◌<◌, Bool, List, Option, Some, None, find, is_some, length, not, option_copied, slice_get, true}
use Rattle.std.specs.Str.{bytes_eq}
use Rattle.net_addr.specs.Words.{Text}
use Rattle.api_types.specs.Ident.{Ident}
use Rattle.host_plane.specs.Views.{view_of_step}
use Rattle.plane_types.specs.Fabric.{FabricFate, Going, Run as TheRun, at_inward, at_tap, fate_of_run, steps_for, takes}
use Rattle.plane_types.specs.Hosts.{Host, is_named}
use Rattle.plane_types.specs.Meaning.{life_of}
use Rattle.plane_types.specs.Places.{End, Next, Place, Step, TapIn, ToTunnel, ToWire, WireIn}
use Rattle.plane_types.specs.TableStep.{inward_at, tap_at}
use Rattle.plane_types.specs.Verdicts.{made_entries, trail_items}
use Rattle.plane_types.specs.declared.event.Event.{Event}
use Rattle.plane_types.specs.declared.event.Event.TheVariants.{FromPort, FromWire}
use Rattle.plane_types.specs.declared.table.Carrier.TheVariants.{Wire as ByWire}
use Rattle.plane_types.specs.declared.verdict.DropCause.TheVariants.{Unknown}
use Rattle.plane_types.specs.declared.verdict.Outcome.{Outcome}
use Rattle.plane_types.specs.declared.verdict.Outcome.TheVariants.{Dropped}
use Rattle.fabric_run.specs.declared.fleet.HostAt.{HostAt}
use Rattle.fabric_run.specs.declared.run.Run.{Run}
use Rattle.fabric_run.specs.declared.taker.Sought.{Sought}
use Rattle.fabric_run.specs.declared.taker.Sought.TheVariants.{Named, Taker, WithTap}
use Rattle.fabric_run.specs.declared.position.Position.{Position}

abbrev pub view_of_host : HostAt → Host
view_of_host h = record {
  name = h.name.now;
  tables = h.tables.now.lists;
  entries = h.entries.now.items;
}

-- any host, or one with another name
abbrev pub is_other_than : Option Text → Host → Bool
is_other_than None h = true
is_other_than (Some name) h = not (bytes_eq h.name name)

abbrev pub is_sought_in : Sought → Host → Bool
is_sought_in (Named name) h = is_named name.now h
is_sought_in (WithTap port) h = is_some (tap_at h.tables port)
is_sought_in (Taker but physical tag frame) h =
    is_other_than (option_copied but) h
    && takes (record { physical = physical.now; tag = tag }) frame h

-- the place of the first host that passes a test
abbrev pub IsFirst : (Host → Bool) → List Host → Option ℕ → Type 0
IsFirst test hosts None = find test hosts ≡ None
IsFirst test hosts (Some at) = (at < length hosts) × (slice_get hosts at ≡ find test hosts)

-- what code tells of a run is what the definition does
pub record Tells (hosts : List Host) (run : Run) (r : TheRun) : Type 0 where
  pub path : run.path ≡ r.path
  pub fresh : run.fresh.items ≡ r.fresh
  pub made : run.made ≡ made_entries hosts r.fresh r.makers
  pub makers : length r.makers ≡ length r.fresh
  pub trail : run.trail ≡ trail_items r.trail

abbrev pub gone_to : Going → Place → TheRun → Option Host → FabricFate
gone_to on place r None = fate_of_run r (Dropped Unknown)
gone_to on place r (Some h) = on h place r

abbrev pub step_fate : List Host → Going → ℕ → TheRun → Step → FabricFate
step_fate hosts on at r (Next place) = gone_to on place r (slice_get hosts at)
step_fate hosts on at r (End o way) = fate_of_run r o
step_fate hosts on at r (ToTunnel name number frame) = fate_of_run r (Dropped Unknown)
step_fate hosts on at r (ToWire w n toward frame) = fate_of_run r (Dropped Unknown)

-- what a position leads to
abbrev pub position_fate : List Host → Going → Position → TheRun → FabricFate
position_fate hosts on t r = step_fate hosts on t.at r (view_of_step t.step)

-- at a place there is a host
abbrev pub is_within : List Host → ℕ → Step → Type 0
is_within hosts at (Next place) = at < length hosts
is_within hosts at (End o way) = Unit {0}
is_within hosts at (ToTunnel name number frame) = Unit {0}
is_within hosts at (ToWire w n toward frame) = Unit {0}

abbrev pub IsWithin : List Host → Position → Type 0
IsWithin hosts t = is_within hosts t.at (view_of_step t.step)

-- from a run that is told on, this fate is that of the rest
pub record Walks (hosts : List Host) (run : Run) (v : FabricFate) (rest : TheRun → FabricFate)
    : Type 0 where
  pub next : TheRun
  pub told : Tells hosts run next
  pub same : v ≡ rest next

-- how an event ends that has no look-up left
abbrev pub ended_with : Step → Outcome
ended_with (End o way) = o
ended_with (Next place) = Dropped Unknown
ended_with (ToTunnel name number frame) = Dropped Unknown
ended_with (ToWire w n toward frame) = Dropped Unknown

abbrev pub ended_by : Position → Outcome
ended_by t = ended_with (view_of_step t.step)

-- the fate that code tells
pub record IsFate (hosts : List Host) (position : Position) (run : Run) (v : FabricFate)
    : Type 0 where
  pub ended : ended_by position ≡ v.outcome
  pub told : Tells hosts run v.run

-- how many look-ups an event may have
abbrev pub looks_of : Event → ℕ
looks_of (FromPort port frame) = suc (steps_for (life_of frame))
looks_of (FromWire physical tag frame) = steps_for (life_of frame)

-- the network on which an event begins
abbrev pub path_from : Step → Option Host → List Ident
path_from (Next (TapIn port frame)) (Some h) = at_tap h (tap_at h.tables port)
path_from (Next (WireIn w frame)) (Some h) = at_inward h (inward_at h.tables (ByWire w))
path_from step o = []

abbrev pub start_path : List Host → Position → List Ident
start_path hosts t = path_from (view_of_step t.step) (slice_get hosts t.at)
