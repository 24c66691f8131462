-- Where an event begins, as code has it, and what comes of it.
use Rattle.api_types.specs.Ident.{Ident}
use Rattle.dvr_fabric.specs.declared.begin.Start.{Start}
use Rattle.dvr_fabric.specs.declared.begin.Start.TheVariants.{At as StartAt, Dropped as StartDropped}
use Rattle.dvr_types.specs.DvrFabric.{At, DvrFate, DvrHost, dvr_walk, fate_of_dvr, run_at_first, run_nowhere}
use Rattle.plane_types.specs.Fabric.{at_inward, at_tap, steps_for}
use Rattle.plane_types.specs.Hosts.{Host}
use Rattle.plane_types.specs.Meaning.{life_of}
use Rattle.plane_types.specs.Places.{Place, TapIn, WireIn}
use Rattle.plane_types.specs.TableStep.{inward_at, tap_at}
use Rattle.plane_types.specs.declared.event.Event.{Event}
use Rattle.plane_types.specs.declared.event.Event.TheVariants.{FromPort, FromWire}
use Rattle.plane_types.specs.declared.table.Carrier.TheVariants.{Wire as ByWire}
use Rattle.plane_types.specs.declared.verdict.DropCause.TheVariants.{Unknown}
use Rattle.plane_types.specs.declared.verdict.Outcome.TheVariants.{Dropped}
use Rattle.std.specs.Prelude.{List, None, Option, Some, length, slice_get, suc, ℕ, ◌<◌}

-- how many steps an event may have
abbrev pub steps_of : Event → ℕ
steps_of (FromPort port frame) = suc (steps_for (life_of frame))
steps_of (FromWire physical tag frame) = steps_for (life_of frame)

-- its first place at a host, and its first network
abbrev pub first_place : Event → Place
first_place (FromPort port frame) = TapIn port frame
first_place (FromWire physical tag frame) = WireIn (record { physical = physical; tag = tag }) frame

abbrev pub first_ids : Host → Event → List Ident
first_ids h (FromPort port frame) = at_tap h (tap_at h.tables port)
first_ids h (FromWire physical tag frame) =
    at_inward h (inward_at h.tables (ByWire (record { physical = physical; tag = tag })))

-- what comes of an event that begins so
abbrev pub fate_begun : List DvrHost → Event → Option DvrHost → DvrFate
fate_begun hosts event None = fate_of_dvr run_nowhere (Dropped Unknown)
fate_begun hosts event (Some d) =
    dvr_walk hosts (steps_of event) d (At (first_place event))
    (run_at_first d (first_ids d.host event))

abbrev pub start_fate : List DvrHost → Event → Start → DvrFate
start_fate hosts event (StartAt at) = fate_begun hosts event (slice_get hosts at)
start_fate hosts event (StartDropped cause) = fate_of_dvr run_nowhere (Dropped cause)

-- where an event begins there is a host
abbrev pub IsStart : List DvrHost → Start → Type 0
IsStart hosts (StartAt at) = at < length hosts
IsStart hosts (StartDropped cause) = Unit {0}
