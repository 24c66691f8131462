-- Where an event is, as code has it, and what a run has come to.
use Rattle.api_types.specs.Ident.{Ident}
use Rattle.dvr_fabric.specs.declared.advance.Stepped.{Stepped}
use Rattle.dvr_fabric.specs.declared.path.Passed.{Passed}
use Rattle.dvr_fabric.specs.declared.position.Next.{Next as TheirNext}
use Rattle.dvr_fabric.specs.declared.position.Next.TheVariants.{Step as NextStep, Toward as NextToward}
use Rattle.dvr_fabric.specs.declared.position.Position.{Position}
use Rattle.dvr_fabric.specs.declared.run.DvrRun.{DvrRun as TheirRun}
use Rattle.dvr_types.specs.CopySteps.{CopyEnds, CopySends, CopyStep}
use Rattle.dvr_types.specs.DvrFabric.{At, DvrFate, DvrGoing, DvrHost, DvrRun, On, dvr_walk, fate_of_dvr, next_of_tables, run_at}
use Rattle.dvr_types.specs.DvrVerdicts.{plain_hosts}
use Rattle.host_plane.specs.Views.{view_of_step}
use Rattle.plane_types.specs.Parts.{packet_of}
use Rattle.plane_types.specs.Places.{End, Next, Step, ToTunnel, ToWire}
use Rattle.plane_types.specs.Verdicts.{made_entries}
use Rattle.plane_types.specs.declared.entry.Entry.{Entry}
use Rattle.plane_types.specs.declared.verdict.DropCause.TheVariants.{Unknown}
use Rattle.plane_types.specs.declared.verdict.Outcome.{Outcome}
use Rattle.plane_types.specs.declared.verdict.Outcome.TheVariants.{Dropped}
use Rattle.std.specs.Prelude.{List, None, Option, Some, length, map, option_to_list, slice_get, suc, ℕ, ◌++◌, ◌≡◌, ◌≤◌}

-- what code tells of a run is what the definition does
pub record Tells (hosts : List DvrHost) (run : TheirRun) (r : DvrRun) : Type 0 where
  pub path : run.path ≡ r.run.path
  pub fresh : run.fresh.items ≡ r.run.fresh
  pub made : run.made ≡ made_entries (plain_hosts hosts) r.run.fresh r.run.makers
  pub makers : length r.run.makers ≡ length r.run.fresh
  pub passed : run.hosts ≡ r.hosts

-- what comes of an event at a host, by its next step
abbrev pub step_fate : DvrGoing → DvrHost → DvrRun → Step → DvrFate
step_fate on d r (Next place) = on d (At place) r
step_fate on d r (End o way) = fate_of_dvr r o
step_fate on d r (ToTunnel name number frame) = fate_of_dvr r (Dropped Unknown)
step_fate on d r (ToWire w n toward frame) = fate_of_dvr r (Dropped Unknown)

abbrev pub next_fate : DvrGoing → DvrHost → DvrRun → TheirNext → DvrFate
next_fate on d r (NextStep step) = step_fate on d r (view_of_step step)
next_fate on d r (NextToward network to packet) = on d (On network to.now (packet_of packet)) r

abbrev pub fate_there : DvrGoing → DvrRun → TheirNext → Option DvrHost → DvrFate
fate_there on r next None = fate_of_dvr r (Dropped Unknown)
fate_there on r next (Some d) = next_fate on d r next

abbrev pub position_fate : List DvrHost → DvrGoing → Position → DvrRun → DvrFate
position_fate hosts on p r = fate_there on r p.next (slice_get hosts p.at)

-- .. and by a copy's step, once what was passed is told
abbrev pub fate_of_copy : DvrGoing → DvrHost → DvrRun → CopyStep → DvrFate
fate_of_copy on d r (CopyEnds o way) = fate_of_dvr r o
fate_of_copy on d r (CopySends n to p) = on d (On n to p) r

-- the run once the event is at the host of a position
abbrev pub run_with : DvrHost → DvrRun → Option DvrHost → DvrRun
run_with d r None = r
run_with d r (Some x) = run_at d x r

abbrev pub run_there : List DvrHost → DvrHost → Position → DvrRun → DvrRun
run_there hosts d p r = run_with d r (slice_get hosts p.at)

-- where a look-up leads that leaves the host; what comes of another one comes of it here
abbrev pub Crosses : List DvrHost → DvrHost → Step → Option Position → Type 0
Crosses hosts d step None =
    (on : DvrGoing) (r : DvrRun) → step_fate on d r step ≡ next_of_tables hosts on d r step
Crosses hosts d step (Some p) =
    (on : DvrGoing) (r : DvrRun)
    → position_fate hosts on p (run_there hosts d p r) ≡ next_of_tables hosts on d r step

-- what a step adds to a run before the event is at its next host: these to the path, and one entry
-- at most, so that the new entries of the event are these
abbrev pub ids_of : Passed → List Ident
ids_of p = option_to_list p.router ++ option_to_list p.network

pub record Adds (d : DvrHost) (ids : List Ident) (new : List Entry) (r next : DvrRun)
    : Type 0 where
  pub made : List Entry
  pub few : length made ≤ 1
  pub path : next.run.path ≡ r.run.path ++ ids
  pub fresh : next.run.fresh ≡ r.run.fresh ++ made
  pub makers : next.run.makers ≡ r.run.makers ++ map (λ (e : Entry). d.host.name) made
  pub hosts : next.hosts ≡ r.hosts
  pub told : new ≡ next.run.fresh

-- this fate is that of the next position, from a run to which the step added what it adds
pub record Goes (hosts : List DvrHost) (new : List Entry) (d : DvrHost) (s : Stepped)
    (on : DvrGoing) (r : DvrRun) (v : DvrFate) : Type 0 where
  pub next : DvrRun
  pub adds : Adds d (ids_of s.passed) new r next
  pub same : v ≡ position_fate hosts on s.next (run_there hosts d s.next next)

-- a step of a host leads there from all runs with the old entries
abbrev pub Leads : List DvrHost → List Entry → List Entry → DvrHost
    → (DvrGoing → DvrRun → DvrFate) → Stepped → Type 0
Leads hosts old new d fate s =
    (on : DvrGoing) (r : DvrRun) → r.run.fresh ≡ old → Goes hosts new d s on r (fate on r)

-- how an event ends that has no step left
abbrev pub end_of_step : Step → Outcome
end_of_step (End o way) = o
end_of_step (Next place) = Dropped Unknown
end_of_step (ToTunnel name number frame) = Dropped Unknown
end_of_step (ToWire w n toward frame) = Dropped Unknown

abbrev pub end_of_next : TheirNext → Outcome
end_of_next (NextStep step) = end_of_step (view_of_step step)
end_of_next (NextToward network to packet) = Dropped Unknown

-- a step from what comes next leads to a position, or there is no step at an end
abbrev pub step_of_walk : List DvrHost → DvrHost → TheirNext → ℕ → DvrRun → DvrFate
step_of_walk hosts d next many r = next_fate (dvr_walk hosts (suc many)) d r next

abbrev pub EndsAll : List DvrHost → DvrHost → TheirNext → Type 0
EndsAll hosts d next =
    (on : DvrGoing) (r : DvrRun) → next_fate on d r next ≡ fate_of_dvr r (end_of_next next)

abbrev pub LeadsOn : List DvrHost → List Entry → List Entry → DvrHost → TheirNext
    → Option Stepped → Type 0
LeadsOn hosts old new d next None = EndsAll hosts d next × (new ≡ old)
LeadsOn hosts old new d next (Some s) =
    (many : ℕ) (r : DvrRun) → r.run.fresh ≡ old
    → Goes hosts new d s (dvr_walk hosts many) r (step_of_walk hosts d next many r)

-- from a run that is told on, this fate is that of the rest
pub record Walks (hosts : List DvrHost) (run : TheirRun) (v : DvrFate) (rest : DvrRun → DvrFate)
    : Type 0 where
  pub next : DvrRun
  pub told : Tells hosts run next
  pub same : v ≡ rest next

-- the fate that code tells
pub record IsFate (hosts : List DvrHost) (position : Position) (run : TheirRun) (v : DvrFate)
    : Type 0 where
  pub ended : end_of_next position.next ≡ v.outcome
  pub told : Tells hosts run v.run
