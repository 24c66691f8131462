-- Verdicts as they are told, of one event and of a list of events.
use Rattle.std.specs.Prelude.{ℕ, zero, suc, ◌==◌, List, [], ◌∷◌, ◌++◌, map, Option, Some, None, option_map, if◌then◌else◌}
use Rattle.std.specs.List.{filter_map}
use Rattle.std.specs.Option.{option_eq}
use Rattle.net_addr.specs.Words.{Text}
use Rattle.api_types.specs.RowLists.{RowLists}
use Rattle.plane_types.specs.Fabric.{FabricFate, fabric_fate}
use Rattle.plane_types.specs.Hosts.{Host, is_named}
use Rattle.plane_types.specs.Meaning.{Fate, rows_fate}
use Rattle.plane_types.specs.declared.entry.Entry.{Entry}
use Rattle.plane_types.specs.declared.event.Event.{Event}
use Rattle.plane_types.specs.declared.verdict.Made.{Made}
use Rattle.plane_types.specs.declared.verdict.TrailItem.{TrailItem}
use Rattle.plane_types.specs.declared.verdict.Verdict.{Verdict as ToldVerdict}

-- by the rows: there are no hosts to speak of, so no entry names its maker and the trail is empty
abbrev pub of_nobody : Entry → Made
of_nobody e = record { entry = e; host = None }

abbrev pub verdict_of_fate : Fate → ToldVerdict
verdict_of_fate f = record {
  outcome = f.outcome;
  path = f.path;
  fresh = map of_nobody f.fresh;
  trail = [];
}

abbrev pub rows_verdict : RowLists → List Entry → Event → ToldVerdict
rows_verdict rows entries event = verdict_of_fate (rows_fate rows entries event)

-- the entries that an event made
abbrev pub entries_made : List Made → List Entry
entries_made fresh = map (λ (m : Made). m.entry) fresh

-- events one after the other: each sees the entries that the earlier ones made
unfoldable pub rows_verdicts : RowLists → List Entry → List Event → List ToldVerdict
rows_verdicts rows entries [] = []
rows_verdicts rows entries (e ∷ events) =
    rows_verdict rows entries e
    ∷ rows_verdicts rows (entries ++ entries_made (rows_verdict rows entries e).fresh) events

-- by the hosts' tables: each entry with the place of its maker among the hosts
abbrev pub index_among : Text → List Host → Option ℕ
index_among name [] = None
index_among name (h ∷ hosts) =
    if is_named name h then Some zero else option_map suc (index_among name hosts)

abbrev pub made_entries : List Host → List Entry → List Text → List Made
made_entries hosts [] names = []
made_entries hosts (e ∷ es) [] = of_nobody e ∷ made_entries hosts es []
made_entries hosts (e ∷ es) (name ∷ names) =
    record { entry = e; host = index_among name hosts } ∷ made_entries hosts es names

abbrev pub trail_items : List (Text × ℕ) → List TrailItem
trail_items trail = map (λ (x : Text × ℕ). record { host = x.0; tag = x.1 }) trail

abbrev pub verdict_of_run : List Host → FabricFate → ToldVerdict
verdict_of_run hosts f = record {
  outcome = f.outcome;
  path = f.run.path;
  fresh = made_entries hosts f.run.fresh f.run.makers;
  trail = trail_items f.run.trail;
}

abbrev pub fabric_verdict : List Host → Event → ToldVerdict
fabric_verdict hosts event = verdict_of_run hosts (fabric_fate hosts event)

-- a verdict, the hosts left aside
abbrev pub without_hosts : ToldVerdict → ToldVerdict
without_hosts v = record {
  outcome = v.outcome;
  path = v.path;
  fresh = map of_nobody (entries_made v.fresh);
  trail = [];
}

-- what the host at a place made
abbrev pub made_at : ℕ → Made → Option Entry
made_at place m = if option_eq (λ a b. a == b) m.host (Some place) then Some m.entry else None

-- each entry is added at the host that made it, places counted from the first of these
abbrev pub with_made_from : ℕ → List Host → List Made → List Host
with_made_from place [] fresh = []
with_made_from place (h ∷ hosts) fresh =
    record h { entries = h.entries ++ filter_map (made_at place) fresh }
    ∷ with_made_from (suc place) hosts fresh

abbrev pub with_made : List Host → List Made → List Host
with_made hosts fresh = with_made_from 0 hosts fresh

abbrev pub hosts_after : List Host → Event → List Host
hosts_after hosts event = with_made hosts (fabric_verdict hosts event).fresh

unfoldable pub fabric_verdicts : List Host → List Event → List ToldVerdict
fabric_verdicts hosts [] = []
fabric_verdicts hosts (e ∷ events) =
    fabric_verdict hosts e ∷ fabric_verdicts (hosts_after hosts e) events

-- the hosts after the events
unfoldable pub hosts_after_all : List Host → List Event → List Host
hosts_after_all hosts [] = hosts
hosts_after_all hosts (e ∷ events) = hosts_after_all (hosts_after hosts e) events
