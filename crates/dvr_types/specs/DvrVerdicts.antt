-- What is told of events at hosts that have copies of routers, of one event and of a list of
-- events: by the hosts, and by the rows alone.
use Rattle.api_types.specs.RowLists.{RowLists}
use Rattle.dvr_types.specs.DvrFabric.{DvrFate, DvrHost, DvrRun, dvr_fate}
use Rattle.dvr_types.specs.Handlers.{handlers}
use Rattle.dvr_types.specs.declared.verdict.DvrVerdict.{DvrVerdict}
use Rattle.net_addr.specs.Words.{Text}
use Rattle.plane_types.specs.Hosts.{Host, all_entries}
use Rattle.plane_types.specs.Meaning.{Fate, rows_fate}
use Rattle.plane_types.specs.Verdicts.{made_entries}
use Rattle.plane_types.specs.declared.entry.Entry.{Entry}
use Rattle.plane_types.specs.declared.event.Event.{Event}
use Rattle.std.specs.Prelude.{List, [], if◌then◌else◌, map, ◌++◌, ◌∷◌}
use Rattle.std.specs.Str.{bytes_eq}

-- the hosts without their copies, the names and entries of all
abbrev pub plain_hosts : List DvrHost → List Host
plain_hosts hosts = map (λ (d : DvrHost). d.host) hosts

abbrev pub names_of_hosts : List DvrHost → List Text
names_of_hosts hosts = map (λ (d : DvrHost). d.host.name) hosts

abbrev pub entries_of_hosts : List DvrHost → List Entry
entries_of_hosts hosts = all_entries (plain_hosts hosts)

-- a verdict: each entry with the place of its maker among the hosts, and no trail
abbrev pub verdict_of_dvr : List DvrHost → DvrFate → DvrVerdict
verdict_of_dvr hosts f = record {
  verdict = record {
    outcome = f.outcome;
    path = f.run.run.path;
    fresh = made_entries (plain_hosts hosts) f.run.run.fresh f.run.run.makers;
    trail = [];
  };
  hosts = f.run.hosts;
}

abbrev pub dvr_verdict : List DvrHost → Event → DvrVerdict
dvr_verdict hosts event = verdict_of_dvr hosts (dvr_fate hosts event)

-- what an event means: its fate, and the hosts that handled it; the makers of entries are left
-- aside
pub record DvrMeaning : Type 0 where
  pub fate : Fate
  pub hosts : List Text

abbrev pub dvr_meant : DvrFate → DvrMeaning
dvr_meant f = record {
  fate = record { outcome = f.outcome; path = f.run.run.path; fresh = f.run.run.fresh };
  hosts = f.run.hosts;
}

abbrev pub dvr_meaning : RowLists → List Entry → List Text → Event → DvrMeaning
dvr_meaning rows entries names event = record {
  fate = rows_fate rows entries event;
  hosts = handlers rows entries names event;
}

-- the hosts after an event: each keeps the entries that it made
abbrev pub made_at_host : Text → List Entry → List Text → List Entry
made_at_host name [] makers = []
made_at_host name (e ∷ es) [] = []
made_at_host name (e ∷ es) (m ∷ ms) =
    if bytes_eq name m then e ∷ made_at_host name es ms else made_at_host name es ms

abbrev pub with_made_entries : DvrRun → DvrHost → DvrHost
with_made_entries run d = record {
  host = record (d.host) {
    entries = d.host.entries ++ made_at_host d.host.name run.run.fresh run.run.makers;
  };
  copies = d.copies;
}

abbrev pub dvr_hosts_after : List DvrHost → Event → List DvrHost
dvr_hosts_after hosts event = map (with_made_entries (dvr_fate hosts event).run) hosts

-- events one after the other
unfoldable pub dvr_meants : List DvrHost → List Event → List DvrMeaning
dvr_meants hosts [] = []
dvr_meants hosts (e ∷ events) =
    dvr_meant (dvr_fate hosts e) ∷ dvr_meants (dvr_hosts_after hosts e) events

unfoldable pub dvr_meanings : RowLists → List Entry → List Text → List Event → List DvrMeaning
dvr_meanings rows entries names [] = []
dvr_meanings rows entries names (e ∷ events) =
    dvr_meaning rows entries names e
    ∷ dvr_meanings rows (entries ++ (rows_fate rows entries e).fresh) names events
