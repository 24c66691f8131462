-- What a verdict says by the rows alone: the makers of entries left aside.
use Rattle.api_types.specs.RowLists.{RowLists}
use Rattle.api_types.specs.RowsWith.{port_with}
use Rattle.api_types.specs.declared.port.PortRow.{PortRow}
use Rattle.dvr_laws.specs.NearPaths.{is_near_all_way}
use Rattle.dvr_types.specs.DvrFabric.{DvrHost}
use Rattle.dvr_types.specs.DvrVerdicts.{dvr_hosts_after, entries_of_hosts, names_of_hosts}
use Rattle.dvr_types.specs.Handlers.{handlers, once_in_a_row}
use Rattle.dvr_types.specs.declared.verdict.DvrVerdict.{DvrVerdict}
use Rattle.net_addr.specs.Words.{Text}
use Rattle.plane_types.specs.Meaning.{Fate, rows_fates}
use Rattle.plane_types.specs.Verdicts.{rows_verdict, without_hosts}
use Rattle.plane_types.specs.declared.entry.Entry.{Entry}
use Rattle.plane_types.specs.declared.event.Event.{Event}
use Rattle.plane_types.specs.declared.event.Event.TheVariants.{FromPort}
use Rattle.plane_types.specs.declared.frame.Frame.{Frame}
use Rattle.plane_types.specs.declared.verdict.Outcome.TheVariants.{Delivered}
use Rattle.std.specs.Prelude.{List, Some, [], flat_map, true, ◌++◌, ◌∷◌, ◌≡◌}

pub record MeansBy (rows : RowLists) (entries : List Entry) (names : List Text) (event : Event)
    (v : DvrVerdict) : Type 0 where
  pub verdict : without_hosts v.verdict ≡ rows_verdict rows entries event
  pub hosts : v.hosts ≡ handlers rows entries names event

-- at hosts that stand for the rows
abbrev pub Means : RowLists → List DvrHost → Event → DvrVerdict → Type 0
Means rows hosts event v = MeansBy rows (entries_of_hosts hosts) (names_of_hosts hosts) event v

-- after other events, at hosts that held the rows before them
unfoldable pub hosts_after_events : List DvrHost → List Event → List DvrHost
hosts_after_events hosts [] = hosts
hosts_after_events hosts (e ∷ events) = hosts_after_events (dvr_hosts_after hosts e) events

abbrev pub entries_after : RowLists → List Entry → List Event → List Entry
entries_after rows entries events =
    entries ++ flat_map (λ (f : Fate). f.fresh) (rows_fates rows entries events)

abbrev pub MeansAfter : RowLists → List DvrHost → List Event → Event → DvrVerdict → Type 0
MeansAfter rows start events event v =
    MeansBy rows (entries_after rows (entries_of_hosts start) events) (names_of_hosts start) event v

-- a frame from one port to another that is near at each router on its way is handled by the hosts
-- of the two ports alone
abbrev pub TwoHosts : RowLists → List DvrHost → Event → DvrVerdict → Type 0
TwoHosts rows hosts event v =
    (s q : PortRow) (frame end : Frame) → event ≡ FromPort s.id frame
    → port_with rows s.id ≡ Some s → port_with rows q.id ≡ Some q
    → is_near_all_way rows (entries_of_hosts hosts) s frame ≡ true
    → v.verdict.outcome ≡ Delivered q.id end
    → v.hosts ≡ once_in_a_row (s.host ∷ q.host ∷ [])
