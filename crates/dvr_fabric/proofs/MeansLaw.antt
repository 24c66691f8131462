-- A verdict that is the run's is what the rows say.
use Rattle.std.proofs.Common.{Bool, List, None, Option, Some, [], ap, map, refl, sym, ℕ, ◌++◌, ◌∙◌, ◌∷◌, ◌≡◌}
use Rattle.plane_types.specs.declared.verdict.Verdict.{Verdict}
use Rattle.std.specs.Prelude.{flat_map}
use Rattle.std.proofs.lemmas.Option.{same_Some}
use Rattle.std.proofs.lemmas.List.{append-nil, append_assoc}
use Rattle.api_types.specs.RowLists.{RowLists}
use Rattle.api_types.specs.declared.network.Segment.{Segment}
use Rattle.dvr_fabric.specs.Meaning.{Means, MeansAfter, MeansBy, TwoHosts, entries_after, hosts_after_events}
use Rattle.dvr_laws.proofs.DvrList.{lists-mean-rows-dvr}
use Rattle.dvr_laws.proofs.DvrTheorem.{tables-mean-rows-for}
use Rattle.dvr_laws.proofs.NearPathsLaw.{two-hosts}
use Rattle.dvr_laws.specs.Held.{HoldCopies}
use Rattle.dvr_types.specs.DvrFabric.{DvrFate, DvrHost, dvr_fate}
use Rattle.dvr_types.specs.DvrVerdicts.{DvrMeaning, dvr_hosts_after, dvr_meaning, dvr_meanings, dvr_meant, dvr_meants, dvr_verdict, entries_of_hosts, names_of_hosts, plain_hosts, verdict_of_dvr}
use Rattle.dvr_types.specs.StandFor.{StandFor}
use Rattle.plane_types.specs.Hosts.{Host}
use Rattle.plane_types.specs.Meaning.{Fate, rows_fate, rows_fates}
use Rattle.plane_types.specs.Verdicts.{entries_made, made_entries, of_nobody, verdict_of_fate, without_hosts}
use Rattle.plane_types.specs.declared.entry.Entry.{Entry}
use Rattle.plane_types.specs.declared.event.Event.{Event}
use Rattle.plane_types.specs.declared.event.Event.TheVariants.{FromPort}

-- makers left aside, entries are the entries
entries-told : (hosts : List Host) (es : List Entry) (names : List (List ℕ)) → entries_made (made_entries hosts es names) ≡ es
entries-told hosts [] names = refl
entries-told hosts (e ∷ es) [] = ap (λ xs. e ∷ xs) (entries-told hosts es [])
entries-told hosts (e ∷ es) (name ∷ names) = ap (λ xs. e ∷ xs) (entries-told hosts es names)

abbrev verdict_with : DvrFate → List Entry → Verdict
verdict_with f es = record { outcome = f.outcome; path = f.run.run.path; fresh = map of_nobody es; trail = [] }

fate-told : (hosts : List DvrHost) (f : DvrFate) → without_hosts (verdict_of_dvr hosts f).verdict ≡ verdict_of_fate (dvr_meant f).fate
fate-told hosts f = ap (verdict_with f) (entries-told (plain_hosts hosts) f.run.run.fresh f.run.run.makers)

-- the run's verdict means what its fate means
pub means-by : (rows : RowLists) (hosts : List DvrHost) (entries : List Entry) (names : List (List ℕ)) (event : Event) → dvr_meant (dvr_fate hosts event) ≡ dvr_meaning rows entries names event → MeansBy rows entries names event (dvr_verdict hosts event)
means-by rows hosts entries names event same = record {
  verdict = fate-told hosts (dvr_fate hosts event) ∙ ap (λ (m : DvrMeaning). verdict_of_fate m.fate) same;
  hosts = ap (λ (m : DvrMeaning). m.hosts) same;
}

pub means : (rows : RowLists) (hosts : List DvrHost) → StandFor rows hosts → (event : Event) → Means rows hosts event (dvr_verdict hosts event)
means rows hosts stand event = means-by rows hosts (entries_of_hosts hosts) (names_of_hosts hosts) event (tables-mean-rows-for rows hosts stand event)

-- after other events
meants-end : (hosts : List DvrHost) (events : List Event) (e : Event) → dvr_meants hosts (events ++ e ∷ []) ≡ dvr_meants hosts events ++ dvr_meant (dvr_fate (hosts_after_events hosts events) e) ∷ []
unfolding dvr_meants hosts_after_events
meants-end hosts [] e = refl
meants-end hosts (x ∷ events) e = ap (λ ms. dvr_meant (dvr_fate hosts x) ∷ ms) (meants-end (dvr_hosts_after hosts x) events e)

more : (rows : RowLists) (es : List Entry) (x : Event) (events : List Event) → entries_after rows (es ++ (rows_fate rows es x).fresh) events ≡ entries_after rows es (x ∷ events)
unfolding rows_fates
more rows es x events = append_assoc es (rows_fate rows es x).fresh (flat_map (λ (f : Fate). f.fresh) (rows_fates rows (es ++ (rows_fate rows es x).fresh) events))

meanings-end : (rows : RowLists) (names : List (List ℕ)) (es : List Entry) (events : List Event) (e : Event) → dvr_meanings rows es names (events ++ e ∷ []) ≡ dvr_meanings rows es names events ++ dvr_meaning rows (entries_after rows es events) names e ∷ []
unfolding dvr_meanings rows_fates
meanings-end rows names es [] e = ap (λ xs. dvr_meaning rows xs names e ∷ []) (sym (append-nil es))
meanings-end rows names es (x ∷ events) e =
    ap (λ ms. dvr_meaning rows es names x ∷ ms) (meanings-end rows names (es ++ (rows_fate rows es x).fresh) events e)
    ∙ ap (λ xs. dvr_meaning rows es names x ∷ dvr_meanings rows (es ++ (rows_fate rows es x).fresh) names events ++ dvr_meaning rows xs names e ∷ []) (more rows es x events)

abbrev first_of : {X : Type 0} → List X → Option X
first_of [] = None
first_of (x ∷ xs) = Some x

abbrev rest_of : {X : Type 0} → List X → List X
rest_of [] = []
rest_of (x ∷ xs) = xs

last-same : {X : Type 0} (xs : List X) (a b : X) → xs ++ a ∷ [] ≡ xs ++ b ∷ [] → a ≡ b
last-same [] a b e = same_Some a b (ap first_of e)
last-same (x ∷ xs) a b e = last-same xs a b (ap rest_of e)

pub means-after : (carry : List ℕ → Segment → Bool) (rows : RowLists) (start : List DvrHost) (events : List Event) → HoldCopies carry rows start → (hosts : List DvrHost) → hosts ≡ hosts_after_events start events → (event : Event) → MeansAfter rows start events event (dvr_verdict hosts event)
means-after carry rows start events held hosts is event =
    let all : dvr_meants start events ++ dvr_meant (dvr_fate (hosts_after_events start events) event) ∷ [] ≡ dvr_meants start events ++ dvr_meaning rows (entries_after rows (entries_of_hosts start) events) (names_of_hosts start) event ∷ [] =
    sym (meants-end start events event) ∙ lists-mean-rows-dvr carry rows start held (events ++ event ∷ []) ∙ meanings-end rows (names_of_hosts start) (entries_of_hosts start) events event
    ∙ ap (λ ms. ms ++ dvr_meaning rows (entries_after rows (entries_of_hosts start) events) (names_of_hosts start) event ∷ []) (sym (lists-mean-rows-dvr carry rows start held events)) in
    means-by rows hosts (entries_after rows (entries_of_hosts start) events) (names_of_hosts start) event
    (ap (λ hs. dvr_meant (dvr_fate hs event)) is ∙ last-same (dvr_meants start events) (dvr_meant (dvr_fate (hosts_after_events start events) event)) (dvr_meaning rows (entries_after rows (entries_of_hosts start) events) (names_of_hosts start) event) all)

-- near all the way
pub two-handle : (rows : RowLists) (hosts : List DvrHost) → StandFor rows hosts → (event : Event) → TwoHosts rows hosts event (dvr_verdict hosts event)
two-handle rows hosts stand event = λ s q frame end from sender receiver near delivered.
    let m : dvr_meant (dvr_fate hosts event) ≡ dvr_meaning rows (entries_of_hosts hosts) (names_of_hosts hosts) (FromPort s.id frame) = tables-mean-rows-for rows hosts stand event ∙ ap (dvr_meaning rows (entries_of_hosts hosts) (names_of_hosts hosts)) from in
    ap (λ (w : DvrMeaning). w.hosts) m
    ∙ two-hosts rows stand.consistent (entries_of_hosts hosts) (names_of_hosts hosts) s q frame end sender receiver near (sym (ap (λ (w : DvrMeaning). w.fate.outcome) m) ∙ delivered)
