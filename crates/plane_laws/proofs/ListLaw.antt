-- The law for lists of events, entries kept at the hosts that made them.
use Rattle.std.proofs.Common.{◌≡◌, ℕ, zero, suc, List, [], ◌∷◌, ◌++◌, map, Bool, true, false, not, Option, Some, None, refl, ap, sym, subst, ◌∙◌}
use Rattle.std.specs.Prelude.{find, option_map, ◌&&◌, ◌||◌, ◌==◌, if◌then◌else◌, is_some}
use Rattle.std.specs.List.{list_any, zip}
use Rattle.std.specs.Str.{bytes_eq}
use Rattle.std.proofs.lemmas.Bool.{and_parts}
use Rattle.std.proofs.lemmas.List.{append-nil}
use Rattle.std.proofs.lemmas.List.Folds.{list_any-append}
use Rattle.api_types.proofs.ListLemmas.{any-weaker, none_some, or_false, some_equal}
use Rattle.api_types.proofs.NameLemmas.{ident_same, bytes_same}
use Rattle.plane_laws.proofs.ListLemmas.{find-passes, find-each, find-some, any-only, find-map, AtMostOne-map, AllOf-more}
use Rattle.plane_laws.proofs.Counted.{all-of}
use Rattle.plane_laws.proofs.CrossingTop.{by-tables}
use Rattle.plane_laws.proofs.FactsHold.{frame-facts}
use Rattle.plane_laws.proofs.SyncedHold.{synced-facts, entry-stands}
use Rattle.plane_laws.proofs.EntriesLaw.{no-host, one-host, uses-append}
use Rattle.plane_laws.proofs.SameEntries.{SameEntries, verdict-same}
use Rattle.plane_laws.proofs.Theorem.{fates-same, tables-mean-rows}
use Rattle.plane_laws.proofs.PlacedLaw.{made_by, with_made, AllMade, IsMade, RunPlaced, fate-placed}
use Rattle.plane_laws.proofs.KeptLaw.{after-is, stay-synced, AllOf-map}
use Rattle.api_types.specs.Consistent.Groups.{is_direction}
use Rattle.api_types.specs.Ident.{Ident}
use Rattle.api_types.specs.Lists.{Each}
use Rattle.api_types.specs.Owners.{is_router_port}
use Rattle.api_types.specs.RowLists.{RowLists}
use Rattle.api_types.specs.Table.{ident_eq}
use Rattle.api_types.specs.declared.group.Direction.{Direction}
use Rattle.api_types.specs.declared.network.Segment.{Segment}
use Rattle.api_types.specs.declared.port.PortRow.{PortRow}
use Rattle.api_types.specs.declared.router.RouterRow.{RouterRow}
use Rattle.plane_types.specs.Crossing.{CrossesAtRouters}
use Rattle.plane_types.specs.Entries.{has_flow, is_flow}
use Rattle.plane_types.specs.Fabric.{fabric_fate}
use Rattle.plane_types.specs.Hosts.{Host, all_entries, is_named}
use Rattle.plane_types.specs.Keys.{key_eq}
use Rattle.api_types.specs.Live.{is_live, is_at, is_here}
use Rattle.plane_types.specs.Meaning.{Fate, rows_fate}
use Rattle.plane_types.specs.Attached.{IsAttached}
use Rattle.plane_types.specs.Realises.{Realises}
use Rattle.plane_types.specs.Routing.{Use, uses_at}
use Rattle.plane_types.specs.TableRows.{is_on_host, is_host_of, is_tap}
use Rattle.plane_types.specs.Verdicts.{entries_made, fabric_verdict, fabric_verdicts, hosts_after, hosts_after_all, of_nobody, rows_verdict, rows_verdicts, verdict_of_fate, without_hosts}
use Rattle.plane_types.specs.declared.entry.Entry.{Entry}
use Rattle.plane_types.specs.declared.entry.Entry.TheVariants.{Flow, Snat}
use Rattle.plane_types.specs.declared.event.Event.{Event}
use Rattle.plane_types.specs.declared.frame.Key.{Key}
use Rattle.plane_types.specs.declared.verdict.Verdict.{Verdict as ToldVerdict}
use Rattle.plane_laws.proofs.Facts.{AllOf, AtMostOne, EntriesStand, FrameFacts, SyncedFacts, has_id, is_tap_id, stands_at}
use Rattle.plane_laws.specs.Held.{HoldRows}

AllMade-more : (P Q : Entry → List ℕ → Type 0) (es : List Entry) (ms : List (List ℕ)) → ((e : Entry) (m : List ℕ) → P e m → Q e m) → AllMade P es ms → AllMade Q es ms
AllMade-more P Q [] [] more h = tt
AllMade-more P Q [] (m ∷ ms) more h = h
AllMade-more P Q (e ∷ es) [] more h = h
AllMade-more P Q (e ∷ es) (m ∷ ms) more h = (more e m h.0, AllMade-more P Q es ms more h.1)

-- what is told of entries and joined, as whether a flow is there or which uses a router has, is told of those at one host alone,
-- where all others tell nothing
module _ {M : Type 0} (F : List Entry → M) (op : M → M → M) (e0 : M) (empty : F [] ≡ e0) (joined : (a b : List Entry) → F (a ++ b) ≡ op (F a) (F b)) (left : (x : M) → op e0 x ≡ x) (right : (x : M) → op x e0 ≡ x) (home : List ℕ) where
  nothing-told : (es : List Entry) → AllOf (λ e. F (e ∷ []) ≡ e0) es → F es ≡ e0
  nothing-told [] h = empty
  nothing-told (e ∷ es) h = joined (e ∷ []) es ∙ ap (λ m. op m (F es)) h.0 ∙ left (F es) ∙ nothing-told es h.1

  module _ (fresh : List Entry) (makers : List (List ℕ)) (foreign : AllMade (λ e m. bytes_eq home m ≡ false → F (e ∷ []) ≡ e0) fresh makers) where
    made-there : (es : List Entry) (ms : List (List ℕ)) → AllMade (λ e m. bytes_eq home m ≡ false → F (e ∷ []) ≡ e0) es ms → F es ≡ F (made_by home es ms)
    made-there [] [] h = refl
    made-there [] (m ∷ ms) h = absurd h
    made-there (e ∷ es) [] h = absurd h
    made-there (e ∷ es) (m ∷ ms) h = go (bytes_eq home m) h.0 (made-there es ms h.1)
      where
        go : (b : Bool) → (b ≡ false → F (e ∷ []) ≡ e0) → F es ≡ F (made_by home es ms) → F (e ∷ es) ≡ F (if b then e ∷ made_by home es ms else made_by home es ms)
        go true h rest = joined (e ∷ []) es ∙ ap (op (F (e ∷ []))) rest ∙ sym (joined (e ∷ []) (made_by home es ms))
        go false h rest = joined (e ∷ []) es ∙ ap (λ m. op m (F es)) (h refl) ∙ left (F es) ∙ rest

    made-away : (name : List ℕ) → bytes_eq home name ≡ false → (es : List Entry) (ms : List (List ℕ)) → AllMade (λ e m. bytes_eq home m ≡ false → F (e ∷ []) ≡ e0) es ms → F (made_by name es ms) ≡ e0
    made-away name away [] [] h = empty
    made-away name away [] (m ∷ ms) h = absurd h
    made-away name away (e ∷ es) [] h = absurd h
    made-away name away (e ∷ es) (m ∷ ms) h = go (bytes_eq name m) refl (made-away name away es ms h.1)
      where
        go : (b : Bool) → bytes_eq name m ≡ b → F (made_by name es ms) ≡ e0 → F (if b then e ∷ made_by name es ms else made_by name es ms) ≡ e0
        go true k rest = joined (e ∷ []) (made_by name es ms) ∙ ap (λ m. op m (F (made_by name es ms))) (h.0 (ap (bytes_eq home) (sym (bytes_same name m k)) ∙ away)) ∙ left (F (made_by name es ms)) ∙ rest
        go false k rest = rest

    -- nobody of that name made any
    made-nowhere : (hosts : List Host) → find (is_named home) hosts ≡ None → (es : List Entry) (ms : List (List ℕ)) → AllMade (λ e m. is_some (find (is_named m) hosts) ≡ true) es ms → made_by home es ms ≡ []
    made-nowhere hosts none [] ms h = refl
    made-nowhere hosts none (e ∷ es) [] h = absurd h
    made-nowhere hosts none (e ∷ es) (m ∷ ms) h = go (bytes_eq home m) refl (made-nowhere hosts none es ms h.1)
      where
        go : (b : Bool) → bytes_eq home m ≡ b → made_by home es ms ≡ [] → (if b then e ∷ made_by home es ms else made_by home es ms) ≡ []
        go true k rest = let bad : true ≡ false = sym h.0 ∙ ap (λ x. is_some (find (is_named x) hosts)) (sym (bytes_same home m k)) ∙ ap is_some none in cc
        go false k rest = rest

    kept-same : (hosts : List Host) → ((name : List ℕ) → AtMostOne (is_named name) hosts) → AllOf (λ (x : Host). is_named home x ≡ false → F x.entries ≡ e0) hosts → AllMade (λ e m. is_some (find (is_named m) hosts) ≡ true) fresh makers
        → F (all_entries (map (with_made fresh makers) hosts)) ≡ F (all_entries hosts ++ fresh)
    kept-same hosts names away known = go (find (is_named home) hosts) refl
      where
        there : find (is_named home) (map (with_made fresh makers) hosts) ≡ option_map (with_made fresh makers) (find (is_named home) hosts)
        there = find-map (is_named home) (with_made fresh makers) hosts

        away-too : AllOf (λ (x : Host). is_named home x ≡ false → F x.entries ≡ e0) (map (with_made fresh makers) hosts)
        away-too = AllOf-map (λ (x : Host). is_named home x ≡ false → F x.entries ≡ e0) (with_made fresh makers) hosts
            (AllOf-more (λ (x : Host). is_named home x ≡ false → F x.entries ≡ e0) (λ x. is_named home x ≡ false → F (x.entries ++ made_by x.name fresh makers) ≡ e0) hosts
            (λ x h off. joined x.entries (made_by x.name fresh makers) ∙ (λ j. op (h off j) (made-away x.name off fresh makers foreign j)) ∙ left e0) away)

        go : (o : Option Host) → find (is_named home) hosts ≡ o → F (all_entries (map (with_made fresh makers) hosts)) ≡ F (all_entries hosts ++ fresh)
        go None e =
            no-host F op e0 empty joined left right (is_named home) (map (with_made fresh makers) hosts) (there ∙ ap (option_map (with_made fresh makers)) e) away-too
            ∙ sym (joined (all_entries hosts) fresh ∙ (λ j. op (no-host F op e0 empty joined left right (is_named home) hosts e away j) (F fresh)) ∙ left (F fresh)
            ∙ made-there fresh makers foreign ∙ ap F (made-nowhere hosts e fresh makers known) ∙ empty)
        go (Some h) e =
            one-host F op e0 empty joined left right (is_named home) (map (with_made fresh makers) hosts) (with_made fresh makers h) (AtMostOne-map (is_named home) (with_made fresh makers) hosts (names home)) (there ∙ ap (option_map (with_made fresh makers)) e) away-too
            ∙ joined h.entries (made_by h.name fresh makers)
            ∙ ap (λ n. op (F h.entries) (F (made_by n fresh makers))) (sym (bytes_same home h.name (find-passes (is_named home) hosts h e)))
            ∙ (λ j. op (sym (one-host F op e0 empty joined left right (is_named home) hosts h (names home) e away) j) (sym (made-there fresh makers foreign) j))
            ∙ sym (joined (all_entries hosts) fresh)

abbrev port_home : Option PortRow → List ℕ
port_home None = []
port_home (Some q) = q.host

abbrev host_home : Option (List ℕ) → List ℕ
host_home None = []
host_home (Some m) = m

abbrev router_home : Option RouterRow → List ℕ
router_home None = []
router_home (Some r) = host_home r.host

module _ (rows : RowLists) (good : FrameFacts rows) where
  -- a flow of a port stands at the port's host alone, a translation of a router at the router's
  flow-away : (p : Ident) (d : Direction) (k : Key) (o : Option PortRow) → find (has_id p) rows.ports ≡ o → (name : List ℕ) (e : Entry) → stands_at rows name e ≡ true → bytes_eq (port_home o) name ≡ false → is_flow p d k e ≡ false
  flow-away p d k o found name (Snat r q a b) stood away = refl
  flow-away p d k o found name (Flow port d2 k2) stood away = go (ident_eq p port) refl
    where
      here : (p ≡ port) → list_any (is_tap_id rows name p) rows.ports ≡ true
      here same = subst (λ i. list_any (is_tap_id rows name i) rows.ports ≡ true) (sym same) stood

      by : (x : Option PortRow) → find (has_id p) rows.ports ≡ x → bytes_eq (port_home x) name ≡ false → list_any (is_tap_id rows name p) rows.ports ≡ true → ⊥
      by None f off any =
          let some : is_some (find (has_id p) rows.ports) ≡ true = find-some (has_id p) rows.ports ∙ any-weaker (is_tap_id rows name p) (has_id p) rows.ports (λ q h. (and_parts (ident_eq p q.id) (is_tap rows name q) h).0) any in
          let bad : false ≡ true = ap is_some (sym f) ∙ some in cc
      by (Some q) f off any =
          let tap : is_tap rows name q ≡ true = any-only (has_id p) (is_tap rows name) rows.ports q (good.port_ids p) f any in
          let at : is_at name q ≡ true = (and_parts (is_live rows q) (is_at name q) (and_parts (is_here rows name q) (not (is_router_port q.owner)) tap).0).1 in
          cc

      go : (b : Bool) → ident_eq p port ≡ b → (b && is_direction d d2 && key_eq k k2) ≡ false
      go false e = refl
      go true e = absurd (by o found away (here (ident_same p port e)))

  use-away : (r : Ident) (x : ℕ) (o : Option RouterRow) → find (λ (z : RouterRow). ident_eq r z.id) rows.routers ≡ o → (name : List ℕ) (e : Entry) → stands_at rows name e ≡ true → bytes_eq (router_home o) name ≡ false → uses_at r x (e ∷ []) ≡ []
  use-away r x o found name (Flow p d k) stood away = refl
  use-away r x o found name (Snat s k y p) stood away = go (ident_eq r s) (x == y) refl
    where
      at-host : (m : Option (List ℕ)) → is_host_of name m ≡ true → bytes_eq (host_home m) name ≡ true
      at-host None h = cc
      at-host (Some m) h = h

      by : (z : Option RouterRow) → find (λ (z : RouterRow). ident_eq r z.id) rows.routers ≡ z → bytes_eq (router_home z) name ≡ false → list_any (λ (z : RouterRow). ident_eq r z.id && is_on_host name z) rows.routers ≡ true → ⊥
      by None f off any =
          let some : is_some (find (λ (z : RouterRow). ident_eq r z.id) rows.routers) ≡ true = find-some (λ (z : RouterRow). ident_eq r z.id) rows.routers ∙ any-weaker (λ (z : RouterRow). ident_eq r z.id && is_on_host name z) (λ (z : RouterRow). ident_eq r z.id) rows.routers (λ z h. (and_parts (ident_eq r z.id) (is_on_host name z) h).0) any in
          let bad : false ≡ true = ap is_some (sym f) ∙ some in cc
      by (Some z) f off any =
          let there : is_on_host name z ≡ true = any-only (λ (z : RouterRow). ident_eq r z.id) (is_on_host name) rows.routers z (good.router_ids r) f any in
          let at : bytes_eq (host_home z.host) name ≡ true = at-host z.host there in
          cc

      go : (b c : Bool) → ident_eq r s ≡ b → if◌then◌else◌ {A = List Use} (b && c) (record { key = k; port = p } ∷ []) [] ≡ []
      go false c e = refl
      go true c e = absurd (by o found away (subst (λ i. list_any (λ (z : RouterRow). ident_eq i z.id && is_on_host name z) rows.routers ≡ true) (sym (ident_same r s e)) stood))

-- the entries after an event: kept at the hosts, or joined behind all others, it is the same for each port and router
module _ (carry : List ℕ → Segment → Bool) (rows : RowLists) (hosts : List Host) (held : HoldRows carry rows hosts) (event : Event) where
  facts : FrameFacts rows
  facts = frame-facts rows held.consistent

  stand : SyncedFacts rows hosts
  stand = synced-facts carry rows hosts held.carried held.synced

  placed : RunPlaced hosts (fabric_fate hosts event).run
  placed = fate-placed hosts stand.names event (all-of IsAttached hosts held.synced.placed)

  made-stand : AllMade (λ e m. stands_at rows m e ≡ true) (fabric_fate hosts event).run.fresh (fabric_fate hosts event).run.makers
  made-stand = AllMade-more (IsMade hosts) (λ e m. stands_at rows m e ≡ true) (fabric_fate hosts event).run.fresh (fabric_fate hosts event).run.makers
      (λ e m made.
      let h : Host = made.host in
      let real : Realises rows h.name h.tables = find-each (λ (x : Host). Realises rows x.name x.tables) (is_named m) hosts h (all-of _ hosts held.synced.realise) made.named in
      subst (λ n. stands_at rows n e ≡ true) (sym (bytes_same m h.name (find-passes (is_named m) hosts h made.named))) (entry-stands rows h real e made.placed))
      placed.made

  makers-known : AllMade (λ e m. is_some (find (is_named m) hosts) ≡ true) (fabric_fate hosts event).run.fresh (fabric_fate hosts event).run.makers
  makers-known = AllMade-more (IsMade hosts) (λ e m. is_some (find (is_named m) hosts) ≡ true) (fabric_fate hosts event).run.fresh (fabric_fate hosts event).run.makers (λ e m made. ap is_some made.named) placed.made

  flows-kept : (p : Ident) (d : Direction) (k : Key) → has_flow (all_entries (hosts_after hosts event)) p d k ≡ has_flow (all_entries hosts ++ (fabric_fate hosts event).run.fresh) p d k
  flows-kept p d k =
      let o = find (has_id p) rows.ports in
      let away = λ (name : List ℕ) (e : Entry) (s : stands_at rows name e ≡ true) (off : bytes_eq (port_home o) name ≡ false). or_false (is_flow p d k e) ∙ flow-away rows facts p d k o refl name e s off in
      ap (λ xs. has_flow (all_entries xs) p d k) (after-is hosts stand.names event)
      ∙ kept-same (list_any (is_flow p d k)) (λ a b. a || b) false refl (list_any-append (is_flow p d k)) (λ b. refl) or_false (port_home o)
      (fabric_fate hosts event).run.fresh (fabric_fate hosts event).run.makers
      (AllMade-more (λ e m. stands_at rows m e ≡ true) (λ e m. bytes_eq (port_home o) m ≡ false → list_any (is_flow p d k) (e ∷ []) ≡ false) (fabric_fate hosts event).run.fresh (fabric_fate hosts event).run.makers (λ e m s off. away m e s off) made-stand)
      hosts stand.names
      (AllOf-more (EntriesStand rows) (λ x. is_named (port_home o) x ≡ false → list_any (is_flow p d k) x.entries ≡ false) hosts
      (λ x s off. nothing-told (list_any (is_flow p d k)) (λ a b. a || b) false refl (list_any-append (is_flow p d k)) (λ b. refl) or_false (port_home o) x.entries
      (AllOf-more (λ e. stands_at rows x.name e ≡ true) (λ e. list_any (is_flow p d k) (e ∷ []) ≡ false) x.entries (λ e there. away x.name e there off) s)) stand.stand)
      makers-known

  uses-kept : (r : Ident) (x : ℕ) → uses_at r x (all_entries (hosts_after hosts event)) ≡ uses_at r x (all_entries hosts ++ (fabric_fate hosts event).run.fresh)
  uses-kept r x =
      let o = find (λ (z : RouterRow). ident_eq r z.id) rows.routers in
      let away = λ (name : List ℕ) (e : Entry) (s : stands_at rows name e ≡ true) (off : bytes_eq (router_home o) name ≡ false). use-away rows facts r x o refl name e s off in
      ap (λ xs. uses_at r x (all_entries xs)) (after-is hosts stand.names event)
      ∙ kept-same (uses_at r x) (λ a b. a ++ b) [] refl (uses-append r x) (λ b. refl) append-nil (router_home o)
      (fabric_fate hosts event).run.fresh (fabric_fate hosts event).run.makers
      (AllMade-more (λ e m. stands_at rows m e ≡ true) (λ e m. bytes_eq (router_home o) m ≡ false → uses_at r x (e ∷ []) ≡ []) (fabric_fate hosts event).run.fresh (fabric_fate hosts event).run.makers (λ e m s off. away m e s off) made-stand)
      hosts stand.names
      (AllOf-more (EntriesStand rows) (λ y. is_named (router_home o) y ≡ false → uses_at r x y.entries ≡ []) hosts
      (λ y s off. nothing-told (uses_at r x) (λ a b. a ++ b) [] refl (uses-append r x) (λ b. refl) append-nil (router_home o) y.entries
      (AllOf-more (λ e. stands_at rows y.name e ≡ true) (λ e. uses_at r x (e ∷ []) ≡ []) y.entries (λ e there. away y.name e there off) s)) stand.stand)
      makers-known

  pub entries-kept : SameEntries (all_entries (hosts_after hosts event)) (all_entries hosts ++ (fabric_fate hosts event).run.fresh)
  entries-kept = record { flows = flows-kept; uses = uses-kept }

  pub held-after : HoldRows carry rows (hosts_after hosts event)
  held-after = record { consistent = held.consistent; carried = held.carried; synced = stay-synced carry rows hosts held.synced event }

-- lists
made-of-nobody : (es : List Entry) → entries_made (map of_nobody es) ≡ es
made-of-nobody [] = refl
made-of-nobody (e ∷ es) = ap (λ xs. e ∷ xs) (made-of-nobody es)

same-more : (a b c : List Entry) → SameEntries a b → SameEntries (a ++ c) (b ++ c)
same-more a b c same = record {
  flows = λ p d k. list_any-append (is_flow p d k) a c ∙ ap (λ x. x || list_any (is_flow p d k) c) (same.flows p d k) ∙ sym (list_any-append (is_flow p d k) b c);
  uses = λ r o. uses-append r o a c ∙ ap (λ x. x ++ uses_at r o c) (same.uses r o) ∙ sym (uses-append r o b c);
}

verdicts-same : (rows : RowLists) (a b : List Entry) → SameEntries a b → (events : List Event) → rows_verdicts rows a events ≡ rows_verdicts rows b events
unfolding rows_verdicts
verdicts-same rows a b same [] = refl
verdicts-same rows a b same (e ∷ events) =
    let one : rows_verdict rows a e ≡ rows_verdict rows b e = ap verdict_of_fate (verdict-same rows a b same e) in
    ap (λ v. v ∷ rows_verdicts rows (a ++ entries_made v.fresh) events) one
    ∙ ap (λ vs. rows_verdict rows b e ∷ vs) (verdicts-same rows (a ++ entries_made (rows_verdict rows b e).fresh) (b ++ entries_made (rows_verdict rows b e).fresh) (same-more a b (entries_made (rows_verdict rows b e).fresh) same) events)

pub lists-mean-rows : (carry : List ℕ → Segment → Bool) (rows : RowLists) (hosts : List Host) → HoldRows carry rows hosts → (events : List Event) → map without_hosts (fabric_verdicts hosts events) ≡ rows_verdicts rows (all_entries hosts) events
unfolding fabric_verdicts rows_verdicts
lists-mean-rows carry rows hosts held [] = refl
lists-mean-rows carry rows hosts held (e ∷ events) =
    let one = tables-mean-rows carry rows hosts held e in
    let fresh : entries_made (rows_verdict rows (all_entries hosts) e).fresh ≡ (fabric_fate hosts e).run.fresh =
    made-of-nobody (rows_fate rows (all_entries hosts) e).fresh ∙ ap (λ (f : Fate). f.fresh) (sym (fates-same rows hosts (frame-facts rows held.consistent) (synced-facts carry rows hosts held.carried held.synced) e)) in
    ap (λ v. v ∷ map without_hosts (fabric_verdicts (hosts_after hosts e) events)) one
    ∙ ap (λ vs. rows_verdict rows (all_entries hosts) e ∷ vs)
    (lists-mean-rows carry rows (hosts_after hosts e) (held-after carry rows hosts held e) events
    ∙ verdicts-same rows (all_entries (hosts_after hosts e)) (all_entries hosts ++ (fabric_fate hosts e).run.fresh) (entries-kept carry rows hosts held e) events
    ∙ ap (λ es. rows_verdicts rows (all_entries hosts ++ es) events) (sym fresh))

pub lists-held : (carry : List ℕ → Segment → Bool) (rows : RowLists) (hosts : List Host) → HoldRows carry rows hosts → (events : List Event) → HoldRows carry rows (hosts_after_all hosts events)
unfolding hosts_after_all
lists-held carry rows hosts held [] = held
lists-held carry rows hosts held (e ∷ events) = lists-held carry rows (hosts_after hosts e) (held-after carry rows hosts held e) events

-- what holds of the verdict on any event, by any hosts that hold the rows, holds of each of a list
pub each-verdict : (carry : List ℕ → Segment → Bool) (rows : RowLists) (P : ToldVerdict → Type 0) → ((hosts : List Host) → HoldRows carry rows hosts → (e : Event) → P (fabric_verdict hosts e))
    → (hosts : List Host) → HoldRows carry rows hosts → (events : List Event) → Each P (fabric_verdicts hosts events)
unfolding fabric_verdicts
each-verdict carry rows P one hosts held [] k v at = none_some v _ at
each-verdict carry rows P one hosts held (e ∷ events) zero v at = subst P (some_equal (fabric_verdict hosts e) v at) (one hosts held e)
each-verdict carry rows P one hosts held (e ∷ events) (suc k) v at = each-verdict carry rows P one (hosts_after hosts e) (held-after carry rows hosts held e) events k v at

pub lists-cross : (carry : List ℕ → Segment → Bool) (rows : RowLists) (hosts : List Host) → HoldRows carry rows hosts → (events : List Event) → Each (CrossesAtRouters rows) (fabric_verdicts hosts events)
lists-cross carry rows = each-verdict carry rows (CrossesAtRouters rows) (by-tables carry rows)

-- and so of each with its event
pub each-pair : (carry : List ℕ → Segment → Bool) (rows : RowLists) (P : Event → ToldVerdict → Type 0) → ((hosts : List Host) → HoldRows carry rows hosts → (e : Event) → P e (fabric_verdict hosts e))
    → (hosts : List Host) → HoldRows carry rows hosts → (events : List Event) → Each (λ (x : Event × ToldVerdict). P x.0 x.1) (zip events (fabric_verdicts hosts events))
unfolding fabric_verdicts
each-pair carry rows P one hosts held [] k x at = none_some x _ at
each-pair carry rows P one hosts held (e ∷ events) zero x at = subst (λ (y : Event × ToldVerdict). P y.0 y.1) (some_equal (e, fabric_verdict hosts e) x at) (one hosts held e)
each-pair carry rows P one hosts held (e ∷ events) (suc k) x at = each-pair carry rows P one (hosts_after hosts e) (held-after carry rows hosts held e) events k x at
