-- Whatever port a packet stands before, it comes to what the rows say.
use Rattle.std.proofs.Common.{◌≡◌, ℕ, zero, suc, ◌-◌, ◌<◌, List, [], ◌∷◌, ◌++◌, Bool, true, false, not, Option, Some, None, refl, ap, ◌∙◌, arith}
use Rattle.std.specs.Prelude.{find, option_and_then, option_map, ◌&&◌, if◌then◌else◌}
use Rattle.std.proofs.lemmas.Bool.{and_from}
use Rattle.api_types.proofs.NameLemmas.{ident_itself}
use Rattle.plane_laws.proofs.ListLemmas.{find-passes, find-each, find-only}
use Rattle.plane_laws.proofs.Tagged.{tap-located, tagged}
use Rattle.plane_laws.proofs.Sent.{trace_of, place_of, walk-on, trace-plain}
use Rattle.plane_laws.proofs.SentLaw.{Lands}
use Rattle.plane_laws.proofs.EntriesLaw.{flows-located}
use Rattle.plane_laws.proofs.RouterLaw.{trace-step, no-path, router-law}
use Rattle.plane_laws.proofs.FilterLaw.{allows-located}
use Rattle.api_types.specs.Ident.{Ident}
use Rattle.api_types.specs.Owners.{is_router_port}
use Rattle.api_types.specs.RowLists.{RowLists}
use Rattle.api_types.specs.declared.group.Direction.{Direction}
use Rattle.api_types.specs.declared.group.Direction.TheVariants.{Ingress}
use Rattle.api_types.specs.declared.port.PortRow.{PortRow}
use Rattle.api_types.specs.declared.router.RouterRow.{RouterRow}
use Rattle.plane_types.specs.Entries.{has_flow, opposite}
use Rattle.plane_types.specs.Fabric.{Run, meant, fate_after, walk}
use Rattle.plane_types.specs.Filter.{rules_allow}
use Rattle.api_types.specs.Holders.{router_of}
use Rattle.plane_types.specs.Hosts.{Host, all_entries, is_named}
use Rattle.plane_types.specs.Keys.{answer_key}
use Rattle.api_types.specs.Live.{is_live, is_at, is_here}
use Rattle.plane_types.specs.Meaning.{at_router, delivered_by, end_fate, port_fate, at_receiver, rows_passage, with_fresh}
use Rattle.plane_types.specs.Packets.{Packet, ip_frame, key_of}
use Rattle.plane_types.specs.Passage.{Passage, passage}
use Rattle.plane_types.specs.Places.{TapOut}
use Rattle.plane_types.specs.TableRows.{is_tap, tag_of, tap_of, tap_row, to_router}
use Rattle.plane_types.specs.TableStep.{drops, plain, stops, tables_allow, tap_at, tap_delivers, tap_out, tap_passage}
use Rattle.plane_types.specs.declared.entry.Entry.{Entry}
use Rattle.plane_types.specs.declared.entry.Entry.TheVariants.{Flow}
use Rattle.plane_types.specs.declared.frame.Key.{Key}
use Rattle.plane_types.specs.declared.table.BridgeTo.TheVariants.{Router as ToRouter, Tap as ToTap}
use Rattle.plane_types.specs.declared.verdict.DropCause.TheVariants.{Ingress as IngressFilter}
use Rattle.plane_types.specs.declared.verdict.Outcome.TheVariants.{Delivered, Dropped}
use Rattle.plane_laws.proofs.Facts.{FrameFacts, HostFacts, SyncedFacts, has_id}

-- a passage asks for these four answers
abbrev shape : Ident → Direction → Key → Bool → Bool → Bool → Bool → Passage
shape i d k x y f g = if x then record { passes = true; made = if f then [] else Flow i d k ∷ [] } else record { passes = g && y; made = [] }

pub passage-same : (secured : Bool) (a b : Direction → Key → Bool) (es fs : List Entry) (i : Ident) (d : Direction) (k : Key) → (secured ≡ true → (d : Direction) (k : Key) → a d k ≡ b d k) → ((d : Direction) (k : Key) → has_flow es i d k ≡ has_flow fs i d k) → passage secured a es i d k ≡ passage secured b fs i d k
passage-same false a b es fs i d k same flows = refl
passage-same true a b es fs i d k same flows =
    ap (λ x. shape i d k x (a (opposite d) (answer_key k)) (has_flow es i d k) (has_flow es i (opposite d) (answer_key k))) (same refl d k)
    ∙ ap (λ y. shape i d k (b d k) y (has_flow es i d k) (has_flow es i (opposite d) (answer_key k))) (same refl (opposite d) (answer_key k))
    ∙ ap (λ f. shape i d k (b d k) (b (opposite d) (answer_key k)) f (has_flow es i (opposite d) (answer_key k))) (flows d k)
    ∙ ap (λ g. shape i d k (b d k) (b (opposite d) (answer_key k)) (has_flow fs i d k) g) (flows (opposite d) (answer_key k))

module _ (rows : RowLists) (hosts : List Host) (good : FrameFacts rows) (synced : SyncedFacts rows hosts) where
  -- the tap of a live port that is no router's, and what it passes
  module _ (h : Host) (test : PortRow → Bool) (q : PortRow) (found : find test rows.ports ≡ Some q) (live : is_live rows q ≡ true) (plain_port : is_router_port q.owner ≡ false) (named : find (is_named q.host) hosts ≡ Some h) where
    pub real-at : HostFacts rows h.name h.tables
    real-at = find-each (λ (y : Host). HostFacts rows y.name y.tables) (is_named q.host) hosts h synced.realise named

    at_here : is_at h.name q ≡ true
    at_here = find-passes (is_named q.host) hosts h named

    is-here : is_here rows h.name q ≡ true
    is-here = and_from (is_live rows q) (is_at h.name q) live at_here

    pub tap-here : is_tap rows h.name q ≡ true
    tap-here = and_from (is_here rows h.name q) (not (is_router_port q.owner)) is-here (ap not plain_port)

    pub tag-here : (tag : ℕ) × (tag_of h.tables.tags q.network ≡ Some tag)
    tag-here = tagged rows h.name h.tables real-at good test q found is-here

    pub tap-found : tap_at h.tables q.id ≡ Some (tap_of q tag-here.0)
    tap-found =
        tap-located rows h.name h.tables real-at good q.id
        ∙ ap (option_and_then (tap_row rows h.name h.tables.tags)) (find-only test (has_id q.id) rows.ports q (good.port_ids q.id) found (ident_itself q.id))
        ∙ ap (λ b. if b then option_map (tap_of q) (tag_of h.tables.tags q.network) else None) tap-here
        ∙ ap (option_map (tap_of q)) tag-here.1

    pub passage-here : (d : Direction) (p : Packet) (fresh : List Entry) → tap_passage h.tables (h.entries ++ fresh) (tap_of q tag-here.0) d p ≡ rows_passage rows (all_entries hosts ++ fresh) q d p
    passage-here d p fresh = passage-same q.secured (tables_allow h.tables q.id) (rules_allow rows q) (h.entries ++ fresh) (all_entries hosts ++ fresh) q.id d (key_of p)
        (λ secured d k. allows-located rows good h.name h.tables real-at test q found tap-here secured d k)
        (λ d k. flows-located rows hosts good synced test q found d k h named fresh)

    pub received-law : (steps : ℕ) (p : Packet) (run : Run) → 0 < steps → meant (walk hosts steps h (TapOut q.id (ip_frame p)) run) ≡ at_receiver rows (all_entries hosts) q p (trace_of run)
    received-law steps p run more =
        ap meant (walk-on hosts steps h (TapOut q.id (ip_frame p)) run more)
        ∙ ap (λ s. meant (fate_after hosts (walk hosts (steps - 1)) h (TapOut q.id (ip_frame p)) run s)) (ap (tap_out h.tables (h.entries ++ run.fresh) (ip_frame p)) tap-found ∙ ap (tap_delivers q.id (ip_frame p)) (passage-here Ingress p run.fresh))
        ∙ by (rows_passage rows (all_entries hosts ++ run.fresh) q Ingress p)
      where
        go : (b : Bool) (made : List Entry) → meant (fate_after hosts (walk hosts (steps - 1)) h (TapOut q.id (ip_frame p)) run (if b then record { step = stops (Delivered q.id (ip_frame p)); made = made } else plain (drops IngressFilter))) ≡ (if b then end_fate (with_fresh (trace_of run) made) (Delivered q.id (ip_frame p)) else end_fate (trace_of run) (Dropped IngressFilter))
        go true made = ap (λ t. end_fate t (Delivered q.id (ip_frame p))) (trace-step h (TapOut q.id (ip_frame p)) (record { step = stops (Delivered q.id (ip_frame p)); made = made }) run [] refl ∙ no-path (with_fresh (trace_of run) made))
        go false made = ap (λ t. end_fate t (Dropped IngressFilter)) (trace-plain h (TapOut q.id (ip_frame p)) (drops IngressFilter) run refl)

        by : (y : Passage) → meant (fate_after hosts (walk hosts (steps - 1)) h (TapOut q.id (ip_frame p)) run (tap_delivers q.id (ip_frame p) y)) ≡ delivered_by q p (trace_of run) y
        by y = go y.passes y.made

  -- the induction over the time to live
  pub lands-law : (many : ℕ) → Lands rows hosts many
  unfolding port_fate
  lands-law zero steps test q h to p run enough found live named is lives = absurd (omega arith)
  lands-law (suc many) steps test q h to p run enough found live named is lives = by (is_router_port q.owner) refl is (lands-law many)
    where
      routed_by : is_router_port q.owner ≡ true → Lands rows hosts many → (o : Option RouterRow) → router_of rows q ≡ o → to_router q o ≡ Some to → meant (walk hosts steps h (place_of to p) run) ≡ at_router rows (all_entries hosts) (port_fate rows (all_entries hosts) many) q p (trace_of run) o
      routed_by router rest None e f = cc
      routed_by router rest (Some r) e f =
          let same : to ≡ ToRouter r.id q.id = cc in
          ap (λ x. meant (walk hosts steps h (place_of x p) run)) same
          ∙ router-law rows hosts good synced many rest steps (omega arith) h test q found live router named r e p lives run

      by : (b : Bool) → is_router_port q.owner ≡ b → (if b then to_router q (router_of rows q) else Some (ToTap q.id)) ≡ Some to → Lands rows hosts many → meant (walk hosts steps h (place_of to p) run) ≡ (if b then at_router rows (all_entries hosts) (port_fate rows (all_entries hosts) many) q p (trace_of run) (router_of rows q) else at_receiver rows (all_entries hosts) q p (trace_of run))
      by true e f rest = routed_by e rest (router_of rows q) refl f
      by false e f rest =
          let same : to ≡ ToTap q.id = cc in
          ap (λ x. meant (walk hosts steps h (place_of x p) run)) same ∙ received-law h test q found live e named steps p run (omega arith)
