-- The law, for events one after the other, where each host keeps the entries that it made.
use Rattle.api_types.specs.Holders.{port_at, router_of}
use Rattle.api_types.specs.Ident.{Ident}
use Rattle.api_types.specs.Owners.{is_router_port}
use Rattle.api_types.specs.RouterRows.{leg_of, router_view}
use Rattle.api_types.specs.RowLists.{RowLists}
use Rattle.api_types.specs.RowsWith.{port_with}
use Rattle.api_types.specs.Wires.{network_on}
use Rattle.api_types.specs.declared.group.Direction.{Direction}
use Rattle.api_types.specs.declared.group.Direction.TheVariants.{Egress}
use Rattle.api_types.specs.declared.network.NetworkRow.{NetworkRow}
use Rattle.api_types.specs.declared.network.Segment.{Segment}
use Rattle.api_types.specs.declared.port.PortRow.{PortRow}
use Rattle.api_types.specs.declared.router.RouterRow.{RouterRow}
use Rattle.dvr_laws.proofs.DvrMade.{dvr-made, makers-same}
use Rattle.dvr_laws.proofs.DvrParts.{every}
use Rattle.dvr_laws.proofs.DvrTheorem.{tables-mean-rows-dvr}
use Rattle.dvr_laws.specs.Held.{HoldCopies}
use Rattle.dvr_types.specs.Copies.{copies_for, is_vxlan_interface}
use Rattle.dvr_types.specs.DvrFabric.{DvrHost, DvrRun, dvr_fate}
use Rattle.dvr_types.specs.DvrVerdicts.{DvrMeaning, dvr_hosts_after, dvr_meaning, dvr_meanings, dvr_meant, dvr_meants, made_at_host, names_of_hosts, plain_hosts, with_made_entries}
use Rattle.dvr_types.specs.Handlers.{Following, arrival, handlers, hosts_after_router, hosts_after_sender, hosts_from, hosts_of_sender, hosts_of_wire, hosts_sent, hosts_to, once_in_a_row, router_hosts}
use Rattle.dvr_types.specs.Near.{is_for_outer_address, is_near, stays_near}
use Rattle.plane_laws.proofs.Counted.{all-of, each-of, once-counted}
use Rattle.plane_laws.proofs.EntriesLaw.{uses-append}
use Rattle.plane_laws.proofs.Facts.{AtMostOne, FrameFacts}
use Rattle.plane_laws.proofs.FactsHold.{frame-facts}
use Rattle.plane_laws.proofs.KeptLaw.{AllOf-map, after-is}
use Rattle.plane_laws.proofs.LandsLaw.{passage-same}
use Rattle.plane_laws.proofs.ListLaw.{entries-kept, held-after}
use Rattle.plane_laws.proofs.PlacedLaw.{AllMade, IsMade, fate-placed, made_by, with_made}
use Rattle.plane_laws.proofs.RouterTables.{routed-same}
use Rattle.plane_laws.proofs.SameEntries.{SameEntries, verdict-same}
use Rattle.plane_laws.proofs.SyncedHold.{synced-facts}
use Rattle.plane_laws.proofs.Theorem.{fates-same}
use Rattle.plane_laws.specs.Held.{HoldRows}
use Rattle.plane_types.specs.Attached.{IsAttached}
use Rattle.plane_types.specs.Entries.{has_flow, is_flow}
use Rattle.plane_types.specs.Fabric.{fabric_fate, meant}
use Rattle.plane_types.specs.Filter.{rules_allow}
use Rattle.plane_types.specs.Guard.{passes_guard}
use Rattle.plane_types.specs.Hosts.{all_entries, is_named}
use Rattle.plane_types.specs.Meaning.{Fate, Trace, life_of, may_begin, on_path, rows_fate, rows_passage}
use Rattle.plane_types.specs.Packets.{Packet, is_unsupported, key_of, packet}
use Rattle.plane_types.specs.Routing.{routing_of, uses_at, uses_by}
use Rattle.plane_types.specs.Verdicts.{hosts_after}
use Rattle.plane_types.specs.declared.entry.Entry.{Entry}
use Rattle.plane_types.specs.declared.event.Event.{Event}
use Rattle.plane_types.specs.declared.event.Event.TheVariants.{FromPort, FromWire}
use Rattle.plane_types.specs.declared.frame.Frame.{Frame}
use Rattle.plane_types.specs.declared.frame.Frame.TheVariants.{Dhcp, Ip, NeighbourAsk, Other}
use Rattle.plane_types.specs.declared.frame.Key.{Key}
use Rattle.std.proofs.Common.{Bool, List, None, Option, Some, [], ap, false, map, not, refl, subst, suc, sym, true, zero, ℕ, ◌++◌, ◌∙◌, ◌∷◌, ◌≡◌}
use Rattle.std.proofs.lemmas.List.Folds.{list_any-append}
use Rattle.std.specs.List.{list_any}
use Rattle.std.specs.Prelude.{if◌then◌else◌, option_to_list, ◌&&◌, ◌||◌}
use Rattle.std.specs.Str.{bytes_eq}

-- handlers ask entries for flows and uses alone
module _ (rows : RowLists) (a b : List Entry) (same : SameEntries a b) where
  uses-more : (c : List Entry) (snat : Bool) (o : Option ℕ) (r : Ident) → uses_by snat o r (a ++ c) ≡ uses_by snat o r (b ++ c)
  uses-more c false o r = refl
  uses-more c true None r = refl
  uses-more c true (Some o) r = uses-append r o a c ∙ ap (λ x. x ++ uses_at r o c) (same.uses r o) ∙ sym (uses-append r o b c)

  flows-more : (c : List Entry) (p : Ident) (d : Direction) (k : Key) → has_flow (a ++ c) p d k ≡ has_flow (b ++ c) p d k
  flows-more c p d k = list_any-append (is_flow p d k) a c ∙ ap (λ x. x || list_any (is_flow p d k) c) (same.flows p d k) ∙ sym (list_any-append (is_flow p d k) b c)

  passage-more : (c : List Entry) (q : PortRow) (d : Direction) (p : Packet) → rows_passage rows (a ++ c) q d p ≡ rows_passage rows (b ++ c) q d p
  passage-more c q d p = passage-same q.secured (rules_allow rows q) (rules_allow rows q) (a ++ c) (b ++ c) q.id d (key_of p) (λ s d k. refl) (flows-more c q.id)

  routed-more : (r : RouterRow) (t : Trace) (q : PortRow) (p : Packet) → routing_of (router_view rows r) (a ++ t.fresh) (leg_of q) p ≡ routing_of (router_view rows r) (b ++ t.fresh) (leg_of q) p
  routed-more r t q p = routed-same (router_view rows r) (a ++ t.fresh) (b ++ t.fresh) (leg_of q) p (uses-more t.fresh (router_view rows r).snat (router_view rows r).gateway (router_view rows r).id)

  near-more : (r : RouterRow) (t : Trace) (q : PortRow) (p : Packet) → is_near rows (a ++ t.fresh) r q p ≡ is_near rows (b ++ t.fresh) r q p
  unfolding is_near
  near-more r t q p = ap (λ x. is_vxlan_interface rows q && not (is_for_outer_address (router_view rows r) p) && stays_near rows r x) (routed-more r t q p)

  router-more : (on : Following) (q : PortRow) (p : Packet) (t : Trace) (o : Option RouterRow) → router_hosts rows a on q p t o ≡ router_hosts rows b on q p t o
  router-more on q p t None = refl
  router-more on q p t (Some r) =
      ap (λ c. (if c then [] else option_to_list r.host) ++ hosts_after_router on (arrival rows r t (routing_of (router_view rows r) (a ++ t.fresh) (leg_of q) p))) (near-more r t q p)
      ∙ ap (λ x. (if is_near rows (b ++ t.fresh) r q p then [] else option_to_list r.host) ++ hosts_after_router on (arrival rows r t x)) (routed-more r t q p)

  from-more : (many : ℕ) → hosts_from rows a many ≡ hosts_from rows b many
  unfolding hosts_from
  from-more zero = refl
  from-more (suc many) = λ i q p t. (ap (λ on. if is_router_port q.owner then router_hosts rows a on q p t (router_of rows q) else q.host ∷ []) (from-more many) ∙ ap (λ l. if is_router_port q.owner then l else q.host ∷ []) (router-more (hosts_from rows b many) q p t (router_of rows q))) i

  behind-more : (many : ℕ) (s : PortRow) (t : Trace) (frame : Frame) → hosts_after_sender rows a many s t frame ≡ hosts_after_sender rows b many s t frame
  behind-more many s t (Ip src dst ends ttl part) =
      ap (λ on. hosts_sent rows on s (packet src dst ends ttl part) t (rows_passage rows (a ++ t.fresh) s Egress (packet src dst ends ttl part))) (from-more many)
      ∙ ap (hosts_sent rows (hosts_from rows b many) s (packet src dst ends ttl part) t) (passage-more t.fresh s Egress (packet src dst ends ttl part))
  behind-more many s t (NeighbourAsk src ends) = refl
  behind-more many s t (Dhcp src from) = refl
  behind-more many s t (Other x d y) = refl

  sender-more : (many : ℕ) (frame : Frame) (o : Option PortRow) → hosts_of_sender rows a many frame o ≡ hosts_of_sender rows b many frame o
  sender-more many frame None = refl
  sender-more many frame (Some s) = ap (λ l. if not (may_begin rows s) then [] else s.host ∷ (if is_unsupported frame || not (passes_guard s frame) then [] else l)) (behind-more many s (record { path = s.network ∷ []; fresh = [] }) frame)

  wire-more : (names : List (List ℕ)) (many : ℕ) (frame : Frame) (o : Option NetworkRow) → hosts_of_wire rows a names many frame o ≡ hosts_of_wire rows b names many frame o
  wire-more names many frame None = refl
  wire-more names many (Ip src dst ends ttl part) (Some n) = ap (λ on. if is_unsupported (Ip src dst ends ttl part) then [] else hosts_to on (packet src dst ends ttl part) (on_path n) (port_at rows n.id dst)) (from-more many)
  wire-more names many (NeighbourAsk src ends) (Some n) = refl
  wire-more names many (Dhcp src from) (Some n) = refl
  wire-more names many (Other s d y) (Some n) = refl

  pub handlers-same : (names : List (List ℕ)) (e : Event) → handlers rows a names e ≡ handlers rows b names e
  unfolding handlers
  handlers-same names (FromPort port frame) = ap once_in_a_row (sender-more (life_of frame) frame (port_with rows port))
  handlers-same names (FromWire physical tag frame) = ap once_in_a_row (wire-more names (life_of frame) frame (network_on rows (record { physical = physical; tag = tag })))

  pub told-same : (names : List (List ℕ)) (e : Event) → dvr_meaning rows a names e ≡ dvr_meaning rows b names e
  told-same names e = ap (λ f. record { fate = f; hosts = handlers rows a names e }) (verdict-same rows a b same e) ∙ ap (λ l. record { fate = rows_fate rows b e; hosts = l }) (handlers-same names e)

  more-same : (c : List Entry) → SameEntries (a ++ c) (b ++ c)
  more-same c = record { flows = flows-more c; uses = λ r o. uses-append r o a c ∙ ap (λ x. x ++ uses_at r o c) (same.uses r o) ∙ sym (uses-append r o b c) }

tolds-same : (rows : RowLists) (names : List (List ℕ)) (a b : List Entry) → SameEntries a b → (events : List Event) → dvr_meanings rows a names events ≡ dvr_meanings rows b names events
unfolding dvr_meanings
tolds-same rows names a b same [] = refl
tolds-same rows names a b same (e ∷ events) =
    ap (λ v. v ∷ dvr_meanings rows (a ++ (rows_fate rows a e).fresh) names events) (told-same rows a b same names e)
    ∙ ap (λ (f : Fate). dvr_meaning rows b names e ∷ dvr_meanings rows (a ++ f.fresh) names events) (verdict-same rows a b same e)
    ∙ ap (λ vs. dvr_meaning rows b names e ∷ vs) (tolds-same rows names (a ++ (rows_fate rows b e).fresh) (b ++ (rows_fate rows b e).fresh) (more-same rows a b same (rows_fate rows b e).fresh) events)

-- the hosts after an event, copies aside, are those without copies
made-same : (name : List ℕ) (es : List Entry) (ms : List (List ℕ)) → made_at_host name es ms ≡ made_by name es ms
made-same name [] ms = refl
made-same name (e ∷ es) [] = refl
made-same name (e ∷ es) (m ∷ ms) = ap (λ l. if bytes_eq name m then e ∷ l else l) (made-same name es ms)

kept-same-hosts : (run : DvrRun) (ds : List DvrHost) → plain_hosts (map (with_made_entries run) ds) ≡ map (with_made run.run.fresh run.run.makers) (plain_hosts ds)
kept-same-hosts run [] = refl
kept-same-hosts run (d ∷ ds) = λ j. record { name = d.host.name; tables = d.host.tables; entries = d.host.entries ++ made-same d.host.name run.run.fresh run.run.makers j } ∷ kept-same-hosts run ds j

names-after : (run : DvrRun) (ds : List DvrHost) → names_of_hosts (map (with_made_entries run) ds) ≡ names_of_hosts ds
names-after run [] = refl
names-after run (d ∷ ds) = ap (λ l. d.host.name ∷ l) (names-after run ds)

module _ (carry : List ℕ → Segment → Bool) (rows : RowLists) (hosts : List DvrHost) (h : HoldCopies carry rows hosts) (e : Event) where
  good : FrameFacts rows
  good = frame-facts rows h.held.consistent

  once : (name : List ℕ) → AtMostOne (is_named name) (plain_hosts hosts)
  once name = once-counted (is_named name) (plain_hosts hosts) (h.held.synced.names name)

  single : dvr_meant (dvr_fate hosts e) ≡ dvr_meaning rows (every hosts) (names_of_hosts hosts) e
  single = tables-mean-rows-dvr carry rows hosts h e

  base : meant (fabric_fate (plain_hosts hosts) e) ≡ rows_fate rows (every hosts) e
  base = fates-same rows (plain_hosts hosts) good (synced-facts carry rows (plain_hosts hosts) h.held.carried h.held.synced) e

  fresh-is : (dvr_fate hosts e).run.run.fresh ≡ (fabric_fate (plain_hosts hosts) e).run.fresh
  fresh-is = ap (λ (w : DvrMeaning). w.fate.fresh) single ∙ sym (ap (λ (f : Fate). f.fresh) base)

  makers-is : (dvr_fate hosts e).run.run.makers ≡ (fabric_fate (plain_hosts hosts) e).run.makers
  makers-is =
      makers-same rows (plain_hosts hosts) good h.held.synced.realise (fabric_fate (plain_hosts hosts) e).run.fresh (dvr_fate hosts e).run.run.makers (fabric_fate (plain_hosts hosts) e).run.makers
      (subst (λ es. AllMade (IsMade (plain_hosts hosts)) es (dvr_fate hosts e).run.run.makers) fresh-is (dvr-made hosts once e))
      (fate-placed (plain_hosts hosts) once e (all-of IsAttached (plain_hosts hosts) h.held.synced.placed)).made

  after-plain : plain_hosts (dvr_hosts_after hosts e) ≡ hosts_after (plain_hosts hosts) e
  after-plain =
      kept-same-hosts (dvr_fate hosts e).run hosts
      ∙ ap (λ es. map (with_made es (dvr_fate hosts e).run.run.makers) (plain_hosts hosts)) fresh-is
      ∙ ap (λ ms. map (with_made (fabric_fate (plain_hosts hosts) e).run.fresh ms) (plain_hosts hosts)) makers-is
      ∙ sym (after-is (plain_hosts hosts) once e)

  pub dvr-held : HoldCopies carry rows (dvr_hosts_after hosts e)
  dvr-held = record {
    held = subst (HoldRows carry rows) (sym after-plain) (held-after carry rows (plain_hosts hosts) h.held e);
    copied = each-of (λ (d : DvrHost). d.copies ≡ copies_for rows d.host.name) (dvr_hosts_after hosts e) (AllOf-map (λ (d : DvrHost). d.copies ≡ copies_for rows d.host.name) (with_made_entries (dvr_fate hosts e).run) hosts (all-of (λ (d : DvrHost). d.copies ≡ copies_for rows d.host.name) hosts h.copied));
  }

  pub entries-after : SameEntries (every (dvr_hosts_after hosts e)) (every hosts ++ (rows_fate rows (every hosts) e).fresh)
  entries-after =
      subst (λ hs. SameEntries (all_entries hs) (every hosts ++ (rows_fate rows (every hosts) e).fresh)) (sym after-plain)
      (subst (λ es. SameEntries (all_entries (hosts_after (plain_hosts hosts) e)) (every hosts ++ es)) (ap (λ (f : Fate). f.fresh) base)
      (entries-kept carry rows (plain_hosts hosts) h.held e))

pub lists-mean-rows-dvr : (carry : List ℕ → Segment → Bool) (rows : RowLists) (hosts : List DvrHost) → HoldCopies carry rows hosts → (events : List Event) → dvr_meants hosts events ≡ dvr_meanings rows (every hosts) (names_of_hosts hosts) events
unfolding dvr_meants dvr_meanings
lists-mean-rows-dvr carry rows hosts h [] = refl
lists-mean-rows-dvr carry rows hosts h (e ∷ events) =
    ap (λ v. v ∷ dvr_meants (dvr_hosts_after hosts e) events) (tables-mean-rows-dvr carry rows hosts h e)
    ∙ ap (λ vs. dvr_meaning rows (every hosts) (names_of_hosts hosts) e ∷ vs)
    (lists-mean-rows-dvr carry rows (dvr_hosts_after hosts e) (dvr-held carry rows hosts h e) events
    ∙ ap (λ ns. dvr_meanings rows (every (dvr_hosts_after hosts e)) ns events) (names-after (dvr_fate hosts e).run hosts)
    ∙ tolds-same rows (names_of_hosts hosts) (every (dvr_hosts_after hosts e)) (every hosts ++ (rows_fate rows (every hosts) e).fresh) (entries-after carry rows hosts h e) events)
