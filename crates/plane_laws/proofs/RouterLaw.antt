-- A packet at a router's port comes to what the rows say.
use Rattle.std.proofs.Common.{◌≡◌, ℕ, suc, ◌+◌, ◌-◌, ◌*◌, ◌<◌, ◌≤◌, List, [], ◌∷◌, ◌++◌, Bool, true, false, cond, Option, Some, None, refl, ap, sym, subst, ◌∙◌, arith}
use Rattle.std.specs.Prelude.{find, option_and_then, option_map, ◌&&◌, if◌then◌else◌, is_some}
use Rattle.std.specs.List.{filter}
use Rattle.std.proofs.lemmas.Bool.{and_from}
use Rattle.std.proofs.lemmas.List.{append-nil}
use Rattle.api_types.proofs.NameLemmas.{ident_itself, bytes_same}
use Rattle.plane_laws.proofs.ListLemmas.{find-passes, find-each, find-only, some_of, find-filter}
use Rattle.plane_laws.proofs.Located.{tag-row}
use Rattle.plane_laws.proofs.Sent.{trace_of, walk-on, trace-plain}
use Rattle.plane_laws.proofs.SentLaw.{Lands, sent-law}
use Rattle.plane_laws.proofs.EntriesLaw.{uses-located}
use Rattle.plane_laws.proofs.Neighbours.{row_at, neighbour-located, holder-at}
use Rattle.plane_laws.proofs.RouterTables.{Lower, routed-lower, routed-same}
use Rattle.plane_laws.proofs.RouterView.{router-located, view-located, leg-located, leg-here, leg-tagged}
use Rattle.net_addr.specs.declared.address.Addr.{Addr}
use Rattle.api_types.specs.Ident.{Ident}
use Rattle.api_types.specs.Owners.{device_is, is_router_port}
use Rattle.api_types.specs.RowLists.{RowLists}
use Rattle.api_types.specs.declared.network.NetworkRow.{NetworkRow}
use Rattle.api_types.specs.declared.port.PortRow.{PortRow}
use Rattle.api_types.specs.declared.router.RouterRow.{RouterRow}
use Rattle.plane_types.specs.Fabric.{Run, after_step, meant, network_at, step_path, fate_after, walk}
use Rattle.api_types.specs.Holders.{holder, port_at, router_of}
use Rattle.plane_types.specs.Hosts.{Host, all_entries, is_named}
use Rattle.api_types.specs.Live.{is_joined, is_live, joined_with, segment}
use Rattle.api_types.specs.RowsWith.{network_with}
use Rattle.api_types.specs.Wires.{wire_of}
use Rattle.plane_types.specs.Meaning.{Trace, end_fate, port_fate, after_router, handed_out, handed_to, out_or, sent_to, with_fresh, with_path}
use Rattle.plane_types.specs.Packets.{Packet, ip_frame}
use Rattle.plane_types.specs.Places.{Bridge, End, Next, Place, RouterIn}
use Rattle.api_types.specs.RouterRows.{gateway_address, has_snat, is_leg_of, leg_of, legs_of, router_view}
use Rattle.plane_types.specs.Routing.{RouteEnds, RouteSends, Routed, routing_of, uses_by}
use Rattle.api_types.specs.RouterViews.{Leg}
use Rattle.plane_types.specs.TableRows.{is_on_host, is_hosted, router_port, router_row, tag_of, tagged_by}
use Rattle.plane_types.specs.TableStep.{Stepped, router_by_leg, router_by_row, sent_at, sent_by, table_routed, table_step, tag_row, unheld}
use Rattle.plane_types.specs.declared.entry.Entry.{Entry}
use Rattle.api_types.specs.declared.wire.Wire.{Wire}
use Rattle.plane_types.specs.declared.verdict.DropCause.TheVariants.{NoHolder, Unknown}
use Rattle.plane_types.specs.declared.verdict.Outcome.{Outcome}
use Rattle.plane_types.specs.declared.verdict.Outcome.TheVariants.{Dropped, Out}
use Rattle.plane_types.specs.declared.verdict.Toward.TheVariants.{Address as TowardAddress}
use Rattle.plane_laws.proofs.Facts.{AtMostOne, FrameFacts, HostFacts, RouterPortStands, SyncedFacts, has_id}

-- a step that makes entries and adds this to the path
pub trace-step : (h : Host) (place : Place) (s : Stepped) (run : Run) (ids : List Ident) → step_path h place s.step ≡ ids → trace_of (after_step h place s run) ≡ with_path (with_fresh (trace_of run) s.made) ids
trace-step h place s run ids e = ap (λ x. record { path = run.path ++ x; fresh = run.fresh ++ s.made }) e

pub no-path : (t : Trace) → with_path t [] ≡ t
no-path t = ap (λ x. record { path = x; fresh = t.fresh }) (append-nil t.path)

pub joined-found : (rows : RowLists) (host : List ℕ) (o : Option PortRow) (q : PortRow) → joined_with rows host o ≡ Some q → (o ≡ Some q) × (is_joined rows q host ≡ true)
joined-found rows host None q h = cc
joined-found rows host (Some x) q h = go (is_joined rows x host) refl h
  where
    go : (b : Bool) → is_joined rows x host ≡ b → (if b then Some x else None) ≡ Some q → (Some x ≡ Some q) × (is_joined rows q host ≡ true)
    go false e h = cc
    go true e h = let same : x ≡ q = cc in (h, subst (λ (z : PortRow). is_joined rows z host ≡ true) same e)

pub passes-filter : {X : Type 0} (p r : X → Bool) (xs : List X) (y : X) → find p (filter r xs) ≡ Some y → r y ≡ true
passes-filter p r [] y h = cc
passes-filter {X} p r (x ∷ xs) y h = go (r x) (p x) refl refl h (passes-filter p r xs y)
  where
    go : (b c : Bool) → r x ≡ b → p x ≡ c → find p (cond b (x ∷ filter r xs) (filter r xs)) ≡ Some y → (find p (filter r xs) ≡ Some y → r y ≡ true) → r y ≡ true
    go false c e f h rest = rest h
    go true true e f h rest = let k : Some x ≡ Some y = ap (λ b. cond b (Some x) (find p (filter r xs))) (sym f) ∙ h in let same : x ≡ y = cc in subst (λ z. r z ≡ true) same e
    go true false e f h rest = rest (ap (λ b. cond b (Some x) (find p (filter r xs))) (sym f) ∙ h)

pub from-filter : {X : Type 0} (p r t : X → Bool) (xs : List X) (y : X) → find p (filter r xs) ≡ Some y → t y ≡ true → AtMostOne t xs → find t xs ≡ Some y
from-filter p r t [] y h e one = cc
from-filter {X} p r t (x ∷ xs) y h e one = go (r x) (p x) (t x) refl refl refl h (λ k. from-filter p r t xs y k e one.1)
  where
    go : (b c d : Bool) → r x ≡ b → p x ≡ c → t x ≡ d → find p (cond b (x ∷ filter r xs) (filter r xs)) ≡ Some y → (find p (filter r xs) ≡ Some y → find t xs ≡ Some y) → cond d (Some x) (find t xs) ≡ Some y
    go false c true f g k h rest = let bad : None ≡ Some y = sym (one.0 k) ∙ rest h in cc
    go false c false f g k h rest = rest h
    go true true d f g k h rest = let m : Some x ≡ Some y = ap (λ b. cond b (Some x) (find p (filter r xs))) (sym g) ∙ h in let same : x ≡ y = cc in ap (λ b. cond b (Some x) (find t xs)) (sym k ∙ subst (λ z. t z ≡ true) (sym same) e) ∙ m
    go true false true f g k h rest = let bad : None ≡ Some y = sym (one.0 k) ∙ rest (ap (λ b. cond b (Some x) (find p (filter r xs))) (sym g) ∙ h) in cc
    go true false false f g k h rest = rest (ap (λ b. cond b (Some x) (find p (filter r xs))) (sym g) ∙ h)

module _ (rows : RowLists) (hosts : List Host) (good : FrameFacts rows) (synced : SyncedFacts rows hosts) (many : ℕ) (lands : Lands rows hosts many) where
  module _ (steps : ℕ) (enough : 3 * many + 4 ≤ steps) (h : Host) (test : PortRow → Bool) (q : PortRow) (found : find test rows.ports ≡ Some q) (live : is_live rows q ≡ true) (router : is_router_port q.owner ≡ true) (named : find (is_named q.host) hosts ≡ Some h) (r : RouterRow) (router_is : router_of rows q ≡ Some r) (p : Packet) (lives : p.ttl < suc many) (run : Run) where
    real : HostFacts rows h.name h.tables
    real = find-each (λ (y : Host). HostFacts rows y.name y.tables) (is_named q.host) hosts h synced.realise named

    abbrev of_device : RouterRow → Bool
    of_device z = device_is q.device z.id

    host_is : q.host ≡ h.name
    host_is = bytes_same q.host h.name (find-passes (is_named q.host) hosts h named)

    self : find (is_named h.name) hosts ≡ Some h
    self = ap (λ m. find (is_named m) hosts) (sym host_is) ∙ named

    here : is_on_host h.name r ≡ true
    here = ap (λ m. is_on_host m r) (sym host_is) ∙ ap (is_hosted q.host) (sym router_is) ∙ find-each (RouterPortStands rows) test rows.ports q good.router_ports found router live

    by_id : find (has_id q.id) rows.ports ≡ Some q
    by_id = find-only test (has_id q.id) rows.ports q (good.port_ids q.id) found (ident_itself q.id)

    is_leg : is_leg_of rows r q ≡ true
    is_leg = and_from (is_router_port q.owner && device_is q.device r.id) (is_live rows q) (and_from (is_router_port q.owner) (device_is q.device r.id) router (find-passes (λ (z : RouterRow). device_is q.device z.id) rows.routers r router_is)) live

    leg_found : find (has_id q.id) (legs_of rows r) ≡ Some q
    unfolding legs_of
    leg_found = find-filter (has_id q.id) (is_leg_of rows r) rows.ports q (good.port_ids q.id) by_id is_leg

    view-uses : uses_by (router_view rows r).snat (router_view rows r).gateway (router_view rows r).id (h.entries ++ run.fresh) ≡ uses_by (router_view rows r).snat (router_view rows r).gateway (router_view rows r).id (all_entries hosts ++ run.fresh)
    unfolding router_view
    view-uses = uses-located rows hosts good synced of_device r router_is h.name here h self (has_snat r.gateway) (gateway_address rows r) run.fresh

    step-is : table_step h.tables (h.entries ++ run.fresh) (RouterIn q.id r.id (ip_frame p)) ≡ table_routed h.tables (router_row rows h.tables.tags r) (routing_of (router_view rows r) (all_entries hosts ++ run.fresh) (leg_of q) p)
    step-is =
        let tag = some_of (tag_of h.tables.tags q.network) (leg-tagged rows h.name h.tables real good of_device r router_is here q by_id is_leg) in
        ap (router_by_row h.tables (h.entries ++ run.fresh) q.id p) (router-located rows h.name h.tables real good of_device r router_is here)
        ∙ ap (router_by_leg h.tables (h.entries ++ run.fresh) (router_row rows h.tables.tags r) p) (leg-located rows h.name h.tables real good of_device r router_is here q.id ∙ ap (option_and_then (tagged_by rows h.tables.tags)) leg_found ∙ ap (option_map (λ tag. router_port rows q tag)) tag.1)
        ∙ ap (λ v. table_routed h.tables (router_row rows h.tables.tags r) (routing_of v (h.entries ++ run.fresh) (leg_of q) p)) (view-located rows h.name h.tables real good of_device r router_is here)
        ∙ ap (table_routed h.tables (router_row rows h.tables.tags r)) (routed-same (router_view rows r) (h.entries ++ run.fresh) (all_entries hosts ++ run.fresh) (leg_of q) p view-uses)

    ended-by : (made : List Entry) (o : Outcome) (way : Option Ident) (ids : List Ident) → step_path h (RouterIn q.id r.id (ip_frame p)) (End o way) ≡ ids → meant (fate_after hosts (walk hosts (steps - 1)) h (RouterIn q.id r.id (ip_frame p)) run (record { step = End o way; made = made })) ≡ end_fate (with_path (with_fresh (trace_of run) made) ids) o
    ended-by made o way ids e = ap (λ t. end_fate t o) (trace-step h (RouterIn q.id r.id (ip_frame p)) (record { step = End o way; made = made }) run ids e)

    module _ (made : List Entry) (out : Leg) (hop : Addr) (p2 : Packet) (lower : p2.ttl < p.ttl) where
      no-leg : find (has_id out.port) (legs_of rows r) ≡ None → meant (fate_after hosts (walk hosts (steps - 1)) h (RouterIn q.id r.id (ip_frame p)) run (table_routed h.tables (router_row rows h.tables.tags r) (RouteSends made out hop p2))) ≡ after_router rows (port_fate rows (all_entries hosts) many) r (trace_of run) (RouteSends made out hop p2)
      no-leg e =
          ap (λ o. meant (fate_after hosts (walk hosts (steps - 1)) h (RouterIn q.id r.id (ip_frame p)) run (record { step = sent_at h.tables hop p2 o; made = made }))) (leg-located rows h.name h.tables real good of_device r router_is here out.port ∙ ap (option_and_then (tagged_by rows h.tables.tags)) e)
          ∙ ended-by made (Dropped Unknown) None [] refl
          ∙ ap (λ t. end_fate t (Dropped Unknown)) (no-path (with_fresh (trace_of run) made))
          ∙ sym (ap (handed_out rows (port_fate rows (all_entries hosts) many) r hop p2 (with_fresh (trace_of run) made)) e)

      module _ (o : PortRow) (leg : find (has_id out.port) (legs_of rows r) ≡ Some o) where
        is_leg2 : is_leg_of rows r o ≡ true
        unfolding legs_of
        is_leg2 = passes-filter (has_id out.port) (is_leg_of rows r) rows.ports o leg

        by_id2 : find (has_id o.id) rows.ports ≡ Some o
        unfolding legs_of
        by_id2 = from-filter (has_id out.port) (is_leg_of rows r) (has_id o.id) rows.ports o leg (ident_itself o.id) (good.port_ids o.id)

        tag2 : (tag : ℕ) × (tag_of h.tables.tags o.network ≡ Some tag)
        tag2 = some_of (tag_of h.tables.tags o.network) (leg-tagged rows h.name h.tables real good of_device r router_is here o by_id2 is_leg2)

        host2 : o.host ≡ h.name
        host2 = leg-here rows h.name h.tables real good of_device r router_is here o by_id2 is_leg2

        net2 : (net : NetworkRow) × (network_with rows o.network ≡ Some net)
        net2 = some_of (network_with rows o.network) (find-each (λ (y : PortRow). is_some (network_with rows y.network) ≡ true) (has_id o.id) rows.ports o good.networks_stand by_id2)

        row2 : tag_row h.tables tag2.0 ≡ Some (record { network = o.network; tag = tag2.0; wire = wire_of (segment rows o.network) })
        row2 = tag-row rows h.name h.tables.tags real.tags o.network tag2.0 tag2.1

        after : Trace
        after = with_path (with_fresh (trace_of run) made) (r.id ∷ o.network ∷ [])

        meaning : (j : Option PortRow) → joined_with rows h.name (holder rows o.network hop) ≡ j → after_router rows (port_fate rows (all_entries hosts) many) r (trace_of run) (RouteSends made out hop p2) ≡ handed_to rows (port_fate rows (all_entries hosts) many) o.network hop p2 (with_path (with_fresh (trace_of run) made) (r.id ∷ o.network ∷ [])) j
        meaning j e =
            ap (handed_out rows (port_fate rows (all_entries hosts) many) r hop p2 (with_fresh (trace_of run) made)) leg
            ∙ ap (λ m. handed_to rows (port_fate rows (all_entries hosts) many) o.network hop p2 (with_path (with_fresh (trace_of run) made) (r.id ∷ o.network ∷ [])) (joined_with rows m (holder rows o.network hop))) host2
            ∙ ap (handed_to rows (port_fate rows (all_entries hosts) many) o.network hop p2 (with_path (with_fresh (trace_of run) made) (r.id ∷ o.network ∷ []))) e

        stepped : (j : Option PortRow) → joined_with rows h.name (holder rows o.network hop) ≡ j → table_routed h.tables (router_row rows h.tables.tags r) (RouteSends made out hop p2) ≡ record { step = sent_by h.tables tag2.0 hop p2 (option_map (row_at tag2.0 hop) j); made = made }
        stepped j e =
            ap (λ x. record { step = sent_at h.tables hop p2 x; made = made }) (leg-located rows h.name h.tables real good of_device r router_is here out.port ∙ ap (option_and_then (tagged_by rows h.tables.tags)) leg ∙ ap (option_map (λ tag. router_port rows o tag)) tag2.1)
            ∙ ap (λ x. record { step = sent_by h.tables tag2.0 hop p2 x; made = made }) (neighbour-located rows h.name h.tables real good o.network tag2.0 tag2.1 hop ∙ ap (option_map (row_at tag2.0 hop)) e)

        unheld-by : joined_with rows h.name (holder rows o.network hop) ≡ None → (w : Option Wire) → wire_of (segment rows o.network) ≡ w → meant (fate_after hosts (walk hosts (steps - 1)) h (RouterIn q.id r.id (ip_frame p)) run (table_routed h.tables (router_row rows h.tables.tags r) (RouteSends made out hop p2))) ≡ after_router rows (port_fate rows (all_entries hosts) many) r (trace_of run) (RouteSends made out hop p2)
        unheld-by e None f =
            ap (λ s. meant (fate_after hosts (walk hosts (steps - 1)) h (RouterIn q.id r.id (ip_frame p)) run s)) (stepped None e ∙ ap (λ x. record { step = unheld hop p2 x; made = made }) (row2 ∙ ap (λ w. Some (record { network = o.network; tag = tag2.0; wire = w })) f))
            ∙ ended-by made (Dropped NoHolder) (Some o.network) (r.id ∷ o.network ∷ []) refl
            ∙ sym (meaning None e ∙ ap (λ w. end_fate (with_path (with_fresh (trace_of run) made) (r.id ∷ o.network ∷ [])) (out_or w o.network (TowardAddress hop) (ip_frame (record p2 { dst = 0 })) NoHolder)) f)
        unheld-by e (Some w) f =
            ap (λ s. meant (fate_after hosts (walk hosts (steps - 1)) h (RouterIn q.id r.id (ip_frame p)) run s)) (stepped None e ∙ ap (λ x. record { step = unheld hop p2 x; made = made }) (row2 ∙ ap (λ w. Some (record { network = o.network; tag = tag2.0; wire = w })) f))
            ∙ ended-by made (Out o.network (TowardAddress hop) (ip_frame (record p2 { dst = 0 }))) (Some o.network) (r.id ∷ o.network ∷ []) refl
            ∙ sym (meaning None e ∙ ap (λ w. end_fate (with_path (with_fresh (trace_of run) made) (r.id ∷ o.network ∷ [])) (out_or w o.network (TowardAddress hop) (ip_frame (record p2 { dst = 0 })) NoHolder)) f)

        held-by : (q2 : PortRow) → joined_with rows h.name (holder rows o.network hop) ≡ Some q2 → meant (fate_after hosts (walk hosts (steps - 1)) h (RouterIn q.id r.id (ip_frame p)) run (table_routed h.tables (router_row rows h.tables.tags r) (RouteSends made out hop p2))) ≡ after_router rows (port_fate rows (all_entries hosts) many) r (trace_of run) (RouteSends made out hop p2)
        held-by q2 e =
            let both = joined-found rows h.name (holder rows o.network hop) q2 e in
            let at : port_at rows o.network q2.mac ≡ Some q2 = holder-at rows good o.network hop q2 both.0 in
            let s : Stepped = record { step = Next (Bridge tag2.0 (ip_frame (record p2 { dst = q2.mac }))); made = made } in
            ap (λ s. meant (fate_after hosts (walk hosts (steps - 1)) h (RouterIn q.id r.id (ip_frame p)) run s)) (stepped (Some q2) e)
            ∙ sent-law rows hosts good synced many lands (steps - 1) h o.network net2.0 tag2.0 (record p2 { dst = q2.mac }) (after_step h (RouterIn q.id r.id (ip_frame p)) (record { step = Next (Bridge tag2.0 (ip_frame (record p2 { dst = q2.mac }))); made = made }) run) (omega arith) self net2.1 tag2.1 (omega arith)
            ∙ ap (λ x. sent_to rows (port_fate rows (all_entries hosts) many) o.network (record p2 { dst = q2.mac }) (trace_of (after_step h (RouterIn q.id r.id (ip_frame p)) (record { step = Next (Bridge tag2.0 (ip_frame (record p2 { dst = q2.mac }))); made = made }) run)) (joined_with rows h.name x)) at
            ∙ ap (λ b. sent_to rows (port_fate rows (all_entries hosts) many) o.network (record p2 { dst = q2.mac }) (trace_of (after_step h (RouterIn q.id r.id (ip_frame p)) (record { step = Next (Bridge tag2.0 (ip_frame (record p2 { dst = q2.mac }))); made = made }) run)) (if b then Some q2 else None)) both.1
            ∙ ap (port_fate rows (all_entries hosts) many q2 (record p2 { dst = q2.mac })) (trace-step h (RouterIn q.id r.id (ip_frame p)) (record { step = Next (Bridge tag2.0 (ip_frame (record p2 { dst = q2.mac }))); made = made }) run (r.id ∷ o.network ∷ []) (ap (λ x. r.id ∷ network_at x) row2))
            ∙ sym (meaning (Some q2) e)

        with-leg : meant (fate_after hosts (walk hosts (steps - 1)) h (RouterIn q.id r.id (ip_frame p)) run (table_routed h.tables (router_row rows h.tables.tags r) (RouteSends made out hop p2))) ≡ after_router rows (port_fate rows (all_entries hosts) many) r (trace_of run) (RouteSends made out hop p2)
        with-leg = by (joined_with rows h.name (holder rows o.network hop)) refl
          where
            by : (j : Option PortRow) → joined_with rows h.name (holder rows o.network hop) ≡ j → meant (fate_after hosts (walk hosts (steps - 1)) h (RouterIn q.id r.id (ip_frame p)) run (table_routed h.tables (router_row rows h.tables.tags r) (RouteSends made out hop p2))) ≡ after_router rows (port_fate rows (all_entries hosts) many) r (trace_of run) (RouteSends made out hop p2)
            by None e = unheld-by e (wire_of (segment rows o.network)) refl
            by (Some q2) e = held-by q2 e

      sends : meant (fate_after hosts (walk hosts (steps - 1)) h (RouterIn q.id r.id (ip_frame p)) run (table_routed h.tables (router_row rows h.tables.tags r) (RouteSends made out hop p2))) ≡ after_router rows (port_fate rows (all_entries hosts) many) r (trace_of run) (RouteSends made out hop p2)
      sends = by (find (has_id out.port) (legs_of rows r)) refl
        where
          by : (o : Option PortRow) → find (has_id out.port) (legs_of rows r) ≡ o → meant (fate_after hosts (walk hosts (steps - 1)) h (RouterIn q.id r.id (ip_frame p)) run (table_routed h.tables (router_row rows h.tables.tags r) (RouteSends made out hop p2))) ≡ after_router rows (port_fate rows (all_entries hosts) many) r (trace_of run) (RouteSends made out hop p2)
          by None e = no-leg e
          by (Some o) e = with-leg o e

    by-routed : (x : Routed) → Lower (router_view rows r).id p.ttl x → meant (fate_after hosts (walk hosts (steps - 1)) h (RouterIn q.id r.id (ip_frame p)) run (table_routed h.tables (router_row rows h.tables.tags r) x)) ≡ after_router rows (port_fate rows (all_entries hosts) many) r (trace_of run) x
    by-routed (RouteEnds o) low = ap (λ t. end_fate t o) (trace-plain h (RouterIn q.id r.id (ip_frame p)) (End o None) run refl)
    by-routed (RouteSends made out hop p2) low = sends made out hop p2 low

    pub router-law : meant (walk hosts steps h (RouterIn q.id r.id (ip_frame p)) run) ≡ after_router rows (port_fate rows (all_entries hosts) many) r (trace_of run) (routing_of (router_view rows r) (all_entries hosts ++ run.fresh) (leg_of q) p)
    router-law =
        ap meant (walk-on hosts steps h (RouterIn q.id r.id (ip_frame p)) run (omega arith))
        ∙ ap (λ s. meant (fate_after hosts (walk hosts (steps - 1)) h (RouterIn q.id r.id (ip_frame p)) run s)) step-is
        ∙ by-routed (routing_of (router_view rows r) (all_entries hosts ++ run.fresh) (leg_of q) p) (routed-lower (router_view rows r) (all_entries hosts ++ run.fresh) (leg_of q) p)
