-- Hosts with copies make entries at the hosts at which hosts without copies make them.
use Rattle.api_types.proofs.ListLemmas.{some_equal}
use Rattle.api_types.proofs.NameLemmas.{bytes_itself, bytes_same}
use Rattle.api_types.specs.Ident.{Ident}
use Rattle.api_types.specs.Lists.{Each}
use Rattle.api_types.specs.Live.{is_at, is_here, is_live}
use Rattle.api_types.specs.Members.{once}
use Rattle.api_types.specs.Owners.{is_router_port}
use Rattle.api_types.specs.RowLists.{RowLists}
use Rattle.api_types.specs.Table.{ident_eq}
use Rattle.api_types.specs.declared.port.PortRow.{PortRow}
use Rattle.api_types.specs.declared.router.RouterRow.{RouterRow}
use Rattle.api_types.specs.declared.wire.Wire.{Wire}
use Rattle.dvr_laws.proofs.DvrParts.{host_of, look, looked}
use Rattle.dvr_laws.proofs.HostsLaw.{host-of}
use Rattle.dvr_types.specs.CopySteps.{CopyEnds, CopySends, CopyStep, Handled, handled_here}
use Rattle.dvr_types.specs.DvrFabric.{At, DvrFate, DvrHost, DvrPlace, DvrRun, On, dvr_fate, dvr_walk, fate_at_place, fate_at_router, fate_of_dvr, fate_toward, from_dvr_tap, from_dvr_wire, handled_at, is_dvr_named, next_of_copy, next_of_tables, over_dvr_tunnel, over_dvr_wire, run_at, run_at_first, run_nowhere, with_passed}
use Rattle.dvr_types.specs.DvrVerdicts.{plain_hosts}
use Rattle.dvr_types.specs.declared.copies.NearTo.{NearTo}
use Rattle.dvr_types.specs.declared.copies.NearTo.TheVariants.{Router as NearRouter, Tap as NearTap, Tunnel as NearTunnel}
use Rattle.plane_laws.proofs.Counted.{all-of}
use Rattle.plane_laws.proofs.Facts.{AtMostOne, FrameFacts, has_id, is_tap_id, stands_at}
use Rattle.plane_laws.proofs.ListLemmas.{AtMostOne-from_map, any-only, find-each, find-map, find-only, find-passes, find-some}
use Rattle.plane_laws.proofs.MadeLaw.{Admits, step-admits}
use Rattle.plane_laws.proofs.PlacedLaw.{AllMade, IsMade}
use Rattle.plane_laws.proofs.SyncedHold.{entry-stands}
use Rattle.plane_types.specs.Fabric.{at_inward, at_tap, steps_for, takes}
use Rattle.plane_types.specs.Hosts.{Host, is_named}
use Rattle.plane_types.specs.Meaning.{life_of}
use Rattle.plane_types.specs.Packets.{Packet, ip_frame, is_unsupported}
use Rattle.plane_types.specs.Places.{End, Next, Place, Step, TapIn, TapOut, ToTunnel, ToWire, TunnelIn, WireIn}
use Rattle.plane_types.specs.Realises.{Realises}
use Rattle.plane_types.specs.TableRows.{is_on_host, is_tap}
use Rattle.plane_types.specs.TableStep.{inward_at, tap_at}
use Rattle.plane_types.specs.declared.entry.Entry.{Entry}
use Rattle.plane_types.specs.declared.entry.Entry.TheVariants.{Flow, Snat}
use Rattle.plane_types.specs.declared.event.Event.{Event}
use Rattle.plane_types.specs.declared.event.Event.TheVariants.{FromPort, FromWire}
use Rattle.plane_types.specs.declared.frame.Frame.{Frame}
use Rattle.plane_types.specs.declared.table.Carrier.TheVariants.{Wire as ByWire}
use Rattle.plane_types.specs.declared.verdict.DropCause.TheVariants.{Unsupported}
use Rattle.plane_types.specs.declared.verdict.Outcome.TheVariants.{Dropped}
use Rattle.plane_types.specs.declared.verdict.Toward.{Toward}
use Rattle.std.proofs.Common.{Bool, List, None, Option, Some, [], ap, false, not, refl, subst, suc, sym, true, zero, ℕ, ◌++◌, ◌∙◌, ◌∷◌, ◌≡◌}
use Rattle.std.proofs.lemmas.Bool.{and_parts}
use Rattle.std.proofs.lemmas.List.{append-nil}
use Rattle.std.specs.List.{list_any}
use Rattle.std.specs.Prelude.{find, if◌then◌else◌, is_some, option_map, ◌&&◌, ◌||◌}
use Rattle.std.specs.Str.{bytes_eq}

abbrev pub Made : List DvrHost → DvrRun → Type 0
Made hosts run = AllMade (IsMade (plain_hosts hosts)) run.run.fresh run.run.makers

pushed : (P : Entry → List ℕ → Type 0) (es : List Entry) (ms : List (List ℕ)) (e : Entry) (m : List ℕ) → AllMade P es ms → P e m → AllMade P (es ++ e ∷ []) (ms ++ m ∷ [])
pushed P [] [] e m h new = (new, tt)
pushed P [] (n ∷ ms) e m h new = absurd h
pushed P (x ∷ es) [] e m h new = absurd h
pushed P (x ∷ es) (n ∷ ms) e m h new = (h.0, pushed P es ms e m h.1 new)

module _ (hosts : List DvrHost) (once : (name : List ℕ) → AtMostOne (is_named name) (plain_hosts hosts)) where
  by-name : (test : DvrHost → Bool) (d : DvrHost) → find test hosts ≡ Some d → find (is_named d.host.name) (plain_hosts hosts) ≡ Some d.host
  by-name test d e =
      find-map (is_named d.host.name) host_of hosts
      ∙ ap (option_map host_of) (find-only test (is_dvr_named d.host.name) hosts d (AtMostOne-from_map (is_named d.host.name) host_of hosts (once d.host.name)) e (bytes_itself d.host.name))

  stepped-made : (d : DvrHost) (place : Place) (run : DvrRun) → find (is_named d.host.name) (plain_hosts hosts) ≡ Some d.host → Made hosts run → (step : Step) (made : List Entry) → Admits d.host.tables (d.host.entries ++ run.run.fresh) made → Made hosts (looked d place (record { step = step; made = made }) run)
  stepped-made d place run found old step [] a = subst (λ es. AllMade (IsMade (plain_hosts hosts)) es (run.run.makers ++ [])) (sym (append-nil run.run.fresh)) (subst (λ ms. AllMade (IsMade (plain_hosts hosts)) run.run.fresh ms) (sym (append-nil run.run.makers)) old)
  stepped-made d place run found old step (e ∷ []) a = pushed (IsMade (plain_hosts hosts)) run.run.fresh run.run.makers e d.host.name old (record { host = d.host; named = found; placed = a.0 })
  stepped-made d place run found old step (e ∷ f ∷ es) a = absurd a

  abbrev Keeps : ℕ → Type 0
  Keeps many = (d : DvrHost) (place : DvrPlace) (run : DvrRun) → find (is_named d.host.name) (plain_hosts hosts) ≡ Some d.host → Made hosts run → Made hosts (dvr_walk hosts many d place run).run

  module _ (many : ℕ) (rest : Keeps many) where
    tunnel : (d : DvrHost) (number : ℕ) (frame : Frame) (run : DvrRun) → Made hosts run → (o : Option DvrHost) (test : DvrHost → Bool) → find test hosts ≡ o → Made hosts (over_dvr_tunnel (dvr_walk hosts many) d number frame run o).run
    tunnel d number frame run old None test e = old
    tunnel d number frame run old (Some x) test e = rest x (At (TunnelIn number frame)) (run_at d x run) (by-name test x e) old

    wire : (d : DvrHost) (w : Wire) (n : Ident) (toward : Toward) (frame : Frame) (run : DvrRun) → Made hosts run → (o : Option DvrHost) (test : DvrHost → Bool) → find test hosts ≡ o → Made hosts (over_dvr_wire (dvr_walk hosts many) d w n toward frame run o).run
    wire d w n toward frame run old None test e = old
    wire d w n toward frame run old (Some x) test e = rest x (At (WireIn w frame)) (run_at d x run) (by-name test x e) old

    copy-made : (d : DvrHost) (run : DvrRun) → find (is_named d.host.name) (plain_hosts hosts) ≡ Some d.host → Made hosts run → (r : Ident) (s : CopyStep) → Made hosts (next_of_copy (dvr_walk hosts many) d run r s).run
    copy-made d run found old r (CopyEnds o way) = old
    copy-made d run found old r (CopySends n to p) = rest d (On n to p) (with_passed run (r ∷ n ∷ [])) found old

    moved-made : (d : DvrHost) (run : DvrRun) → find (is_named d.host.name) (plain_hosts hosts) ≡ Some d.host → Made hosts run → (s : Step) → Made hosts (next_of_tables hosts (dvr_walk hosts many) d run s).run
    moved-made d run found old (Next place) = rest d (At place) run found old
    moved-made d run found old (End o way) = old
    moved-made d run found old (ToTunnel name number frame) = tunnel d number frame run old (find (is_dvr_named name) hosts) (is_dvr_named name) refl
    moved-made d run found old (ToWire w n toward frame) = wire d w n toward frame run old (find (λ (x : DvrHost). not (bytes_eq x.host.name d.host.name) && takes w frame x.host) hosts) (λ (x : DvrHost). not (bytes_eq x.host.name d.host.name) && takes w frame x.host) refl

    place-made : (d : DvrHost) (place : Place) (run : DvrRun) → find (is_named d.host.name) (plain_hosts hosts) ≡ Some d.host → Made hosts run → (o : Option Handled) → Made hosts (fate_at_place hosts (dvr_walk hosts many) d place run o).run
    place-made d place run found old None =
        let s = look d place run in
        moved-made d (looked d place (look d place run) run) found (stepped-made d place run found old (look d place run).step (look d place run).made (step-admits d.host.tables (d.host.entries ++ run.run.fresh) place)) (look d place run).step
    place-made d place run found old (Some x) = copy-made d run found old x.router x.step

    router-made : (d : DvrHost) (host : List ℕ) (number : ℕ) (p : Packet) (run : DvrRun) → find (is_named d.host.name) (plain_hosts hosts) ≡ Some d.host → Made hosts run → (o : Option Handled) → Made hosts (fate_at_router hosts (dvr_walk hosts many) d host number p run o).run
    router-made d host number p run found old None = tunnel d number (ip_frame p) run old (find (is_dvr_named host) hosts) (is_dvr_named host) refl
    router-made d host number p run found old (Some x) = copy-made d run found old x.router x.step

    end-made : (d : DvrHost) (n : Ident) (p : Packet) (run : DvrRun) → find (is_named d.host.name) (plain_hosts hosts) ≡ Some d.host → Made hosts run → (to : NearTo) → Made hosts (fate_toward hosts (dvr_walk hosts many) d n p run to).run
    end-made d n p run found old (NearTap port) = rest d (At (TapOut port (ip_frame p))) run found old
    end-made d n p run found old (NearTunnel host number) = tunnel d number (ip_frame p) run old (find (is_dvr_named host) hosts) (is_dvr_named host) refl
    end-made d n p run found old (NearRouter r host number) = router-made d host number p run found old (handled_here d.copies n p)

  walk-made : (many : ℕ) → Keeps many
  unfolding dvr_walk
  walk-made zero d place run found old = old
  walk-made (suc many) d (At place) run found old = place-made many (walk-made many) d place run found old (handled_at d.copies d.host.tables place)
  walk-made (suc many) d (On n to p) run found old = end-made many (walk-made many) d n p run found old to

  abbrev run_in : DvrFate → DvrRun
  run_in f = f.run

  -- of any event
  pub dvr-made : (event : Event) → Made hosts (dvr_fate hosts event).run
  unfolding dvr_fate
  dvr-made (FromPort port frame) = go (find (λ (d : DvrHost). is_some (tap_at d.host.tables port)) hosts) refl
    where
      go : (o : Option DvrHost) → find (λ (d : DvrHost). is_some (tap_at d.host.tables port)) hosts ≡ o → Made hosts (from_dvr_tap hosts port frame o).run
      go None e = tt
      go (Some d) e = walk-made (suc (steps_for (life_of frame))) d (At (TapIn port frame)) (run_at_first d (at_tap d.host (tap_at d.host.tables port))) (by-name (λ (d : DvrHost). is_some (tap_at d.host.tables port)) d e) tt
  dvr-made (FromWire physical tag frame) = start (is_unsupported frame)
    where
      go : (o : Option DvrHost) → find (λ (d : DvrHost). takes (record { physical = physical; tag = tag }) frame d.host) hosts ≡ o → Made hosts (from_dvr_wire hosts (record { physical = physical; tag = tag }) frame o).run
      go None e = tt
      go (Some d) e = walk-made (steps_for (life_of frame)) d (At (WireIn (record { physical = physical; tag = tag }) frame)) (run_at_first d (at_inward d.host (inward_at d.host.tables (ByWire (record { physical = physical; tag = tag }))))) (by-name (λ (d : DvrHost). takes (record { physical = physical; tag = tag }) frame d.host) d e) tt

      start : (b : Bool) → Made hosts (run_in (if b then fate_of_dvr run_nowhere (Dropped Unsupported) else from_dvr_wire hosts (record { physical = physical; tag = tag }) frame (find (λ (d : DvrHost). takes (record { physical = physical; tag = tag }) frame d.host) hosts)))
      start true = tt
      start false = go (find (λ (d : DvrHost). takes (record { physical = physical; tag = tag }) frame d.host) hosts) refl

-- an entry stands at one host alone
stands-once : (rows : RowLists) → FrameFacts rows → (e : Entry) (a b : List ℕ) → stands_at rows a e ≡ true → stands_at rows b e ≡ true → a ≡ b
stands-once rows good (Flow port x k) a b h i = go (find (has_id port) rows.ports) refl
  where
    at : (name : List ℕ) (p : PortRow) → find (has_id port) rows.ports ≡ Some p → list_any (is_tap_id rows name port) rows.ports ≡ true → p.host ≡ name
    at name p e j =
        let tap : is_tap rows name p ≡ true = any-only (has_id port) (is_tap rows name) rows.ports p (good.port_ids port) e j in
        bytes_same p.host name (and_parts (is_live rows p) (is_at name p) (and_parts (is_here rows name p) (not (is_router_port p.owner)) tap).0).1

    go : (o : Option PortRow) → find (has_id port) rows.ports ≡ o → a ≡ b
    go (Some p) e = sym (at a p e h) ∙ at b p e i
    go None e =
        let some : list_any (has_id port) rows.ports ≡ true = weaker rows.ports h in
        let bad : true ≡ false = sym some ∙ sym (find-some (has_id port) rows.ports) ∙ ap is_some e in
        cc
      where
        weaker : (ps : List PortRow) → list_any (is_tap_id rows a port) ps ≡ true → list_any (has_id port) ps ≡ true
        weaker [] j = j
        weaker (p ∷ ps) j = by (ident_eq port p.id) (is_tap rows a p) j (weaker ps)
          where
            by : (c t : Bool) → ((c && t) || list_any (is_tap_id rows a port) ps) ≡ true → (list_any (is_tap_id rows a port) ps ≡ true → list_any (has_id port) ps ≡ true) → (c || list_any (has_id port) ps) ≡ true
            by true t j w = refl
            by false t j w = w j
stands-once rows good (Snat r k o p) a b h i = go (find (λ (x : RouterRow). ident_eq r x.id) rows.routers) refl
  where
    at : (name : List ℕ) (x : RouterRow) → find (λ (x : RouterRow). ident_eq r x.id) rows.routers ≡ Some x → list_any (λ (x : RouterRow). ident_eq r x.id && is_on_host name x) rows.routers ≡ true → x.host ≡ Some name
    at name x e j = host-of x.host name (any-only (λ (x : RouterRow). ident_eq r x.id) (is_on_host name) rows.routers x (good.router_ids r) e j)

    go : (z : Option RouterRow) → find (λ (x : RouterRow). ident_eq r x.id) rows.routers ≡ z → a ≡ b
    go (Some x) e = some_equal a b (sym (at a x e h) ∙ at b x e i)
    go None e =
        let some : list_any (λ (x : RouterRow). ident_eq r x.id) rows.routers ≡ true = weaker rows.routers h in
        let bad : true ≡ false = sym some ∙ sym (find-some (λ (x : RouterRow). ident_eq r x.id) rows.routers) ∙ ap is_some e in
        cc
      where
        weaker : (xs : List RouterRow) → list_any (λ (x : RouterRow). ident_eq r x.id && is_on_host a x) xs ≡ true → list_any (λ (x : RouterRow). ident_eq r x.id) xs ≡ true
        weaker [] j = j
        weaker (x ∷ xs) j = by (ident_eq r x.id) (is_on_host a x) j (weaker xs)
          where
            by : (c t : Bool) → ((c && t) || list_any (λ (x : RouterRow). ident_eq r x.id && is_on_host a x) xs) ≡ true → (list_any (λ (x : RouterRow). ident_eq r x.id && is_on_host a x) xs ≡ true → list_any (λ (x : RouterRow). ident_eq r x.id) xs ≡ true) → (c || list_any (λ (x : RouterRow). ident_eq r x.id) xs) ≡ true
            by true t j w = refl
            by false t j w = w j

-- makers follow from the entries
pub makers-same : (rows : RowLists) (hosts : List Host) → FrameFacts rows → Each (λ (h : Host). Realises rows h.name h.tables) hosts → (es : List Entry) (ms ns : List (List ℕ)) → AllMade (IsMade hosts) es ms → AllMade (IsMade hosts) es ns → ms ≡ ns
makers-same rows hosts good realise [] [] [] a b = refl
makers-same rows hosts good realise [] [] (n ∷ ns) a b = absurd b
makers-same rows hosts good realise [] (m ∷ ms) ns a b = absurd a
makers-same rows hosts good realise (e ∷ es) [] ns a b = absurd a
makers-same rows hosts good realise (e ∷ es) (m ∷ ms) [] a b = absurd b
makers-same rows hosts good realise (e ∷ es) (m ∷ ms) (n ∷ ns) a b = λ j. one j ∷ makers-same rows hosts good realise es ms ns a.1 b.1 j
  where
    at : (x : List ℕ) → IsMade hosts e x → stands_at rows x e ≡ true
    at x made =
        let name : x ≡ made.host.name = bytes_same x made.host.name (find-passes (is_named x) hosts made.host made.named) in
        let r : Realises rows made.host.name made.host.tables = find-each (λ (h : Host). Realises rows h.name h.tables) (is_named x) hosts made.host (all-of (λ (h : Host). Realises rows h.name h.tables) hosts realise) made.named in
        subst (λ z. stands_at rows z e ≡ true) (sym name) (entry-stands rows made.host r e made.placed)

    one : m ≡ n
    one = stands-once rows good e m n (at m a.0) (at n b.0)
