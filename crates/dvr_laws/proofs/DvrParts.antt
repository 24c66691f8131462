-- Hosts with copies that hold the rows: what is found at them, and single steps.
use Rattle.api_types.proofs.NameLemmas.{bytes_same}
use Rattle.api_types.specs.Holders.{router_of}
use Rattle.api_types.specs.Ident.{Ident}
use Rattle.api_types.specs.Live.{is_live}
use Rattle.api_types.specs.Owners.{is_router_port}
use Rattle.api_types.specs.RouterRows.{leg_of, router_view}
use Rattle.api_types.specs.RowLists.{RowLists}
use Rattle.api_types.specs.declared.port.PortRow.{PortRow}
use Rattle.api_types.specs.declared.router.RouterRow.{RouterRow}
use Rattle.dvr_laws.proofs.HostsLaw.{host-of, some-mapped}
use Rattle.dvr_types.specs.Copies.{copies_for}
use Rattle.dvr_types.specs.CopySteps.{handled_here}
use Rattle.dvr_types.specs.DvrFabric.{At, DvrHost, DvrRun, On, dvr_walk, fate_after_tables, fate_at_place, fate_toward, handled_at, handled_on, is_dvr_named}
use Rattle.dvr_types.specs.DvrVerdicts.{DvrMeaning, dvr_meant, plain_hosts}
use Rattle.dvr_types.specs.Handlers.{after_host, arrival, hosts_after_router, hosts_from, router_hosts}
use Rattle.dvr_types.specs.Near.{is_near}
use Rattle.dvr_types.specs.declared.copies.NearTo.{NearTo}
use Rattle.plane_laws.proofs.Facts.{AllOf, FrameFacts, HostFacts, RouterPortStands, SyncedFacts}
use Rattle.plane_laws.proofs.ListLemmas.{find-each, find-map, find-passes, some_of}
use Rattle.plane_laws.proofs.Located.{tag-row}
use Rattle.plane_laws.proofs.Sent.{trace_of}
use Rattle.plane_types.specs.Fabric.{after_step}
use Rattle.plane_types.specs.Hosts.{Host, all_entries, is_named}
use Rattle.plane_types.specs.Meaning.{Fate, Trace, port_fate}
use Rattle.plane_types.specs.Packets.{Packet, ip_frame}
use Rattle.plane_types.specs.Places.{Bridge, Place}
use Rattle.plane_types.specs.Routing.{routing_of}
use Rattle.plane_types.specs.TableRows.{is_hosted, tag_of}
use Rattle.plane_types.specs.TableStep.{Stepped, table_step}
use Rattle.plane_types.specs.declared.entry.Entry.{Entry}
use Rattle.std.proofs.Common.{Bool, List, None, Option, Some, [], ap, arith, false, refl, suc, sym, true, zero, ℕ, ◌++◌, ◌-◌, ◌<◌, ◌∙◌, ◌∷◌, ◌≡◌}
use Rattle.std.specs.Prelude.{find, if◌then◌else◌, is_some, option_map, option_to_list}
use Rattle.std.specs.Str.{bytes_eq}

abbrev pub tell : Fate → List (List ℕ) → DvrMeaning
tell f hs = record { fate = f; hosts = hs }

abbrev pub names_of : Host → List ℕ
names_of h = h.name

abbrev pub host_of : DvrHost → Host
host_of d = d.host

-- what hosts with copies hold, as the laws of plain hosts have it
pub record DvrFacts (rows : RowLists) (hosts : List DvrHost) : Type 0 where
  pub synced : SyncedFacts rows (plain_hosts hosts)
  pub copied : AllOf (λ (d : DvrHost). d.copies ≡ copies_for rows d.host.name) hosts

abbrev pub look : DvrHost → Place → DvrRun → Stepped
look d place run = table_step d.host.tables (d.host.entries ++ run.run.fresh) place

abbrev pub looked : DvrHost → Place → Stepped → DvrRun → DvrRun
looked d place s run = record { run = after_step d.host place s run.run; hosts = run.hosts }

abbrev pub every : List DvrHost → List Entry
every hosts = all_entries (plain_hosts hosts)

-- what a port that gets a packet makes of it, with the hosts after a host
abbrev pub answer : RowLists → List DvrHost → ℕ → PortRow → Packet → DvrHost → DvrRun → DvrMeaning
answer rows hosts many q p d run = tell (port_fate rows (every hosts) many q p (trace_of run.run)) (run.hosts ++ after_host d.host.name (hosts_from rows (every hosts) many q p (trace_of run.run)))

-- a packet that is not near at its router, or is for no router
abbrev pub IsFar : RowLists → List DvrHost → PortRow → Packet → Trace → Type 0
IsFar rows hosts q p t = (r : RouterRow) → is_router_port q.owner ≡ true → router_of rows q ≡ Some r → is_near rows (every hosts ++ t.fresh) r q p ≡ false

module _ (rows : RowLists) (hosts : List DvrHost) (good : FrameFacts rows) (facts : DvrFacts rows hosts) where
  pub plain-found : (name : List ℕ) (d : DvrHost) → find (is_dvr_named name) hosts ≡ Some d → find (is_named name) (plain_hosts hosts) ≡ Some d.host
  plain-found name d e = find-map (is_named name) host_of hosts ∙ ap (option_map host_of) e

  pub home : (test : PortRow → Bool) (q : PortRow) → find test rows.ports ≡ Some q → is_live rows q ≡ true → (d : DvrHost) × (find (is_dvr_named q.host) hosts ≡ Some d)
  home test q e live =
      let there : is_some (find (is_named q.host) (plain_hosts hosts)) ≡ true = find-each (λ (y : PortRow). is_live rows y ≡ true → is_some (find (λ (z : Host). bytes_eq y.host z.name) (plain_hosts hosts)) ≡ true) test rows.ports q facts.synced.complete e live in
      some_of (find (is_dvr_named q.host) hosts) (some-mapped host_of (find (is_dvr_named q.host) hosts) (ap is_some (sym (find-map (is_named q.host) host_of hosts)) ∙ there))

  pub real : (name : List ℕ) (d : DvrHost) → find (is_dvr_named name) hosts ≡ Some d → HostFacts rows d.host.name d.host.tables
  real name d e = find-each (λ (y : Host). HostFacts rows y.name y.tables) (is_named name) (plain_hosts hosts) d.host facts.synced.realise (plain-found name d e)

  pub copies-are : (name : List ℕ) (d : DvrHost) → find (is_dvr_named name) hosts ≡ Some d → d.copies ≡ copies_for rows d.host.name
  copies-are name d e = find-each (λ (y : DvrHost). y.copies ≡ copies_for rows y.host.name) (is_dvr_named name) hosts d facts.copied e

  pub name-is : (name : List ℕ) (d : DvrHost) → find (is_dvr_named name) hosts ≡ Some d → name ≡ d.host.name
  name-is name d e = bytes_same name d.host.name (find-passes (is_dvr_named name) hosts d e)

  -- a host of this name is the one that its name finds
  pub self : (name : List ℕ) (d : DvrHost) → find (is_dvr_named name) hosts ≡ Some d → find (is_dvr_named d.host.name) hosts ≡ Some d
  self name d e = ap (λ m. find (is_dvr_named m) hosts) (sym (name-is name d e)) ∙ e

  pub walk-at : (steps : ℕ) (d : DvrHost) (place : Place) (run : DvrRun) → 0 < steps → dvr_walk hosts steps d (At place) run ≡ fate_at_place hosts (dvr_walk hosts (steps - 1)) d place run (handled_at d.copies d.host.tables place)
  unfolding dvr_walk
  walk-at zero d place run more = absurd (omega arith)
  walk-at (suc n) d place run more = let e : n ≡ suc n - 1 = omega arith in ap (λ m. fate_at_place hosts (dvr_walk hosts m) d place run (handled_at d.copies d.host.tables place)) e

  pub walk-to : (steps : ℕ) (d : DvrHost) (n : Ident) (to : NearTo) (p : Packet) (run : DvrRun) → 0 < steps → dvr_walk hosts steps d (On n to p) run ≡ fate_toward hosts (dvr_walk hosts (steps - 1)) d n p run to
  unfolding dvr_walk
  walk-to zero d n to p run more = absurd (omega arith)
  walk-to (suc k) d n to p run more = let e : k ≡ suc k - 1 = omega arith in ap (λ m. fate_toward hosts (dvr_walk hosts m) d n p run to) e

  pub by-tables : (steps : ℕ) (d : DvrHost) (place : Place) (run : DvrRun) → 0 < steps → handled_at d.copies d.host.tables place ≡ None → (s : Stepped) → look d place run ≡ s → dvr_meant (dvr_walk hosts steps d (At place) run) ≡ dvr_meant (fate_after_tables hosts (dvr_walk hosts (steps - 1)) d place run s)
  by-tables steps d place run more none s e =
      ap dvr_meant (walk-at steps d place run more)
      ∙ ap (λ o. dvr_meant (fate_at_place hosts (dvr_walk hosts (steps - 1)) d place run o)) none
      ∙ ap (λ x. dvr_meant (fate_after_tables hosts (dvr_walk hosts (steps - 1)) d place run x)) e

  -- what a host's bridge leaves to its copies
  pub handled-bridge : (name : List ℕ) (d : DvrHost) → find (is_dvr_named name) hosts ≡ Some d → (n : Ident) (tag : ℕ) → tag_of d.host.tables.tags n ≡ Some tag → (p : Packet) → handled_at d.copies d.host.tables (Bridge tag (ip_frame p)) ≡ handled_here (copies_for rows d.host.name) n p
  handled-bridge name d e n tag is p =
      ap (handled_on d.copies p) (tag-row rows d.host.name d.host.tables.tags (real name d e).tags n tag is)
      ∙ ap (λ c. handled_here c n p) (copies-are name d e)

  -- a live router's port has a router, on its host
  pub router-there : (test : PortRow → Bool) (q : PortRow) → find test rows.ports ≡ Some q → is_live rows q ≡ true → is_router_port q.owner ≡ true → (r : RouterRow) × (router_of rows q ≡ Some r) × (r.host ≡ Some q.host)
  router-there test q e live router = go (router_of rows q) refl (find-each (RouterPortStands rows) test rows.ports q good.router_ports e router live)
    where
      go : (o : Option RouterRow) → router_of rows q ≡ o → is_hosted q.host o ≡ true → (r : RouterRow) × (router_of rows q ≡ Some r) × (r.host ≡ Some q.host)
      go None k h = cc
      go (Some r) k h = (r, k, host-of r.host q.host h)

  -- the first host that handles a packet which is not near
  pub head : (many : ℕ) (test : PortRow → Bool) (q : PortRow) (p : Packet) (t : Trace) → find test rows.ports ≡ Some q → is_live rows q ≡ true → IsFar rows hosts q p t → (rest : List (List ℕ)) × (hosts_from rows (every hosts) (suc many) q p t ≡ q.host ∷ rest)
  unfolding hosts_from
  head many test q p t e live far = go (is_router_port q.owner) refl
    where
      by : is_router_port q.owner ≡ true → (rest : List (List ℕ)) × (router_hosts rows (every hosts) (hosts_from rows (every hosts) many) q p t (router_of rows q) ≡ q.host ∷ rest)
      by router =
          let r = router-there test q e live router in
          let rest : List (List ℕ) = hosts_after_router (hosts_from rows (every hosts) many) (arrival rows r.0 t (routing_of (router_view rows r.0) (every hosts ++ t.fresh) (leg_of q) p)) in (
            rest,
            ap (router_hosts rows (every hosts) (hosts_from rows (every hosts) many) q p t) r.1
                ∙ ap (λ b. (if b then [] else option_to_list r.0.host) ++ rest) (far r.0 router r.1)
                ∙ ap (λ o. option_to_list o ++ rest) r.2,
          )

      go : (b : Bool) → is_router_port q.owner ≡ b → (rest : List (List ℕ)) × ((if b then router_hosts rows (every hosts) (hosts_from rows (every hosts) many) q p t (router_of rows q) else q.host ∷ []) ≡ q.host ∷ rest)
      go false k = ([], refl)
      go true k = by k
