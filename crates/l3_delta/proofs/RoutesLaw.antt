-- Edits of routes at touched routers lead to the routes after a change.
use Rattle.std.proofs.Common.{◌≡◌, ◌∙◌, ℕ, List, [], ◌∷◌, Bool, true, false, Option, Some, None, find, map, slice_get, refl, ap, sym, subst, arith}
use Rattle.std.specs.Prelude.{◌||◌, if◌then◌else◌, nat_lt, option_map}
use Rattle.std.specs.List.{filter, list_any}
use Rattle.std.proofs.Math.Path.{transport}
use Rattle.net_addr.specs.Ordered.{addr_before}
use Rattle.api_types.specs.Consistent.{IsConsistent}
use Rattle.api_types.specs.Holders.{gateway_port, gateway_port_of}
use Rattle.api_types.specs.Ident.{Ident}
use Rattle.api_types.specs.Live.{is_live}
use Rattle.api_types.specs.Owners.{device_is, is_port_of, is_router_port}
use Rattle.api_types.specs.Parts.{port_of}
use Rattle.api_types.specs.RouterRows.{is_leg_of, legs_of}
use Rattle.api_types.specs.RouterViews.{Way}
use Rattle.api_types.specs.RowLists.{RowLists}
use Rattle.api_types.specs.RowsWith.{subnet_with}
use Rattle.api_types.specs.Table.{ident_eq}
use Rattle.api_types.specs.declared.change.Item.{Item}
use Rattle.api_types.specs.declared.kind.Kind.TheVariants.{Port}
use Rattle.api_types.specs.declared.port.Fixed.{Fixed}
use Rattle.api_types.specs.declared.port.PortRow.{PortRow}
use Rattle.api_types.specs.declared.router.Gateway.{Gateway}
use Rattle.api_types.specs.declared.router.RouterRow.{RouterRow}
use Rattle.api_types.specs.declared.subnet.SubnetRow.{SubnetRow}
use Rattle.api_types.proofs.ListLemmas.{both_and, false_true, none_some, or_none, or_true}
use Rattle.plane_types.specs.Keyed.{Rises, are_one, chunks, pair_order, row_at}
use Rattle.plane_types.specs.KeyedTables.{WayKey, keyed_routes, keyed_ways, route_order, router_routes, way_order}
use Rattle.plane_types.specs.Numbered.{numbered_after, rows_after, with_numbers}
use Rattle.plane_types.specs.NumberedRows.{NumberedRows, numbered_rows, numbered_rows_after, row_items}
use Rattle.plane_types.specs.TableRows.{is_hosted, is_on_host, route_row, route_rows}
use Rattle.plane_types.specs.declared.delta.Edit.{Edit}
use Rattle.plane_types.specs.declared.table.RouteRow.{RouteRow}
use Rattle.plane_types.specs.declared.table.TagRow.{TagRow}
use Rattle.plane_types.proofs.KeyedLemmas.{one_itself}
use Rattle.plane_types.proofs.NumberedLemmas.{after_plain, after_rises, number_order, numbered_rises, plain_numbered}
use Rattle.plane_types.proofs.PairLemmas.{pair_total}
use Rattle.plane_types.proofs.StayLemmas.{ports_after}
use Rattle.plane_laws.proofs.Counted.{all-of, once-counted}
use Rattle.plane_laws.proofs.Facts.{AllOf, AtMostOne}
use Rattle.plane_laws.proofs.ListLemmas.{find-each}
use Rattle.table_edits.specs.ChunksSeen.{chunk_at, chunk_rows}
use Rattle.table_edits.specs.EditsAt.{KeysDescend, among}
use Rattle.table_edits.specs.KeyOrders.{addr_order}
use Rattle.table_edits.specs.NumbersSeen.{Renumbered, at_after, at_before}
use Rattle.table_edits.specs.Rewires.{Rewires}
use Rattle.table_edits.specs.Untouched.{SubnetStays}
use Rattle.table_edits.proofs.ChunkLaw.{AreOfChunks, chunks_lead}
use Rattle.table_edits.proofs.KindsAfter.{routers_after}
use Rattle.kept_rows.proofs.FoundLemmas.{number_at, number_found, place_at, place_of_number}
use Rattle.kept_rows.proofs.NumberLists.{none_any}
use Rattle.l3_delta.specs.RouterStays.{RouterStays, RoutersStay, is_hosted_at, numbered_legs}
use Rattle.l3_delta.proofs.RiseLemmas.{routes_rise}
use Rattle.l3_delta.proofs.RouteRows.{all_routes, no_routes}
use Rattle.l3_delta.proofs.RowLemmas.{same_legs}
use Rattle.l3_delta.proofs.StayedWays.{KeepsWays, SubnetsStay, ways_kept}
use Rattle.l3_delta.proofs.TouchedLemmas.{Ports, its, routers_before}
use Rattle.l3_delta.proofs.WayLemmas.{plain_legs}

-- what holds of those that pass holds of each one, if it passes
unfiltered : {X : Type 0} (P : X → Type 0) (test : X → Bool) (xs : List X)
    → AllOf P (filter test xs) → AllOf (λ x. test x ≡ true → P x) xs
unfiltered P test [] all = tt
unfiltered {X} P test (x ∷ xs) all = go (test x) refl all (λ a. unfiltered P test xs a)
  where
    go : (b : Bool) → test x ≡ b
        → AllOf P (if b then x ∷ filter test xs else filter test xs)
        → (AllOf P (filter test xs) → AllOf (λ y. test y ≡ true → P y) xs)
        → (test x ≡ true → P x) × AllOf (λ y. test y ≡ true → P y) xs
    go true e all rest = ((λ h. all.0), rest all.1)
    go false e all rest = ((λ h. false_true _ (sym e ∙ h)), rest all)

ids_once : (rows : RowLists) → IsConsistent rows → (i : Ident)
    → AtMostOne (λ (s : SubnetRow). ident_eq i s.id) rows.subnets
ids_once rows good i =
    once-counted (λ (s : SubnetRow). ident_eq i s.id) rows.subnets
    (omega (arith, good.numbered.ids i))

-- a router that isn't on the host has no routes there
elsewhere : (n : NumberedRows) (host : List ℕ) (o : Option RouterRow) → is_hosted host o ≡ false
    → chunk_at (router_routes n host) o ≡ []
elsewhere n host None h = refl
elsewhere n host (Some r) h = no_routes n host r h

module _ (before after : RowLists) (items : List Item) (ports : Renumbered PortRow)
    (routers : Renumbered RouterRow) (s : Ports before after items ports routers)
    (host : List ℕ) (old new : List TagRow) (touched : List ℕ)
    (named : (k : ℕ) → among nat_lt k touched ≡ false → at_before routers k ≡ at_after routers k)
    (stay : RoutersStay before after ports old new routers touched) where
  abbrev n : NumberedRows
  n = numbered_rows before

  abbrev m : NumberedRows
  m = numbered_rows_after before items

  plain_n : map (λ (x : ℕ × PortRow). x.1) n.ports ≡ n.rows.ports
  plain_n = plain_numbered 0 before.ports

  plain_m : map (λ (x : ℕ × PortRow). x.1) m.ports ≡ m.rows.ports
  plain_m =
      after_plain before.ports (row_items Port port_of items) ∙ sym (ports_after before items)

  good_now : IsConsistent m.rows
  good_now = subst IsConsistent s.leads_on.leads s.leads_on.stays_consistent

  -- ---- at a router that isn't touched they stay

  module _ (k : ℕ) (r : RouterRow) (at : at_before routers k ≡ Some r)
      (stays : RouterStays before after ports old new r) where
    place : (i : ℕ) × (slice_get before.routers i ≡ Some r)
    place =
        let found = place_at (with_numbers 0 routers.rows) k r at in (
          found.0,
          ap (λ (rs : List RouterRow). slice_get rs found.0)
              (sym (routers_before before after items ports routers s))
              ∙ found.1,
        )

    legs_stay : AllOf (SubnetsStay before after) (legs_of before r)
    legs_stay =
        all-of (SubnetsStay before after) (legs_of before r)
        (λ i p there.
        all-of
        (λ (f : Fixed). SubnetStays (subnet_with before f.subnet) (subnet_with after f.subnet))
        p.fixed (stays.subnets i p there))

    each_leg : AllOf (λ p. is_leg_of before r p ≡ true → SubnetsStay before after p) before.ports
    unfolding legs_of
    each_leg = unfiltered (SubnetsStay before after) (is_leg_of before r) before.ports legs_stay

    outer : (p : PortRow) → gateway_port before r ≡ Some p → is_live before p ≡ true
        → SubnetsStay before after p
    outer p is live = go r.gateway refl is
      where
        go : (o : Option Gateway) → r.gateway ≡ o → gateway_port_of before o ≡ Some p
            → SubnetsStay before after p
        go None e h = none_some p _ h
        go (Some g) e h =
            let found = number_found (λ (q : PortRow). ident_eq g.port q.id)
            (with_numbers 0 before.ports) (numbered_rises 0 before.ports) p
            (ap (find (λ (q : PortRow). ident_eq g.port q.id)) plain_n ∙ h) in
            let own = its before s.leads_on.consistent (with_numbers 0 before.ports) plain_n r
            place.0 place.1 g e found.0 p found.1 found.2
            (λ i q there.
            number_at (with_numbers 0 before.ports) (numbered_rises 0 before.ports) i q there) in
            find-each (λ q. is_leg_of before r q ≡ true → SubnetsStay before after q)
            (λ (q : PortRow). ident_eq g.port q.id) before.ports p each_leg h
            (both_and (is_port_of r p) (is_live before p)
            (both_and (is_router_port p.owner) (device_is p.device r.id) own.0 own.1) live)

    keeps : KeepsWays n (record m { rows = after }) r
    keeps = record {
      legs = same_legs before after items ports routers s old new r stays;
      numbered = subst
          (λ (p : Renumbered PortRow). numbered_legs before r (with_numbers 0 p.rows)
          ≡ numbered_legs after r (numbered_after p.rows p.items))
          s.numbered stays.legs;
      plain = plain_legs n r plain_n;
      subnets = legs_stay;
      gateway = stays.gateway;
      live = stays.gateway_live;
      outer = outer;
      once = ids_once before s.leads_on.consistent;
      once_now = ids_once after s.leads_on.stays_consistent;
    }

    kept : keyed_ways n r ≡ keyed_ways m r
    kept =
        subst (λ (rows : RowLists). keyed_ways n r ≡ keyed_ways (record m { rows = rows }) r)
        s.leads_on.leads (ways_kept n (record m { rows = after }) r keeps)

  pub routes_stay : (k : ℕ) → among nat_lt k touched ≡ false
      → option_map (router_routes n host) (at_before routers k)
      ≡ option_map (router_routes m host) (at_after routers k)
  routes_stay k off =
      go (at_before routers k) refl ∙ ap (option_map (router_routes m host)) (named k off)
    where
      go : (o : Option RouterRow) → at_before routers k ≡ o
          → option_map (router_routes n host) o ≡ option_map (router_routes m host) o
      go None at = refl
      go (Some r) at =
          ap (λ ws. Some (if is_on_host host r
          then map (λ (x : WayKey × Way). (x.0, route_row r.id x.1)) ws else []))
          (kept k r at (stay k r off at))

  pub rise : (r : RouterRow) → Rises way_order (router_routes n host r)
  rise r =
      routes_rise n s.leads_on.consistent (numbered_rises 0 before.ports) plain_n host r

  pub rise_after : (r : RouterRow) → Rises way_order (router_routes m host r)
  rise_after r =
      routes_rise m good_now (after_rises before.ports (row_items Port port_of items)) plain_m
      host r

  -- ---- as the table of all routes

  pub rows_before : route_rows before host ≡ chunk_rows (router_routes n host) routers.rows
  rows_before =
      all_routes n host routers.rows plain_n
      (ap (λ (q : Renumbered RouterRow). q.rows) (sym s.routed))

  rows_now : route_rows after host
      ≡ chunk_rows (router_routes m host) (rows_after routers.rows routers.items)
  rows_now =
      ap (λ rows. route_rows rows host) s.leads_on.leads
      ∙ all_routes m host (rows_after routers.rows routers.items) plain_m
      (routers_after before items
      ∙ ap (λ (q : Renumbered RouterRow). rows_after q.rows q.items) (sym s.routed))

  abbrev pub ByChunks : List RouteRow → List (Edit RouteRow) → Type 0
  ByChunks rows es =
      Rewires (pair_order nat_lt way_order)
      (chunks (router_routes n host) (with_numbers 0 routers.rows))
      (chunks (router_routes m host) (numbered_after routers.rows routers.items)) rows
      (chunk_rows (router_routes m host) (rows_after routers.rows routers.items)) es

  pub as_routes : (rows table : List RouteRow) → rows ≡ table → (es : List (Edit RouteRow))
      → ByChunks rows es
      → Rewires route_order (keyed_routes n host) (keyed_routes m host) table
      (route_rows after host) es
  as_routes rows table is es are =
      transport
      (λ j. Rewires route_order
      (chunks (router_routes n host) (with_numbers 0 (s.routed j).rows))
      (chunks (router_routes m host) (numbered_after (s.routed j).rows (s.routed j).items)) (is j)
      (sym rows_now j) es)
      are

  -- if no touched router is on the host, nothing is edited

  of_none : (ks : List ℕ)
      → ((k : ℕ) → among nat_lt k ks ≡ true → is_hosted_at host routers k ≡ false)
      → AreOfChunks way_order (pair_total nat_lt (pair_order nat_lt addr_before) number_order
      (pair_total nat_lt addr_before number_order addr_order)) (router_routes n host)
      (router_routes m host) routers.rows routers.items ks []
  of_none [] away = refl
  of_none (k ∷ ks) away =
      let off : is_hosted_at host routers k ≡ false =
      away k (ap (λ b. b || among nat_lt k ks) (one_itself nat_lt number_order k)) in
      let parts = or_none (is_hosted host (slice_get routers.rows k))
      (is_hosted host (at_after routers k)) off in
      let was : chunk_at (router_routes n host) (at_before routers k) ≡ [] =
      elsewhere n host (at_before routers k)
      (ap (is_hosted host) (place_of_number routers.rows k) ∙ parts.0) in
      let is : chunk_at (router_routes m host) (at_after routers k) ≡ [] =
      elsewhere m host (at_after routers k) parts.1 in (
        [],
        [],
        record {
          keys = [];
          down = tt;
          are = refl;
          others = λ j away. ap (row_at way_order j) (was ∙ sym is);
        },
        refl,
        of_none ks
            (λ j there.
            away j (ap (λ b. are_one nat_lt j k || b) there ∙ or_true (are_one nat_lt j k))),
      )

  pub none_here : KeysDescend nat_lt touched
      → list_any (is_hosted_at host routers) touched ≡ false → ByChunks (chunk_rows (router_routes n host) routers.rows) []
  none_here down none =
      chunks_lead way_order (pair_total nat_lt (pair_order nat_lt addr_before) number_order
      (pair_total nat_lt addr_before number_order addr_order)) (router_routes n host)
      (router_routes m host) routers.rows routers.items rise rise_after
      (chunk_rows (router_routes n host) routers.rows) touched [] refl down
      (of_none touched
      (λ k there. none_any (is_hosted_at host routers) touched k none there))
      routes_stay
