-- The tables with keys have the rows of the tables, in their order.
use Rattle.std.proofs.Common.{◌≡◌, ◌∙◌, ℕ, suc, List, [], ◌∷◌, ◌++◌, map, Option, Some, None, Bool, true, false, cond, refl, ap}
use Rattle.std.specs.Prelude.{◌&&◌, flat_map, if◌then◌else◌, nat_lt}
use Rattle.std.specs.List.{cons_option, filter, filter_map}
use Rattle.net_addr.specs.Ordered.{addr_before}
use Rattle.net_addr.specs.declared.address.Addr.{Addr}
use Rattle.api_types.specs.Ascending.{ascending}
use Rattle.api_types.specs.Holders.{gateway_port}
use Rattle.api_types.specs.Ident.{Ident}
use Rattle.api_types.specs.Live.{is_live}
use Rattle.api_types.specs.Members.{names_group}
use Rattle.api_types.specs.RouterRows.{by_address, connected_by, connected_ways, default_by, default_of, extra_way, extra_ways, is_leg_of, legs_of, ways_of}
use Rattle.api_types.specs.RowsWith.{subnet_with}
use Rattle.api_types.specs.RouterViews.{Way}
use Rattle.api_types.specs.declared.floating.FloatingRow.{FloatingRow}
use Rattle.api_types.specs.declared.group.GroupRow.{GroupRow}
use Rattle.api_types.specs.declared.port.Fixed.{Fixed}
use Rattle.api_types.specs.declared.port.PortRow.{PortRow}
use Rattle.api_types.specs.declared.router.RouterRow.{RouterRow}
use Rattle.api_types.specs.declared.subnet.Hop.{Hop}
use Rattle.plane_types.specs.Keyed.{chunks, cons_at, pair_order, rows_by_key, under, with_keys}
use Rattle.plane_types.specs.KeyedTables.{WayKey, bridge_key, connected_at, default_at, default_from, fixed_by_address, group_filters, group_sets, hop_key, hosted_router, keyed_bridge, keyed_connected, keyed_extra, keyed_filters, keyed_floats, keyed_leases, keyed_neighbours, keyed_routers, keyed_routes, keyed_sets, keyed_taps, keyed_ways, neighbour_key, port_filters, router_routes}
use Rattle.plane_types.specs.Numbered.{with_numbers}
use Rattle.plane_types.specs.NumberedRows.{NumberedRows}
use Rattle.plane_types.specs.TableRows.{bridge_rows, filter_by, filter_rows, filters_of, filters_of_group, float_row_by, float_rows, is_on_host, is_tap, lease_row, lease_rows, neighbour_rows, route_row, route_rows, router_rows, set_rows, set_rows_of, tap_row, tap_rows}
use Rattle.plane_types.specs.declared.table.SetRow.{SetRow}
use Rattle.plane_types.specs.declared.table.TagRow.{TagRow}

-- the rows without their keys
abbrev pub unkeyed : {K R : Type 0} → List (K × R) → List R
unkeyed xs = map (λ x. x.1) xs

pub with_keys-rows : {K R : Type 0} (key : R → K) (rows : List R)
    → unkeyed (with_keys key rows) ≡ rows
with_keys-rows key [] = refl
with_keys-rows key (r ∷ rows) = ap (λ l. r ∷ l) (with_keys-rows key rows)

by_key-rows : {K X R : Type 0} (before : K → K → Bool) (h : X → Option R) (xs : List (K × X))
    → unkeyed (rows_by_key before h xs) ≡ filter_map h (unkeyed xs)
by_key-rows before h [] = refl
by_key-rows {R = R} before h (x ∷ xs) = go (h x.1) (by_key-rows before h xs)
  where
    go : (o : Option R) → unkeyed (rows_by_key before h xs) ≡ filter_map h (unkeyed xs)
        → unkeyed (cons_at before x.0 o (rows_by_key before h xs))
        ≡ cons_option o (filter_map h (unkeyed xs))
    go None rest = rest
    go (Some r) rest = ap (λ l. r ∷ l) rest

under-rows : {K J R : Type 0} (k : K) (ys : List (J × R)) (zs : List ((K × J) × R))
    → unkeyed (under k ys ++ zs) ≡ unkeyed ys ++ unkeyed zs
under-rows k [] zs = refl
under-rows k (y ∷ ys) zs = ap (λ l. y.1 ∷ l) (under-rows k ys zs)

chunks-rows : {K J X R : Type 0} (chunk : X → List (J × R)) (xs : List (K × X))
    → unkeyed (chunks chunk xs) ≡ flat_map (λ x. unkeyed (chunk x)) (unkeyed xs)
chunks-rows chunk [] = refl
chunks-rows chunk (x ∷ xs) =
    under-rows x.0 (chunk x.1) (chunks chunk xs)
    ∙ ap (λ l. unkeyed (chunk x.1) ++ l) (chunks-rows chunk xs)

module _ (n : NumberedRows) (host : List ℕ) (tags : List TagRow) where
  pub taps-rows : unkeyed n.ports ≡ n.rows.ports
      → unkeyed (keyed_taps n host tags) ≡ tap_rows n.rows host tags
  unfolding tap_rows
  taps-rows ports =
      by_key-rows nat_lt (tap_row n.rows host tags) n.ports
      ∙ ap (filter_map (tap_row n.rows host tags)) ports

  pub leases-rows : unkeyed n.ports ≡ n.rows.ports
      → unkeyed (keyed_leases n host tags) ≡ lease_rows n.rows host tags
  unfolding lease_rows
  leases-rows ports =
      by_key-rows nat_lt (lease_row n.rows host tags) n.ports
      ∙ ap (filter_map (lease_row n.rows host tags)) ports

  group-filters : unkeyed n.rules ≡ n.rows.rules → (p : PortRow) (g : GroupRow)
      → unkeyed (group_filters n p g) ≡ filters_of_group n.rows p g
  group-filters rules p g = go (names_group g.id p.groups)
    where
      go : (b : Bool)
          → unkeyed (if b then rows_by_key nat_lt (filter_by p g) n.rules else [])
          ≡ (if b then filter_map (filter_by p g) n.rows.rules else [])
      go true = by_key-rows nat_lt (filter_by p g) n.rules ∙ ap (filter_map (filter_by p g)) rules
      go false = refl

  port-filters : unkeyed n.groups ≡ n.rows.groups → unkeyed n.rules ≡ n.rows.rules
      → (p : PortRow) → unkeyed (port_filters n host p) ≡ filters_of n.rows host p
  port-filters groups rules p = go (is_tap n.rows host p && p.secured)
    where
      go : (b : Bool)
          → unkeyed (if b then chunks (group_filters n p) n.groups else [])
          ≡ (if b then flat_map (filters_of_group n.rows p) n.rows.groups else [])
      go true =
          chunks-rows (group_filters n p) n.groups
          ∙ (λ j. flat_map (λ g. group-filters rules p g j) (groups j))
      go false = refl

  pub filters-rows : unkeyed n.ports ≡ n.rows.ports → unkeyed n.groups ≡ n.rows.groups
      → unkeyed n.rules ≡ n.rows.rules
      → unkeyed (keyed_filters n host) ≡ filter_rows n.rows host
  unfolding filter_rows
  filters-rows ports groups rules =
      chunks-rows (port_filters n host) n.ports
      ∙ (λ j. flat_map (λ p. port-filters groups rules p j) (ports j))

  pub sets-rows : unkeyed n.groups ≡ n.rows.groups
      → unkeyed (keyed_sets n host) ≡ set_rows n.rows (filter_rows n.rows host)
  unfolding set_rows
  sets-rows groups =
      let named : GroupRow → List SetRow = set_rows_of n.rows (filter_rows n.rows host) in
      chunks-rows (group_sets n host) n.groups
      ∙ (λ j. flat_map (λ g. with_keys-rows (λ (r : SetRow). r.prefix) (named g) j) (groups j))

  pub bridge-rows : unkeyed (keyed_bridge n host tags) ≡ bridge_rows n.rows host tags
  bridge-rows = with_keys-rows bridge_key (bridge_rows n.rows host tags)

  pub neighbours-rows : unkeyed (keyed_neighbours n host tags) ≡ neighbour_rows n.rows host tags
  neighbours-rows = with_keys-rows neighbour_key (neighbour_rows n.rows host tags)

  pub routers-rows : unkeyed n.routers ≡ n.rows.routers
      → unkeyed (keyed_routers n host tags) ≡ router_rows n.rows host tags
  unfolding router_rows
  routers-rows routers =
      by_key-rows nat_lt (hosted_router n host tags) n.routers
      ∙ ap (filter_map (hosted_router n host tags)) routers

  pub floats-rows : unkeyed n.floatings ≡ n.rows.floatings
      → unkeyed (keyed_floats n host) ≡ float_rows n.rows host
  unfolding float_rows
  floats-rows floatings =
      by_key-rows nat_lt (λ (f : FloatingRow). float_row_by n.rows host f f.target) n.floatings
      ∙ ap (filter_map (λ (f : FloatingRow). float_row_by n.rows host f f.target)) floatings

-- ---- routes

append-rows : {K R : Type 0} (xs ys : List (K × R)) → unkeyed (xs ++ ys) ≡ unkeyed xs ++ unkeyed ys
append-rows [] ys = refl
append-rows (x ∷ xs) ys = ap (λ l. x.1 ∷ l) (append-rows xs ys)

under-alone : {K J R : Type 0} (k : K) (ys : List (J × R)) → unkeyed (under k ys) ≡ unkeyed ys
under-alone k [] = refl
under-alone k (y ∷ ys) = ap (λ l. y.1 ∷ l) (under-alone k ys)

filter-rows : {K R : Type 0} (test : R → Bool) (xs : List (K × R))
    → unkeyed (filter (λ (x : K × R). test x.1) xs) ≡ filter test (unkeyed xs)
filter-rows test [] = refl
filter-rows {K} {R} test (x ∷ xs) = go (test x.1) (filter-rows test xs)
  where
    kept : List (K × R)
    kept = filter (λ (y : K × R). test y.1) xs

    go : (b : Bool) → unkeyed kept ≡ filter test (unkeyed xs)
        → unkeyed (cond b (x ∷ kept) kept)
        ≡ cond b (x.1 ∷ filter test (unkeyed xs)) (filter test (unkeyed xs))
    go true rest = ap (λ l. x.1 ∷ l) rest
    go false rest = rest

hops-rows : (k : ℕ) (hops : List Hop) → unkeyed (map hop_key (with_numbers k hops)) ≡ hops
hops-rows k [] = refl
hops-rows k (h ∷ hops) = ap (λ l. h ∷ l) (hops-rows (suc k) hops)

under-address : (a : Addr) (ws : List Way)
    → unkeyed {K = ℕ × Addr} (map (λ (w : Way). ((0, a), w)) ws) ≡ ws
under-address a [] = refl
under-address a (w ∷ ws) = ap (λ l. w ∷ l) (under-address a ws)

routes-of : (r : Ident) (ws : List (WayKey × Way))
    → unkeyed (map (λ (x : WayKey × Way). (x.0, route_row r x.1)) ws)
    ≡ map (route_row r) (unkeyed ws)
routes-of r [] = refl
routes-of r (w ∷ ws) = ap (λ l. route_row r w.1 ∷ l) (routes-of r ws)

module _ (n : NumberedRows) (r : RouterRow) where
  abbrev legs : List PortRow
  legs = legs_of n.rows r

  abbrev way_of : Fixed → Option Way
  way_of f = connected_by legs (subnet_with n.rows f.subnet)

  connected-of : (p : PortRow)
      → unkeyed (connected_at n r p) ≡ filter_map way_of (ascending by_address p.fixed)
  connected-of p =
      by_key-rows addr_before way_of (fixed_by_address p)
      ∙ ap (filter_map way_of)
      (with_keys-rows (λ (f : Fixed). f.address) (ascending by_address p.fixed))

  legs-rows : unkeyed n.ports ≡ n.rows.ports
      → unkeyed (filter (λ (x : ℕ × PortRow). is_leg_of n.rows r x.1) n.ports) ≡ legs
  unfolding legs_of
  legs-rows ports =
      filter-rows (is_leg_of n.rows r) n.ports ∙ ap (filter (is_leg_of n.rows r)) ports

  connected-rows : unkeyed n.ports ≡ n.rows.ports
      → unkeyed (keyed_connected n r) ≡ connected_ways n.rows legs
  unfolding connected_ways
  connected-rows ports =
      chunks-rows (connected_at n r)
      (filter (λ (x : ℕ × PortRow). is_leg_of n.rows r x.1) n.ports)
      ∙ (λ j. flat_map (λ p. connected-of p j) (legs-rows ports j))

  extra-rows : unkeyed (keyed_extra n r) ≡ extra_ways n.rows legs r.routes
  unfolding extra_ways
  extra-rows =
      by_key-rows (pair_order nat_lt addr_before) (extra_way n.rows legs)
      (map hop_key (with_numbers 0 r.routes))
      ∙ ap (filter_map (extra_way n.rows legs)) (hops-rows 0 r.routes)

  defaults : (fs : List Fixed)
      → unkeyed (flat_map (default_at n r) (with_keys (λ (f : Fixed). f.address) fs))
      ≡ flat_map (λ (f : Fixed). default_by legs (subnet_with n.rows f.subnet)) fs
  defaults [] = refl
  defaults (f ∷ fs) =
      append-rows (default_at n r (f.address, f))
      (flat_map (default_at n r) (with_keys (λ (f : Fixed). f.address) fs))
      ∙ (λ j.
      under-address f.address (default_by legs (subnet_with n.rows f.subnet)) j
      ++ defaults fs j)

  default-rows : (o : Option PortRow) → unkeyed (default_from n r o) ≡ default_of n.rows legs o
  default-rows None = refl
  default-rows (Some p) = go (is_live n.rows p)
    where
      go : (b : Bool)
          → unkeyed (if b then flat_map (default_at n r) (fixed_by_address p) else [])
          ≡ (if b
          then flat_map (λ (f : Fixed). default_by legs (subnet_with n.rows f.subnet))
          (ascending by_address p.fixed)
          else [])
      go true = defaults (ascending by_address p.fixed)
      go false = refl

  ways-rows : unkeyed n.ports ≡ n.rows.ports → unkeyed (keyed_ways n r) ≡ ways_of n.rows r
  unfolding ways_of
  ways-rows ports =
      let gateway : Option PortRow = gateway_port n.rows r in
      let connected : List (WayKey × Way) = under 0 (keyed_connected n r) in
      let extra : List (WayKey × Way) = under 1 (keyed_extra n r) in
      let last : List (WayKey × Way) = under 2 (default_from n r gateway) in
      append-rows (connected ++ extra) last
      ∙ (λ j. append-rows connected extra j ++ under-alone {K = ℕ} 2 (default_from n r gateway) j)
      ∙ (λ j.
      under-alone {K = ℕ} 0 (keyed_connected n r) j ++ under-alone {K = ℕ} 1 (keyed_extra n r) j
      ++ default-rows gateway j)
      ∙ (λ j. connected-rows ports j ++ extra-rows j ++ default_of n.rows legs gateway)

module _ (n : NumberedRows) (host : List ℕ) where
  router-routes : unkeyed n.ports ≡ n.rows.ports → (r : RouterRow)
      → unkeyed (router_routes n host r)
      ≡ (if is_on_host host r then map (route_row r.id) (ways_of n.rows r) else [])
  router-routes ports r = go (is_on_host host r)
    where
      go : (b : Bool)
          → unkeyed (if b
          then map (λ (x : WayKey × Way). (x.0, route_row r.id x.1)) (keyed_ways n r)
          else [])
          ≡ (if b then map (route_row r.id) (ways_of n.rows r) else [])
      go true = routes-of r.id (keyed_ways n r) ∙ ap (map (route_row r.id)) (ways-rows n r ports)
      go false = refl

  pub routes-rows : unkeyed n.ports ≡ n.rows.ports → unkeyed n.routers ≡ n.rows.routers
      → unkeyed (keyed_routes n host) ≡ route_rows n.rows host
  unfolding route_rows
  routes-rows ports routers =
      chunks-rows (router_routes n host) n.routers
      ∙ (λ j. flat_map (λ r. router-routes ports r j) (routers j))
