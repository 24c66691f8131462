-- The rows of a router's routes, without their keys.
use Rattle.std.proofs.Common.{◌≡◌, ◌∙◌, ℕ, zero, suc, ◌+◌, ◌<◌, List, [], ◌∷◌, ◌++◌, Bool, true, false, drop, get_or, length, map, slice_get, refl, ap, sym, arith}
use Rattle.std.specs.Prelude.{if◌then◌else◌, flat_map}
use Rattle.std.proofs.lemmas.List.{append-nil}
use Rattle.api_types.specs.Ident.{Ident}
use Rattle.api_types.specs.Live.{is_live}
use Rattle.api_types.specs.RouterRows.{connected_ways, extra_ways, legs_of, ways_of}
use Rattle.api_types.specs.RouterViews.{Way}
use Rattle.api_types.specs.declared.port.PortRow.{PortRow}
use Rattle.api_types.specs.declared.router.RouterRow.{RouterRow}
use Rattle.api_types.proofs.ListLemmas.{none_some, some_equal}
use Rattle.plane_types.specs.Keyed.{under}
use Rattle.plane_types.specs.KeyedTables.{WayKey, keyed_ways, router_routes}
use Rattle.plane_types.specs.NumberedRows.{NumberedRows}
use Rattle.plane_types.specs.TableRows.{is_on_host, route_row, route_rows}
use Rattle.plane_types.specs.declared.table.RouteRow.{RouteRow}
use Rattle.plane_types.proofs.KeyedTablesLemmas.{routes-rows, unkeyed}
use Rattle.table_edits.specs.ChunksSeen.{chunk_rows}

under-nil : {K J R : Type 0} (k : K) (xs : List (J × R))
    → unkeyed (under k xs ++ []) ≡ unkeyed xs
under-nil k [] = refl
under-nil k (x ∷ xs) = ap (λ l. x.1 ∷ l) (under-nil k xs)

-- as if it were the only router
abbrev alone : NumberedRows → RouterRow → NumberedRows
alone n r =
    record n { rows = record (n.rows) { routers = r ∷ [] }; routers = (0, r) ∷ [] }

pub rows_of_ways : (n : NumberedRows) (host : List ℕ) (r : RouterRow)
    → map (λ (x : ℕ × PortRow). x.1) n.ports ≡ n.rows.ports → is_on_host host r ≡ true
    → unkeyed (router_routes n host r) ≡ map (route_row r.id) (ways_of n.rows r)
unfolding legs_of is_live ways_of connected_ways extra_ways route_rows
rows_of_ways n host r ports here =
    sym (under-nil {K = ℕ} 0 (router_routes n host r))
    ∙ routes-rows (alone n r) host ports refl
    ∙ append-nil (if is_on_host host r then map (route_row r.id) (ways_of n.rows r) else [])
    ∙ ap (λ b. if b then map (route_row r.id) (ways_of n.rows r) else []) here

-- their keys
same_keys : (i : Ident) (ws : List (WayKey × Way))
    → map (λ (x : WayKey × RouteRow). x.0)
    (map (λ (x : WayKey × Way). (x.0, route_row i x.1)) ws)
    ≡ map (λ (x : WayKey × Way). x.0) ws
same_keys i [] = refl
same_keys i (w ∷ ws) = ap (λ l. w.0 ∷ l) (same_keys i ws)

pub keys_of_ways : (n : NumberedRows) (host : List ℕ) (r : RouterRow) → is_on_host host r ≡ true
    → map (λ (x : WayKey × RouteRow). x.0) (router_routes n host r)
    ≡ map (λ (x : WayKey × Way). x.0) (keyed_ways n r)
keys_of_ways n host r here =
    ap (λ b. map (λ (x : WayKey × RouteRow). x.0)
    (if b then map (λ (x : WayKey × Way). (x.0, route_row r.id x.1)) (keyed_ways n r) else []))
    here
    ∙ same_keys r.id (keyed_ways n r)

-- a router elsewhere has none
pub no_routes : (n : NumberedRows) (host : List ℕ) (r : RouterRow) → is_on_host host r ≡ false
    → router_routes n host r ≡ []
no_routes n host r away =
    ap (λ b. if b then map (λ (x : WayKey × Way). (x.0, route_row r.id x.1)) (keyed_ways n r)
    else [])
    away

-- each row names its router
sources_same : (r : RouterRow) (ws : List (WayKey × Way))
    → map (λ (x : WayKey × RouteRow). (x.1).router)
    (map (λ (x : WayKey × Way). (x.0, route_row r.id x.1)) ws)
    ≡ map (λ (x : WayKey × RouteRow). r.id)
    (map (λ (x : WayKey × Way). (x.0, route_row r.id x.1)) ws)
sources_same r [] = refl
sources_same r (w ∷ ws) = ap (λ l. r.id ∷ l) (sources_same r ws)

pub sources_are : (n : NumberedRows) (host : List ℕ) (r : RouterRow)
    → map (λ (x : WayKey × RouteRow). (x.1).router) (router_routes n host r)
    ≡ map (λ (x : WayKey × RouteRow). r.id) (router_routes n host r)
sources_are n host r = go (is_on_host host r)
  where
    go : (b : Bool)
        → map (λ (x : WayKey × RouteRow). (x.1).router)
        (if b then map (λ (x : WayKey × Way). (x.0, route_row r.id x.1)) (keyed_ways n r) else [])
        ≡ map (λ (x : WayKey × RouteRow). r.id)
        (if b then map (λ (x : WayKey × Way). (x.0, route_row r.id x.1)) (keyed_ways n r) else [])
    go true = sources_same r (keyed_ways n r)
    go false = refl

-- of a list that is made in two steps
pub rows_by : {W : Type 0} (f : W → Way) (i : Ident) (ws : List W)
    → map (route_row i) (map f ws) ≡ map (λ w. route_row i (f w)) ws
rows_by f i [] = refl
rows_by f i (w ∷ ws) = ap (λ l. route_row i (f w) ∷ l) (rows_by f i ws)

-- the rows before a change are those of chunks by router, and so are those after it
pub all_routes : (n : NumberedRows) (host : List ℕ) (routers : List RouterRow)
    → map (λ (x : ℕ × PortRow). x.1) n.ports ≡ n.rows.ports → n.rows.routers ≡ routers
    → route_rows n.rows host ≡ chunk_rows (router_routes n host) routers
unfolding route_rows
all_routes n host routers ports are =
    (λ j. flat_map (λ r. sym (each_router r) j) (are j))
  where
    each_router : (r : RouterRow)
        → map (λ (x : WayKey × RouteRow). x.1) (router_routes n host r)
        ≡ (if is_on_host host r then map (route_row r.id) (ways_of n.rows r) else [])
    each_router r = by (is_on_host host r) refl
      where
        by : (b : Bool) → is_on_host host r ≡ b
            → map (λ (x : WayKey × RouteRow). x.1) (router_routes n host r)
            ≡ (if is_on_host host r then map (route_row r.id) (ways_of n.rows r) else [])
        by true here =
            rows_of_ways n host r ports here
            ∙ ap (λ b. if b then map (route_row r.id) (ways_of n.rows r) else []) (sym here)
        by false away =
            ap (map (λ (x : WayKey × RouteRow). x.1)) (no_routes n host r away)
            ∙ ap (λ b. if b then map (route_row r.id) (ways_of n.rows r) else []) (sym away)

-- keys and rows of one list are as many
pub same_length : {K W R : Type 0} (xs : List (K × R)) (keys : List K) (ws : List W) (f : W → R)
    → map (λ (x : K × R). x.0) xs ≡ keys → map (λ (x : K × R). x.1) xs ≡ map f ws
    → length keys ≡ length ws
same_length {K} {W} {R} xs keys ws f first second =
    sym (ap length first) ∙ firsts xs ∙ sym (seconds xs) ∙ ap length second ∙ images ws
  where
    firsts : (xs : List (K × R)) → length (map (λ (x : K × R). x.0) xs) ≡ length xs
    firsts [] = refl
    firsts (x ∷ xs) = ap suc (firsts xs)

    seconds : (xs : List (K × R)) → length (map (λ (x : K × R). x.1) xs) ≡ length xs
    seconds [] = refl
    seconds (x ∷ xs) = ap suc (seconds xs)

    images : (ws : List W) → length (map f ws) ≡ length ws
    images [] = refl
    images (w ∷ ws) = ap suc (images ws)

-- the row at a place, with its key
pub next_row : {K W R : Type 0} (xs : List (K × R)) (keys : List K) (ws : List W) (f : W → R)
    (i : ℕ) (k : K) (w : W) → i < length keys → map (λ (x : K × R). x.0) xs ≡ keys
    → map (λ (x : K × R). x.1) xs ≡ map f ws → k ≡ get_or keys i k → w ≡ get_or ws i w
    → drop i xs ≡ (k, f w) ∷ drop (i + 1) xs
next_row [] keys ws f i k w less first second at is =
    absurd (omega (arith, less, ap length (sym first)))
next_row (x ∷ xs) [] ws f i k w less first second at is = absurd (omega (arith, less))
next_row (x ∷ xs) (q ∷ keys) [] f i k w less first second at is =
    none_some (x.1) _ (sym (ap (λ l. slice_get l 0) second))
next_row (x ∷ xs) (q ∷ keys) (v ∷ ws) f zero k w less first second at is =
    let head = some_equal x.0 q (ap (λ l. slice_get l 0) first) ∙ sym at in
    let row = some_equal x.1 (f v) (ap (λ l. slice_get l 0) second) ∙ ap f (sym is) in
    λ j. (head j, row j) ∷ xs
next_row (x ∷ xs) (q ∷ keys) (v ∷ ws) f (suc i) k w less first second at is =
    let next : suc i + 1 ≡ suc (i + 1) = omega arith in
    next_row xs keys ws f i k w (omega (arith, less)) (ap (drop 1) first) (ap (drop 1) second) at is
    ∙ ap (λ n. (k, f w) ∷ drop n (x ∷ xs)) (sym next)
