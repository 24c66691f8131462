-- The routes of a router stand in ascending order of their keys.
use Rattle.std.proofs.Common.{◌≡◌, ◌∙◌, ℕ, ◌≤◌, List, [], ◌∷◌, ◌++◌, Bool, true, false, true≢false, cond, Option, Some, None, find, map, refl, ap, sym, subst, arith}
use Rattle.std.specs.Prelude.{if◌then◌else◌, count_by, flat_map, nat_lt, sum_by}
use Rattle.std.specs.List.{filter}
use Rattle.std.proofs.lemmas.List.{append-nil, append_assoc}
use Rattle.std.proofs.lemmas.List.Sums.{sum_by-cons}
use Rattle.net_addr.proofs.AddrLemmas.{addr_itself}
use Rattle.net_addr.specs.Addresses.{addr_eq}
use Rattle.net_addr.specs.Ordered.{addr_before}
use Rattle.net_addr.specs.declared.address.Addr.{Addr}
use Rattle.api_types.specs.Ascending.{ascending}
use Rattle.api_types.specs.Consistent.{IsConsistent}
use Rattle.api_types.specs.Consistent.HeldOnce.{holds_times}
use Rattle.api_types.specs.Holders.{gateway_port, gateway_port_of}
use Rattle.api_types.specs.Ident.{Ident}
use Rattle.api_types.specs.Live.{is_live}
use Rattle.api_types.specs.RouterRows.{by_address, connected_by, extra_way, is_leg_of, legs_of}
use Rattle.api_types.specs.RouterViews.{Way}
use Rattle.api_types.specs.RowLists.{RowLists}
use Rattle.api_types.specs.RowsWith.{port_with, subnet_with}
use Rattle.api_types.specs.Table.{ident_eq}
use Rattle.api_types.specs.declared.port.Fixed.{Fixed}
use Rattle.api_types.specs.declared.port.PortRow.{PortRow}
use Rattle.api_types.specs.declared.router.Gateway.{Gateway}
use Rattle.api_types.specs.declared.router.RouterRow.{RouterRow}
use Rattle.api_types.specs.declared.subnet.Hop.{Hop}
use Rattle.api_types.proofs.ListLemmas.{none_some}
use Rattle.api_types.proofs.NameLemmas.{ident_itself}
use Rattle.plane_types.specs.Keyed.{AllAfter, AreApart, IsTotal, Others, Rises, are_one, chunks, pair_order, rows_by_key, under}
use Rattle.plane_types.specs.KeyedTables.{WayKey, connected_at, default_at, default_from, fixed_by_address, hop_key, keyed_connected, keyed_extra, keyed_ways, router_routes, way_order}
use Rattle.plane_types.specs.Numbered.{with_numbers}
use Rattle.plane_types.specs.NumberedRows.{NumberedRows}
use Rattle.plane_types.specs.TableRows.{is_on_host, route_row}
use Rattle.plane_types.proofs.KeyedLemmas.{three_ways, apart_first, apart_second}
use Rattle.plane_types.proofs.MapLemmas.{sorted_rises}
use Rattle.plane_types.proofs.NumberedLemmas.{number_order, numbered_rises}
use Rattle.plane_types.proofs.PairLemmas.{flat_rises, pair_first, pair_total}
use Rattle.plane_types.proofs.TableLemmas.{keyed_rises}
use Rattle.plane_laws.proofs.Counted.{once-counted}
use Rattle.plane_laws.proofs.Facts.{AllOf, AtMostOne}
use Rattle.plane_laws.proofs.ListLemmas.{AllOf-filter, find-each}
use Rattle.table_edits.specs.KeyOrders.{addr_order}
use Rattle.l3_delta.proofs.WayLemmas.{default_for, defaults_by_key}

abbrev pub address : Fixed → Addr
address f = f.address

-- ---- a port's addresses differ

-- addresses that differ are apart
differ : (x y : Addr) → addr_eq y x ≡ false → are_one addr_before y x ≡ false
differ x y h =
    three_ways addr_before addr_order y x (are_one addr_before y x ≡ false)
    (λ e. apart_first addr_before addr_order y x e)
    (λ e. apart_second addr_before addr_order y x e)
    (λ e f.
    absurd (true≢false (sym (addr_itself x) ∙ ap (λ z. addr_eq z x) (sym (addr_order.same y x e f))
    ∙ h)))

no_other : (x : Addr) (fs : List Fixed) → find (λ (f : Fixed). addr_eq f.address x) fs ≡ None
    → Others addr_before x (map address fs)
no_other x [] h = tt
no_other x (f ∷ fs) h = go (addr_eq f.address x) refl h (no_other x fs)
  where
    go : (b : Bool) → addr_eq f.address x ≡ b
        → cond b (Some f) (find (λ (f : Fixed). addr_eq f.address x) fs) ≡ None
        → (find (λ (f : Fixed). addr_eq f.address x) fs ≡ None
        → Others addr_before x (map address fs))
        → Others addr_before x (map address (f ∷ fs))
    go true e h rest = none_some f _ (sym h)
    go false e h rest = (differ x f.address e, rest h)

addresses_apart : (fs : List Fixed)
    → ((x : Addr) → AtMostOne (λ (f : Fixed). addr_eq f.address x) fs)
    → AreApart addr_before (map address fs)
addresses_apart [] once = tt
addresses_apart (f ∷ fs) once = (
  no_other f.address fs ((once f.address).0 (addr_itself f.address)),
  addresses_apart fs (λ x. (once x).1),
)

-- so they ascend, when they are in order
abbrev pub FixedRise : PortRow → Type 0
FixedRise p = Rises addr_before (fixed_by_address p)

fixed_rise : (rows : RowLists) → IsConsistent rows → AllOf FixedRise rows.ports
fixed_rise rows good = each rows.ports (λ i x. good.held_once.addresses i x)
  where
    times : (p : PortRow) (x : Addr) (b : Bool) → ident_eq p.network p.network ≡ b → b ≡ true
        → cond b (count_by (λ (f : Fixed). addr_eq f.address x) p.fixed) 0 ≤ 1
        → count_by (λ (f : Fixed). addr_eq f.address x) p.fixed ≤ 1
    times p x true e k h = h
    times p x false e k h = absurd (true≢false (sym k))

    each : (ps : List PortRow)
        → ((i : Ident) (x : Addr) → sum_by (holds_times i x) ps ≤ 1) → AllOf FixedRise ps
    each [] once = tt
    each (p ∷ ps) once = (
      sorted_rises addr_before addr_order address p.fixed
          (addresses_apart p.fixed
          (λ x.
          let weight : holds_times p.network x p ≤ 1 =
          omega (arith, sum_by-cons (holds_times p.network x) p ps, once p.network x) in
          once-counted (λ (f : Fixed). addr_eq f.address x) p.fixed
          (times p x (ident_eq p.network p.network) refl (ident_itself p.network) weight))),
      each ps (λ i x. omega (arith, sum_by-cons (holds_times i x) p ps, once i x)),
    )

-- ---- chunks of which each ascends

module _ {X J R : Type 0} (second : J → J → Bool) (order : IsTotal second)
    (chunk : X → List (J × R)) where
  -- a source whose chunk ascends
  abbrev Rising : Type 0
  Rising = (x : X) × Rises second (chunk x)

  abbrev own_chunk : Rising → List (J × R)
  own_chunk x = chunk x.0

  abbrev rising : (xs : List (ℕ × X)) → AllOf (λ (x : ℕ × X). Rises second (chunk x.1)) xs
      → List (ℕ × Rising)
  rising [] all = []
  rising (x ∷ xs) all = (x.0, (x.1, all.0)) ∷ rising xs all.1

  after_same : (k : ℕ) (xs : List (ℕ × X))
      (all : AllOf (λ (x : ℕ × X). Rises second (chunk x.1)) xs) → AllAfter nat_lt k xs
      → AllAfter nat_lt k (rising xs all)
  after_same k [] all up = tt
  after_same k (x ∷ xs) all up = (up.0, after_same k xs all.1 up.1)

  rises_same : (xs : List (ℕ × X)) (all : AllOf (λ (x : ℕ × X). Rises second (chunk x.1)) xs)
      → Rises nat_lt xs → Rises nat_lt (rising xs all)
  rises_same [] all up = tt
  rises_same (x ∷ xs) all up = (after_same x.0 xs all.1 up.0, rises_same xs all.1 up.1)

  same_chunks : (xs : List (ℕ × X)) (all : AllOf (λ (x : ℕ × X). Rises second (chunk x.1)) xs)
      → chunks own_chunk (rising xs all) ≡ chunks chunk xs
  same_chunks [] all = refl
  same_chunks (x ∷ xs) all = ap (λ l. under x.0 (chunk x.1) ++ l) (same_chunks xs all.1)

  pub chunks_rise : (xs : List (ℕ × X))
      → AllOf (λ (x : ℕ × X). Rises second (chunk x.1)) xs → Rises nat_lt xs
      → Rises (pair_order nat_lt second) (chunks chunk xs)
  chunks_rise xs all up =
      subst (Rises (pair_order nat_lt second)) (same_chunks xs all)
      (flat_rises nat_lt second number_order order own_chunk (λ x. x.1) (rising xs all)
      (rises_same xs all up))

-- three lists under numbers that ascend
three_rise : {J R : Type 0} (second : J → J → Bool) (order : IsTotal second)
    (xs ys zs : List (J × R)) → Rises second xs → Rises second ys → Rises second zs
    → Rises (pair_order nat_lt second) (under {K = ℕ} 0 xs ++ under {K = ℕ} 1 ys ++ under {K = ℕ} 2 zs)
three_rise {J} {R} second order xs ys zs a b c =
    subst (Rises (pair_order nat_lt second))
    (ap (λ l. under {K = ℕ} 0 xs ++ (under {K = ℕ} 1 ys ++ l)) (append-nil (under {K = ℕ} 2 zs))
    ∙ sym (append_assoc (under {K = ℕ} 0 xs) (under {K = ℕ} 1 ys) (under {K = ℕ} 2 zs)))
    (chunks_rise second order (λ (l : List (J × R)). l)
    ((0, xs) ∷ (1, ys) ∷ (2, zs) ∷ []) (a, (b, (c, tt)))
    ((refl, (refl, tt)), ((refl, tt), (tt, tt))))

-- one list under a number
under_rises : {J R : Type 0} (second : J → J → Bool) (order : IsTotal second) (k : ℕ)
    (xs : List (J × R)) → Rises second xs → Rises (pair_order nat_lt second) (under k xs)
under_rises {J} {R} second order k xs a =
    subst (Rises (pair_order nat_lt second)) (append-nil (under k xs))
    (chunks_rise second order (λ (l : List (J × R)). l) ((k, xs) ∷ []) (a, tt) (tt, tt))

-- ---- the routes of a router

abbrev place_order : ℕ × Addr → ℕ × Addr → Bool
place_order = pair_order nat_lt addr_before

places : IsTotal place_order
places = pair_total nat_lt addr_before number_order addr_order

hop_after : (k : ℕ) (x : Addr) (hops : List (ℕ × Hop)) → AllAfter nat_lt k hops
    → AllAfter place_order (k, x) (map hop_key hops)
hop_after k x [] up = tt
hop_after k x (h ∷ hops) up = (
  pair_first nat_lt addr_before number_order addr_order (k, x) (h.0, (h.1).next) up.0,
  hop_after k x hops up.1,
)

hops_rise : (hops : List (ℕ × Hop)) → Rises nat_lt hops → Rises place_order (map hop_key hops)
hops_rise [] up = tt
hops_rise (h ∷ hops) up = (hop_after h.0 (h.1).next hops up.0, hops_rise hops up.1)

module _ (n : NumberedRows) (good : IsConsistent n.rows) (up : Rises nat_lt n.ports)
    (ports : map (λ (x : ℕ × PortRow). x.1) n.ports ≡ n.rows.ports) where
  each_rise : AllOf FixedRise (map (λ (x : ℕ × PortRow). x.1) n.ports)
  each_rise = subst (AllOf FixedRise) (sym ports) (fixed_rise n.rows good)

  numbered_rise : (xs : List (ℕ × PortRow))
      → AllOf FixedRise (map (λ (x : ℕ × PortRow). x.1) xs)
      → AllOf (λ (x : ℕ × PortRow). FixedRise x.1) xs
  numbered_rise [] all = tt
  numbered_rise (x ∷ xs) all = (all.0, numbered_rise xs all.1)

  filter_after : (test : PortRow → Bool) (k : ℕ) (xs : List (ℕ × PortRow)) → AllAfter nat_lt k xs
      → AllAfter nat_lt k (filter (λ (x : ℕ × PortRow). test x.1) xs)
  filter_after test k [] h = tt
  filter_after test k (x ∷ xs) h = go (test x.1) (filter_after test k xs h.1)
    where
      go : (b : Bool) → AllAfter nat_lt k (filter (λ (x : ℕ × PortRow). test x.1) xs)
          → AllAfter nat_lt k
          (if b then x ∷ filter (λ (x : ℕ × PortRow). test x.1) xs
          else filter (λ (x : ℕ × PortRow). test x.1) xs)
      go true rest = (h.0, rest)
      go false rest = rest

  filter_rises : (test : PortRow → Bool) (xs : List (ℕ × PortRow)) → Rises nat_lt xs
      → Rises nat_lt (filter (λ (x : ℕ × PortRow). test x.1) xs)
  filter_rises test [] h = tt
  filter_rises test (x ∷ xs) h = go (test x.1) (filter_rises test xs h.1)
    where
      go : (b : Bool) → Rises nat_lt (filter (λ (x : ℕ × PortRow). test x.1) xs)
          → Rises nat_lt
          (if b then x ∷ filter (λ (x : ℕ × PortRow). test x.1) xs
          else filter (λ (x : ℕ × PortRow). test x.1) xs)
      go true rest = (filter_after test x.0 xs h.0, rest)
      go false rest = rest

  connected_rises : (r : RouterRow) → Rises place_order (keyed_connected n r)
  connected_rises r =
      chunks_rise addr_before addr_order (connected_at n r)
      (filter (λ (x : ℕ × PortRow). is_leg_of n.rows r x.1) n.ports)
      (AllOf-filter (λ (x : ℕ × PortRow). FixedRise x.1)
      (λ (x : ℕ × PortRow). Rises addr_before (connected_at n r x.1))
      (λ (x : ℕ × PortRow). is_leg_of n.rows r x.1) n.ports
      (λ x rise leg.
      keyed_rises addr_before addr_order
      (λ (f : Fixed). connected_by (legs_of n.rows r) (subnet_with n.rows f.subnet))
      (fixed_by_address x.1) rise)
      (numbered_rise n.ports each_rise))
      (filter_rises (is_leg_of n.rows r) n.ports up)

  extra_rises : (r : RouterRow) → Rises place_order (keyed_extra n r)
  extra_rises r =
      keyed_rises place_order places (extra_way n.rows (legs_of n.rows r))
      (map hop_key (with_numbers 0 r.routes))
      (hops_rise (with_numbers 0 r.routes) (numbered_rises 0 r.routes))

  default_rises : (r : RouterRow) → Rises place_order (default_from n r (gateway_port n.rows r))
  default_rises r = by_gateway r.gateway
    where
      by_live : (p : PortRow) → FixedRise p → (b : Bool)
          → Rises place_order
          (if b then flat_map (default_at n r) (fixed_by_address p) else [])
      by_live p rise false = tt
      by_live p rise true =
          subst (Rises place_order) (sym (defaults_by_key n r (ascending by_address p.fixed)))
          (under_rises addr_before addr_order 0
          (rows_by_key addr_before (default_for n r) (fixed_by_address p))
          (keyed_rises addr_before addr_order (default_for n r) (fixed_by_address p) rise))

      by_port : (o : Option PortRow) → ((p : PortRow) → o ≡ Some p → FixedRise p)
          → Rises place_order (default_from n r o)
      by_port None rise = tt
      by_port (Some p) rise = by_live p (rise p refl) (is_live n.rows p)

      by_gateway : (o : Option Gateway) → Rises place_order (default_from n r (gateway_port_of n.rows o))
      by_gateway None = tt
      by_gateway (Some g) =
          by_port (port_with n.rows g.port)
          (λ p is.
          find-each FixedRise (λ (q : PortRow). ident_eq g.port q.id) n.rows.ports p
          (fixed_rise n.rows good) is)

  pub ways_rise : (r : RouterRow) → Rises way_order (keyed_ways n r)
  ways_rise r =
      three_rise place_order places (keyed_connected n r) (keyed_extra n r)
      (default_from n r (gateway_port n.rows r)) (connected_rises r) (extra_rises r)
      (default_rises r)

  -- and so do the rows of the table
  row_after : (i : Ident) (k : WayKey) (xs : List (WayKey × Way)) → AllAfter way_order k xs
      → AllAfter way_order k (map (λ (x : WayKey × Way). (x.0, route_row i x.1)) xs)
  row_after i k [] h = tt
  row_after i k (x ∷ xs) h = (h.0, row_after i k xs h.1)

  rows_rise : (i : Ident) (xs : List (WayKey × Way)) → Rises way_order xs
      → Rises way_order (map (λ (x : WayKey × Way). (x.0, route_row i x.1)) xs)
  rows_rise i [] h = tt
  rows_rise i (x ∷ xs) h = (row_after i x.0 xs h.0, rows_rise i xs h.1)

  pub routes_rise : (host : List ℕ) (r : RouterRow) → Rises way_order (router_routes n host r)
  routes_rise host r = go (is_on_host host r)
    where
      go : (b : Bool)
          → Rises way_order
          (if b then map (λ (x : WayKey × Way). (x.0, route_row r.id x.1)) (keyed_ways n r) else [])
      go true = rows_rise r.id (keyed_ways n r) (ways_rise r)
      go false = tt
