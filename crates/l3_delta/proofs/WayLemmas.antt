-- The keys that code makes for the routes of a router are those under which its routes stand.
use Rattle.std.proofs.Common.{◌≡◌, ◌∙◌, ℕ, suc, ◌+◌, List, [], ◌∷◌, ◌++◌, Bool, true, false, Option, Some, None, find, map, refl, ap, sym, subst, arith}
use Rattle.std.specs.Prelude.{◌&&◌, if◌then◌else◌, flat_map, is_some, nat_lt, option_and_then, option_map}
use Rattle.std.specs.List.{cons_option, filter, filter_map, list_any}
use Rattle.std.proofs.lemmas.List.{map-append}
use Rattle.net_addr.specs.Addresses.{with_number}
use Rattle.net_addr.specs.Ordered.{addr_before}
use Rattle.net_addr.specs.Prefixes.{Prefix}
use Rattle.net_addr.specs.declared.address.Addr.{Addr}
use Rattle.api_types.specs.Ascending.{ascending, put_in}
use Rattle.api_types.specs.Holders.{gateway_port}
use Rattle.api_types.specs.Ident.{Ident}
use Rattle.api_types.specs.Lists.{Each}
use Rattle.api_types.specs.Live.{is_live}
use Rattle.api_types.specs.Owners.{holds_in}
use Rattle.api_types.specs.RouterRows.{by_address, connected_by, default_by, extra_way, holds_next, is_leg_of, legs_of, way_by}
use Rattle.api_types.specs.RouterViews.{Way}
use Rattle.api_types.specs.RowLists.{RowLists}
use Rattle.api_types.specs.RowsWith.{subnet_with}
use Rattle.api_types.specs.Table.{ident_eq}
use Rattle.api_types.specs.declared.port.Fixed.{Fixed}
use Rattle.api_types.specs.declared.port.PortRow.{PortRow}
use Rattle.api_types.specs.declared.route.RouteRank.{RouteRank}
use Rattle.api_types.specs.declared.route.RouteRank.TheVariants.{Connected, Default, Extra}
use Rattle.api_types.specs.declared.router.RouterRow.{RouterRow}
use Rattle.api_types.specs.declared.subnet.Hop.{Hop}
use Rattle.api_types.specs.declared.subnet.SubnetRow.{SubnetRow}
use Rattle.api_types.proofs.ListLemmas.{at-any}
use Rattle.api_types.proofs.NameLemmas.{ident_itself, ident_same}
use Rattle.plane_types.specs.Keyed.{chunks, cons_at, pair_order, rows_by_key, under, with_keys}
use Rattle.plane_types.specs.KeyedTables.{WayKey, connected_at, default_at, default_from, fixed_by_address, hop_key, keyed_connected, keyed_extra, keyed_ways}
use Rattle.plane_types.specs.Numbered.{with_numbers}
use Rattle.plane_types.specs.NumberedRows.{NumberedRows}
use Rattle.plane_laws.proofs.Counted.{all-of}
use Rattle.plane_laws.proofs.Facts.{AllOf}
use Rattle.plane_laws.proofs.ListLemmas.{find-each, find-passes, find-some, list_any-flat_map}
use Rattle.kept_rows.proofs.FoundLemmas.{plain_filtered}
use Rattle.l3_delta.specs.WayKeys.{connected_keys, default_keys, defaults_of, extra_keys, has_default, has_default_in, leads, names_subnet, way_keys}

-- ---- keys alone

abbrev pub keys : {K R : Type 0} → List (K × R) → List K
keys xs = map (λ x. x.0) xs

keys-append : {K R : Type 0} (xs ys : List (K × R)) → keys (xs ++ ys) ≡ keys xs ++ keys ys
keys-append {K} {R} xs ys = map-append (λ (x : K × R). x.0) xs ys

pub under-append : {K J R : Type 0} (k : K) (xs ys : List (J × R))
    → under k (xs ++ ys) ≡ under k xs ++ under k ys
under-append k [] ys = refl
under-append k (x ∷ xs) ys = ap (λ l. ((k, x.0), x.1) ∷ l) (under-append k xs ys)

-- ---- what holds of each address of a port holds of them in order

all_put : {X : Type 0} (P : X → Type 0) (before : X → X → Bool) (x : X) (ys : List X) → P x
    → AllOf P ys → AllOf P (put_in before x ys)
unfolding put_in
all_put P before x [] h all = (h, tt)
all_put P before x (y ∷ ys) h all = go (before y x) (all_put P before x ys h all.1)
  where
    go : (b : Bool) → AllOf P (put_in before x ys)
        → AllOf P (if b then y ∷ put_in before x ys else x ∷ y ∷ ys)
    go true rest = (all.0, rest)
    go false rest = (h, all)

pub all_ascending : {X : Type 0} (P : X → Type 0) (before : X → X → Bool) (xs : List X)
    → AllOf P xs → AllOf P (ascending before xs)
unfolding ascending
all_ascending P before [] all = tt
all_ascending P before (x ∷ xs) all =
    all_put P before x (ascending before xs) all.0 (all_ascending P before xs all.1)

all_append : {X : Type 0} (P : X → Type 0) (xs ys : List X) → AllOf P xs → AllOf P ys
    → AllOf P (xs ++ ys)
all_append P [] ys h all = all
all_append P (x ∷ xs) ys h all = (h.0, all_append P xs ys h.1 all)

pub all_flat : {X Y : Type 0} (P : Y → Type 0) (f : X → List Y) (xs : List X)
    → AllOf (λ x. AllOf P (f x)) xs → AllOf P (flat_map f xs)
all_flat P f [] all = tt
all_flat P f (x ∷ xs) all = all_append P (f x) (flat_map f xs) all.0 (all_flat P f xs all.1)

-- of an address whose subnet one of these ports is in
abbrev pub IsExit : List PortRow → Fixed → Type 0
IsExit legs f = list_any (holds_in f.subnet) legs ≡ true

-- a router's ports are in the subnets of their addresses
pub own_exits : (legs : List PortRow)
    → Each (λ (p : PortRow). AllOf (IsExit legs) p.fixed) legs
own_exits legs i p at =
    all-of (IsExit legs) p.fixed
    (λ k f there.
    at-any (holds_in f.subnet) legs i p at
    (at-any (λ (g : Fixed). ident_eq f.subnet g.subnet) p.fixed k f there
    (ident_itself f.subnet)))

-- whether something is found by it doesn't matter what is made of it
made_some : {X Y : Type 0} (g : X → Y) (o : Option X) → is_some (option_map g o) ≡ is_some o
made_some g None = refl
made_some g (Some x) = refl

pub way_some : (legs : List PortRow) (n : Ident) (prefix : Prefix) (rank : RouteRank)
    (next : Option Addr) → is_some (way_by legs n prefix rank next) ≡ list_any (holds_in n) legs
way_some legs n prefix rank next =
    made_some {Y = Way}
    (λ (p : PortRow). record { prefix = prefix; rank = rank; next = next; port = p.id })
    (find (holds_in n) legs)
    ∙ find-some (holds_in n) legs

-- a subnet that is found has the id
pub own_subnet : (rows : RowLists) (i : Ident) (s : SubnetRow) → subnet_with rows i ≡ Some s
    → s.id ≡ i
own_subnet rows i s is =
    sym (ident_same i s.id
    (find-passes (λ (t : SubnetRow). ident_eq i t.id) rows.subnets s is))

-- ---- rows by addresses, under two numbers

module _ {R : Type 0} (i k : ℕ) (h : Fixed → Option R) where
  abbrev pub by_fixed : List Fixed → List ((ℕ × (ℕ × Addr)) × R)
  by_fixed fs =
      under i (under k (rows_by_key addr_before h (with_keys (λ (f : Fixed). f.address) fs)))

  abbrev pub fixed_key : Fixed → ℕ × (ℕ × Addr)
  fixed_key f = (i, (k, f.address))

  pub by_fixed-keys : (test : Fixed → Bool) (fs : List Fixed)
      → AllOf (λ f. is_some (h f) ≡ test f) fs
      → keys (by_fixed fs) ≡ map fixed_key (filter test fs)
  by_fixed-keys test [] same = refl
  by_fixed-keys test (f ∷ fs) same =
      by (test f) (h f) (rows_by_key addr_before h (with_keys (λ (f : Fixed). f.address) fs)) same.0
      (by_fixed-keys test fs same.1)
    where
      by : (b : Bool) (o : Option R) (later : List (Addr × R)) → is_some o ≡ b
          → keys (under i (under k later)) ≡ map fixed_key (filter test fs)
          → keys (under i (under k (cons_at addr_before f.address o later)))
          ≡ map fixed_key (if b then f ∷ filter test fs else filter test fs)
      by true (Some r) later e rest = ap (λ l. fixed_key f ∷ l) rest
      by false None later e rest = rest
      by true None later e rest = cc
      by false (Some r) later e rest = cc

module _ (n : NumberedRows) (r : RouterRow) where
  abbrev legs : List PortRow
  legs = legs_of n.rows r

  -- ---- connected routes

  connected_some : (f : Fixed) → IsExit legs f
      → is_some (connected_by legs (subnet_with n.rows f.subnet)) ≡ names_subnet n.rows f
  connected_some f exit = go (subnet_with n.rows f.subnet) refl
    where
      go : (o : Option SubnetRow) → subnet_with n.rows f.subnet ≡ o
          → is_some (connected_by legs o) ≡ is_some o
      go None e = refl
      go (Some s) e =
          way_some legs s.id s.prefix Connected None
          ∙ ap (λ m. list_any (holds_in m) legs) (own_subnet n.rows f.subnet s e) ∙ exit

  connected-keys : (x : ℕ × PortRow) → AllOf (IsExit legs) (x.1).fixed
      → keys (under {K = ℕ} 0 (under x.0 (connected_at n r x.1))) ≡ connected_keys n.rows x
  connected-keys x exits =
      by_fixed-keys 0 x.0 (λ (f : Fixed). connected_by legs (subnet_with n.rows f.subnet))
      (names_subnet n.rows) (ascending by_address (x.1).fixed)
      (all_same (ascending by_address (x.1).fixed)
      (all_ascending (IsExit legs) by_address (x.1).fixed exits))
    where
      all_same : (fs : List Fixed) → AllOf (IsExit legs) fs
          → AllOf
          (λ f. is_some (connected_by legs (subnet_with n.rows f.subnet)) ≡ names_subnet n.rows f)
          fs
      all_same [] all = tt
      all_same (f ∷ fs) all = (connected_some f all.0, all_same fs all.1)

  all-connected : (xs : List (ℕ × PortRow))
      → AllOf (λ (x : ℕ × PortRow). AllOf (IsExit legs) (x.1).fixed) xs
      → keys (under {K = ℕ} 0 (chunks (connected_at n r) xs)) ≡ flat_map (connected_keys n.rows) xs
  all-connected [] all = refl
  all-connected (x ∷ xs) all =
      ap keys (under-append {K = ℕ} 0 (under x.0 (connected_at n r x.1)) (chunks (connected_at n r) xs))
      ∙ keys-append (under {K = ℕ} 0 (under x.0 (connected_at n r x.1)))
      (under {K = ℕ} 0 (chunks (connected_at n r) xs))
      ∙ (λ j. connected-keys x all.0 j ++ all-connected xs all.1 j)

  -- ---- extra ones

  extra_some : AllOf (λ (p : PortRow). AllOf (IsExit legs) p.fixed) legs → (h : Hop)
      → is_some (extra_way n.rows legs h) ≡ leads n.rows legs h
  extra_some exits h =
      go (find (holds_next n.rows h.next) (flat_map (λ (p : PortRow). p.fixed) legs)) refl
      ∙ find-some (holds_next n.rows h.next) (flat_map (λ (p : PortRow). p.fixed) legs)
      ∙ list_any-flat_map (holds_next n.rows h.next) (λ (p : PortRow). p.fixed) legs
    where
      go : (o : Option Fixed)
          → find (holds_next n.rows h.next) (flat_map (λ (p : PortRow). p.fixed) legs) ≡ o
          → is_some (option_and_then
          (λ (f : Fixed). way_by legs f.subnet h.destination Extra (Some h.next)) o)
          ≡ is_some o
      go None e = refl
      go (Some f) e =
          way_some legs f.subnet h.destination Extra (Some h.next)
          ∙ find-each (IsExit legs) (holds_next n.rows h.next)
          (flat_map (λ (p : PortRow). p.fixed) legs) f
          (all_flat (IsExit legs) (λ (p : PortRow). p.fixed) legs exits) e

  extra-keys : (test : Hop → Bool) → ((h : Hop) → is_some (extra_way n.rows legs h) ≡ test h)
      → (k : ℕ) (hops : List Hop)
      → keys (under {K = ℕ} 1 (rows_by_key (pair_order nat_lt addr_before) (extra_way n.rows legs)
      (map hop_key (with_numbers k hops))))
      ≡ extra_keys test k hops
  extra-keys test same k [] = refl
  extra-keys test same k (h ∷ hops) =
      let next : suc k ≡ k + 1 = omega arith in
      by (test h) (extra_way n.rows legs h)
      (rows_by_key (pair_order nat_lt addr_before) (extra_way n.rows legs)
      (map hop_key (with_numbers (suc k) hops))) (same h)
      (extra-keys test same (suc k) hops ∙ ap (λ m. extra_keys test m hops) next)
    where
      by : (b : Bool) (o : Option Way) (later : List ((ℕ × Addr) × Way)) → is_some o ≡ b
          → keys (under {K = ℕ} 1 later) ≡ extra_keys test (k + 1) hops
          → keys (under {K = ℕ} 1 (cons_at (pair_order nat_lt addr_before) (k, h.next) o later))
          ≡ (if b then (1, (k, h.next)) ∷ extra_keys test (k + 1) hops
          else extra_keys test (k + 1) hops)
      by true (Some w) later e rest = ap (λ (l : List WayKey). (1, (k, h.next)) ∷ l) rest
      by false None later e rest = rest
      by true None later e rest = cc
      by false (Some w) later e rest = cc

  -- ---- default ones

  -- the default route by an address's subnet, if there is one
  abbrev pub default_by_gateway : Ident → Option Addr → Option Way
  default_by_gateway i gateway =
      option_and_then (λ (g : Addr).
      way_by legs i (record { base = with_number g 0; len = 0 }) Default (Some g)) gateway

  abbrev pub default_way : Option SubnetRow → Option Way
  default_way o = option_and_then (λ (s : SubnetRow). default_by_gateway s.id s.gateway) o

  default_list : (o : Option SubnetRow) → default_by legs o ≡ cons_option (default_way o) []
  default_list None = refl
  default_list (Some s) = go s.gateway
    where
      go : (g : Option Addr)
          → filter_map (λ (g : Addr).
          way_by legs s.id (record { base = with_number g 0; len = 0 }) Default (Some g))
          (elim g [ None ↦ [] | Some g ↦ g ∷ [] ])
          ≡ cons_option (default_by_gateway s.id g) []
      go None = refl
      go (Some g) = refl

  default_some : (o : Option SubnetRow) → is_some (default_way o) ≡ has_default_in legs o
  default_some None = refl
  default_some (Some s) = go s.gateway
    where
      go : (g : Option Addr)
          → is_some (default_by_gateway s.id g) ≡ (is_some g && list_any (holds_in s.id) legs)
      go None = refl
      go (Some g) =
          way_some legs s.id (record { base = with_number g 0; len = 0 }) Default (Some g)

  abbrev pub default_for : Fixed → Option Way
  default_for f = default_way (subnet_with n.rows f.subnet)

  -- they stand under their addresses
  pub defaults_by_key : (fs : List Fixed)
      → flat_map (default_at n r) (with_keys (λ (f : Fixed). f.address) fs)
      ≡ under {K = ℕ} 0 (rows_by_key addr_before default_for (with_keys (λ (f : Fixed). f.address) fs))
  defaults_by_key [] = refl
  defaults_by_key (f ∷ fs) =
      (λ j.
      map (λ (w : Way). ((0, f.address), w)) (default_list (subnet_with n.rows f.subnet) j)
      ++ defaults_by_key fs j)
      ∙ go (default_for f)
      (rows_by_key addr_before default_for (with_keys (λ (f : Fixed). f.address) fs))
    where
      go : (o : Option Way) (later : List (Addr × Way))
          → map (λ (w : Way). ((0, f.address), w)) (cons_option o []) ++ under {K = ℕ} 0 later
          ≡ under {K = ℕ} 0 (cons_at addr_before f.address o later)
      go None later = refl
      go (Some w) later = refl

  defaults-keys : (p : PortRow)
      → keys (under {K = ℕ} 2 (flat_map (default_at n r) (fixed_by_address p)))
      ≡ default_keys n.rows legs p
  defaults-keys p =
      ap (λ l. keys (under {K = ℕ} 2 l)) (defaults_by_key (ascending by_address p.fixed))
      ∙ by_fixed-keys 2 0 default_for (has_default n.rows legs) (ascending by_address p.fixed)
      (all_same (ascending by_address p.fixed))
    where
      all_same : (fs : List Fixed)
          → AllOf (λ f. is_some (default_for f) ≡ has_default n.rows legs f) fs
      all_same [] = tt
      all_same (f ∷ fs) = (default_some (subnet_with n.rows f.subnet), all_same fs)

  default-keys : (o : Option PortRow)
      → keys (under {K = ℕ} 2 (default_from n r o)) ≡ defaults_of n.rows legs o
  default-keys None = refl
  default-keys (Some p) = go (is_live n.rows p)
    where
      go : (b : Bool)
          → keys (under {K = ℕ} 2 (if b then flat_map (default_at n r) (fixed_by_address p) else []))
          ≡ (if b then default_keys n.rows legs p else [])
      go true = defaults-keys p
      go false = refl

  -- ---- all of them

  -- the router's live ports, with their numbers
  abbrev pub numbered : List (ℕ × PortRow)
  numbered = filter (λ (x : ℕ × PortRow). is_leg_of n.rows r x.1) n.ports

  pub plain_legs : map (λ (x : ℕ × PortRow). x.1) n.ports ≡ n.rows.ports
      → map (λ (x : ℕ × PortRow). x.1) numbered ≡ legs
  unfolding legs_of
  plain_legs ports =
      plain_filtered (is_leg_of n.rows r) n.ports ∙ ap (filter (is_leg_of n.rows r)) ports

  numbered_exits : (xs : List (ℕ × PortRow))
      → AllOf (λ (p : PortRow). AllOf (IsExit legs) p.fixed) (map (λ (x : ℕ × PortRow). x.1) xs)
      → AllOf (λ (x : ℕ × PortRow). AllOf (IsExit legs) (x.1).fixed) xs
  numbered_exits [] all = tt
  numbered_exits (x ∷ xs) all = (all.0, numbered_exits xs all.1)

  pub way_keys_are : map (λ (x : ℕ × PortRow). x.1) n.ports ≡ n.rows.ports
      → keys (keyed_ways n r) ≡ way_keys n.rows numbered r
  way_keys_are ports =
      let plain = plain_legs ports in
      let exits : AllOf (λ (p : PortRow). AllOf (IsExit legs) p.fixed) legs =
      all-of (λ (p : PortRow). AllOf (IsExit legs) p.fixed) legs (own_exits legs) in
      let connected : List (WayKey × Way) = under {K = ℕ} 0 (keyed_connected n r) in
      let extra : List (WayKey × Way) = under {K = ℕ} 1 (keyed_extra n r) in
      let last : List (WayKey × Way) = under {K = ℕ} 2 (default_from n r (gateway_port n.rows r)) in
      keys-append (connected ++ extra) last
      ∙ ap (λ l. l ++ keys last) (keys-append connected extra)
      ∙ (λ j.
      all-connected numbered
      (numbered_exits numbered
      (subst (AllOf (λ (p : PortRow). AllOf (IsExit legs) p.fixed)) (sym plain) exits)) j
      ++ extra-keys (leads n.rows legs) (extra_some exits) 0 r.routes j
      ++ default-keys (gateway_port n.rows r) j)
      ∙ (λ j.
      flat_map (connected_keys n.rows) numbered
      ++ extra_keys (leads n.rows (sym plain j)) 0 r.routes
      ++ defaults_of n.rows (sym plain j) (gateway_port n.rows r))
