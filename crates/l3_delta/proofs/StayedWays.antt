-- A router whose ports and subnets stay has the routes that it had, under the same keys.
use Rattle.std.proofs.Common.{◌≡◌, ◌∙◌, ℕ, List, [], ◌∷◌, ◌++◌, Bool, true, false, Option, Some, None, map, refl, ap, sym, subst}
use Rattle.std.specs.Prelude.{if◌then◌else◌, flat_map, nat_lt, option_and_then}
use Rattle.std.specs.List.{filter, filter_map}
use Rattle.net_addr.specs.Addresses.{with_number}
use Rattle.net_addr.specs.Ordered.{addr_before}
use Rattle.net_addr.specs.Prefixes.{contains}
use Rattle.net_addr.specs.declared.address.Addr.{Addr}
use Rattle.api_types.specs.Ascending.{ascending}
use Rattle.api_types.specs.Holders.{gateway_port}
use Rattle.api_types.specs.Ident.{Ident}
use Rattle.api_types.specs.Live.{is_live}
use Rattle.api_types.specs.RouterRows.{by_address, connected_by, default_by, extra_way, holds_next, is_leg_of, legs_of, way_by}
use Rattle.api_types.specs.RouterViews.{Way}
use Rattle.api_types.specs.RowLists.{RowLists}
use Rattle.api_types.specs.RowsWith.{subnet_with}
use Rattle.api_types.specs.Table.{ident_eq}
use Rattle.api_types.specs.declared.port.Fixed.{Fixed}
use Rattle.api_types.specs.declared.port.PortRow.{PortRow}
use Rattle.api_types.specs.declared.route.RouteRank.TheVariants.{Connected, Default, Extra}
use Rattle.api_types.specs.declared.router.RouterRow.{RouterRow}
use Rattle.api_types.specs.declared.subnet.Hop.{Hop}
use Rattle.api_types.specs.declared.subnet.SubnetRow.{SubnetRow}
use Rattle.plane_types.specs.Keyed.{chunks, cons_at, pair_order, rows_by_key, under, with_keys}
use Rattle.plane_types.specs.KeyedTables.{connected_at, default_at, default_from, fixed_by_address, hop_key, keyed_connected, keyed_extra, keyed_ways}
use Rattle.plane_types.specs.Numbered.{with_numbers}
use Rattle.plane_types.specs.NumberedRows.{NumberedRows}
use Rattle.plane_laws.proofs.Facts.{AllOf, AtMostOne}
use Rattle.plane_laws.proofs.ListLemmas.{find-same_each}
use Rattle.table_edits.specs.Untouched.{SubnetStays}
use Rattle.l3_delta.proofs.SubnetLemmas.{contains_in, next_held}
use Rattle.l3_delta.proofs.WayLemmas.{all_ascending, all_flat, own_subnet}

-- the subnets of a port's addresses stay
abbrev pub SubnetsStay : RowLists → RowLists → PortRow → Type 0
SubnetsStay before after p =
    AllOf
    (λ (f : Fixed). SubnetStays (subnet_with before f.subnet) (subnet_with after f.subnet)) p.fixed

-- ---- what is made alike of each is alike

by_key_same : {R : Type 0} (h g : Fixed → Option R) (fs : List Fixed) → AllOf (λ f. h f ≡ g f) fs
    → rows_by_key addr_before h (with_keys (λ (f : Fixed). f.address) fs)
    ≡ rows_by_key addr_before g (with_keys (λ (f : Fixed). f.address) fs)
by_key_same h g [] same = refl
by_key_same h g (f ∷ fs) same =
    λ j. cons_at addr_before f.address (same.0 j) (by_key_same h g fs same.1 j)

chunks_same : {J R : Type 0} (c d : PortRow → List (J × R)) (xs : List (ℕ × PortRow))
    → AllOf (λ (x : ℕ × PortRow). c x.1 ≡ d x.1) xs → chunks c xs ≡ chunks d xs
chunks_same c d [] same = refl
chunks_same c d (x ∷ xs) same = λ j. under x.0 (same.0 j) ++ chunks_same c d xs same.1 j

flat_same : {Y : Type 0} (f g : Addr × Fixed → List Y) (fs : List Fixed)
    → AllOf (λ (x : Fixed). f (x.address, x) ≡ g (x.address, x)) fs
    → flat_map f (with_keys (λ (f : Fixed). f.address) fs)
    ≡ flat_map g (with_keys (λ (f : Fixed). f.address) fs)
flat_same f g [] same = refl
flat_same f g (x ∷ fs) same = λ j. same.0 j ++ flat_same f g fs same.1 j

all_made : {X : Type 0} (P Q : X → Type 0) → ((x : X) → P x → Q x) → (xs : List X) → AllOf P xs
    → AllOf Q xs
all_made P Q h [] all = tt
all_made P Q h (x ∷ xs) all = (h x all.0, all_made P Q h xs all.1)

-- two rows in which a router has the same ports, whose subnets say the same
pub record KeepsWays (n m : NumberedRows) (r : RouterRow) : Type 0 where
  pub legs : legs_of n.rows r ≡ legs_of m.rows r
  pub numbered : filter (λ (x : ℕ × PortRow). is_leg_of n.rows r x.1) n.ports
      ≡ filter (λ (x : ℕ × PortRow). is_leg_of m.rows r x.1) m.ports
  pub plain : map (λ (x : ℕ × PortRow). x.1)
      (filter (λ (x : ℕ × PortRow). is_leg_of n.rows r x.1) n.ports)
      ≡ legs_of n.rows r
  pub subnets : AllOf (SubnetsStay n.rows m.rows) (legs_of n.rows r)
  pub gateway : gateway_port n.rows r ≡ gateway_port m.rows r
  pub live : (p : PortRow) → gateway_port n.rows r ≡ Some p
      → is_live n.rows p ≡ is_live m.rows p
  pub outer : (p : PortRow) → gateway_port n.rows r ≡ Some p → is_live n.rows p ≡ true
      → SubnetsStay n.rows m.rows p
  pub once : (i : Ident) → AtMostOne (λ (s : SubnetRow). ident_eq i s.id) n.rows.subnets
  pub once_now : (i : Ident) → AtMostOne (λ (s : SubnetRow). ident_eq i s.id) m.rows.subnets

module _ (n m : NumberedRows) (r : RouterRow) (k : KeepsWays n m r) where
  abbrev Stays : Fixed → Type 0
  Stays f = SubnetStays (subnet_with n.rows f.subnet) (subnet_with m.rows f.subnet)

  same_id : (i : Ident) (s t : SubnetRow) → subnet_with n.rows i ≡ Some s
      → subnet_with m.rows i ≡ Some t → s.id ≡ t.id
  same_id i s t e f = own_subnet n.rows i s e ∙ sym (own_subnet m.rows i t f)

  -- ---- connected routes

  connected_same : (f : Fixed) → Stays f
      → connected_by (legs_of n.rows r) (subnet_with n.rows f.subnet)
      ≡ connected_by (legs_of m.rows r) (subnet_with m.rows f.subnet)
  connected_same f = go (subnet_with n.rows f.subnet) (subnet_with m.rows f.subnet) refl refl
    where
      go : (o p : Option SubnetRow) → subnet_with n.rows f.subnet ≡ o
          → subnet_with m.rows f.subnet ≡ p → SubnetStays o p
          → connected_by (legs_of n.rows r) o ≡ connected_by (legs_of m.rows r) p
      go None None e g h = refl
      go (Some s) (Some t) e g h =
          λ j. way_by (k.legs j) (same_id f.subnet s t e g j) (h.prefix j) Connected None
      go None (Some t) e g h = absurd h
      go (Some s) None e g h = absurd h

  port_same : (p : PortRow) → SubnetsStay n.rows m.rows p
      → connected_at n r p ≡ connected_at m r p
  port_same p stay =
      by_key_same (λ (f : Fixed). connected_by (legs_of n.rows r) (subnet_with n.rows f.subnet))
      (λ (f : Fixed). connected_by (legs_of m.rows r) (subnet_with m.rows f.subnet))
      (ascending by_address p.fixed)
      (all_made Stays
      (λ (f : Fixed). connected_by (legs_of n.rows r) (subnet_with n.rows f.subnet)
      ≡ connected_by (legs_of m.rows r) (subnet_with m.rows f.subnet))
      connected_same (ascending by_address p.fixed)
      (all_ascending Stays by_address p.fixed stay))

  ports_same : (xs : List (ℕ × PortRow))
      → AllOf (SubnetsStay n.rows m.rows) (map (λ (x : ℕ × PortRow). x.1) xs)
      → AllOf (λ (x : ℕ × PortRow). connected_at n r x.1 ≡ connected_at m r x.1) xs
  ports_same [] all = tt
  ports_same (x ∷ xs) all = (port_same x.1 all.0, ports_same xs all.1)

  connected : keyed_connected n r ≡ keyed_connected m r
  connected =
      chunks_same (connected_at n r) (connected_at m r)
      (filter (λ (x : ℕ × PortRow). is_leg_of n.rows r x.1) n.ports)
      (ports_same (filter (λ (x : ℕ × PortRow). is_leg_of n.rows r x.1) n.ports)
      (subst (AllOf (SubnetsStay n.rows m.rows)) (sym k.plain) k.subnets))
      ∙ ap (chunks (connected_at m r)) k.numbered

  -- ---- extra ones

  next_same : (x : Addr) (f : Fixed) → Stays f → holds_next n.rows x f ≡ holds_next m.rows x f
  next_same x f h =
      next_held n.rows k.once x f
      ∙ go (subnet_with n.rows f.subnet) (subnet_with m.rows f.subnet) h
      ∙ sym (next_held m.rows k.once_now x f)
    where
      go : (o p : Option SubnetRow) → SubnetStays o p → contains_in x o ≡ contains_in x p
      go None None h = refl
      go (Some s) (Some t) h = ap (λ q. contains q x) h.prefix
      go None (Some t) h = absurd h
      go (Some s) None h = absurd h

  extra_same : (h : Hop)
      → extra_way n.rows (legs_of n.rows r) h ≡ extra_way m.rows (legs_of m.rows r) h
  extra_same h =
      ap (option_and_then
      (λ (f : Fixed). way_by (legs_of n.rows r) f.subnet h.destination Extra (Some h.next)))
      (find-same_each (holds_next n.rows h.next) (holds_next m.rows h.next)
      (flat_map (λ (p : PortRow). p.fixed) (legs_of n.rows r))
      (all_flat (λ f. holds_next n.rows h.next f ≡ holds_next m.rows h.next f)
      (λ (p : PortRow). p.fixed) (legs_of n.rows r)
      (all_made (SubnetsStay n.rows m.rows)
      (λ p. AllOf (λ f. holds_next n.rows h.next f ≡ holds_next m.rows h.next f) p.fixed)
      (λ p stay.
      all_made Stays (λ f. holds_next n.rows h.next f ≡ holds_next m.rows h.next f)
      (next_same h.next) p.fixed stay)
      (legs_of n.rows r) k.subnets)))
      ∙ ap (λ l. extra_way m.rows l h) k.legs

  extra : keyed_extra n r ≡ keyed_extra m r
  extra =
      λ j. rows_by_key (pair_order nat_lt addr_before) (λ h. extra_same h j)
      (map hop_key (with_numbers 0 r.routes))

  -- ---- default ones

  default_same : (f : Fixed) → Stays f
      → default_by (legs_of n.rows r) (subnet_with n.rows f.subnet)
      ≡ default_by (legs_of m.rows r) (subnet_with m.rows f.subnet)
  default_same f = go (subnet_with n.rows f.subnet) (subnet_with m.rows f.subnet) refl refl
    where
      go : (o p : Option SubnetRow) → subnet_with n.rows f.subnet ≡ o
          → subnet_with m.rows f.subnet ≡ p → SubnetStays o p
          → default_by (legs_of n.rows r) o ≡ default_by (legs_of m.rows r) p
      go None None e g h = refl
      go (Some s) (Some t) e g h =
          λ j. filter_map (λ (x : Addr).
          way_by (k.legs j) (same_id f.subnet s t e g j) (record { base = with_number x 0; len = 0 })
          Default (Some x))
          (elim (h.gateway j) [ None ↦ [] | Some x ↦ x ∷ [] ])
      go None (Some t) e g h = absurd h
      go (Some s) None e g h = absurd h

  gateway_same : (p : PortRow) → SubnetsStay n.rows m.rows p
      → flat_map (default_at n r) (fixed_by_address p)
      ≡ flat_map (default_at m r) (fixed_by_address p)
  gateway_same p stay =
      flat_same (default_at n r) (default_at m r) (ascending by_address p.fixed)
      (all_made Stays
      (λ (f : Fixed). default_at n r (f.address, f) ≡ default_at m r (f.address, f))
      (λ f h. ap (map (λ (w : Way). ((0, f.address), w))) (default_same f h))
      (ascending by_address p.fixed) (all_ascending Stays by_address p.fixed stay))

  defaults : default_from n r (gateway_port n.rows r) ≡ default_from m r (gateway_port m.rows r)
  defaults = go (gateway_port n.rows r) refl ∙ ap (default_from m r) k.gateway
    where
      go : (o : Option PortRow) → gateway_port n.rows r ≡ o
          → default_from n r o ≡ default_from m r o
      go None e = refl
      go (Some p) e =
          by (is_live n.rows p) refl
          ∙ ap (λ b. if b then flat_map (default_at m r) (fixed_by_address p) else []) (k.live p e)
        where
          by : (b : Bool) → is_live n.rows p ≡ b
              → (if b then flat_map (default_at n r) (fixed_by_address p) else [])
              ≡ (if b then flat_map (default_at m r) (fixed_by_address p) else [])
          by true live = gateway_same p (k.outer p e live)
          by false live = refl

  pub ways_kept : keyed_ways n r ≡ keyed_ways m r
  ways_kept = λ j. under {K = ℕ} 0 (connected j) ++ under {K = ℕ} 1 (extra j) ++ under {K = ℕ} 2 (defaults j)
