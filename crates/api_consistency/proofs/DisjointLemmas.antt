-- Stretches of prefixes that overlap meet, so where they are apart subnets are disjoint.
use Rattle.std.proofs.Common.{◌≡◌, ◌≤◌, ◌∙◌, ◌/◌, ◌%◌, ◌^◌, ℕ, zero, suc, List, [], ◌∷◌, true, false, cond, Some, map, refl, ap, sym, slice_get, arith, flat_map}
use Rattle.std.specs.Prelude.{◌==◌, ◌&&◌, ◌||◌, not, option_map}
use Rattle.std.specs.List.{IsDistinct, list_any, filter_map}
use Rattle.std.proofs.lemmas.Bool.Decides.{nat_tests, Decides-eqb}
use Rattle.net_addr.specs.Addresses.{number, same_version}
use Rattle.net_addr.specs.Prefixes.{Prefix, IsPrefix, bits_behind, contains, overlaps, last_number, last_address}
use Rattle.net_addr.specs.declared.address.Addr.{Addr}
use Rattle.net_addr.specs.declared.address.Addr.TheVariants.{V4, V6}
use Rattle.net_addr.proofs.PrefixLemmas.{first_least, last_greatest, number_kept, version_turned}
use Rattle.api_types.specs.Ident.{Ident, IsDrawable, ident_text}
use Rattle.api_types.specs.Table.{ident_eq, row_of, HaveOwnIds}
use Rattle.api_types.specs.Lists.{Each, Pass}
use Rattle.api_types.specs.RowLists.{RowLists}
use Rattle.api_types.specs.Owners.{is_router_port, is_port_of, device_is, holds_in}
use Rattle.api_types.specs.Consistent.Numbered.{AreNumbered, is_drawn}
use Rattle.api_types.specs.Consistent.Disjoint.{subnets_clash, share_router, reach_alike, ports_clash}
use Rattle.api_types.specs.declared.subnet.SubnetRow.{SubnetRow}
use Rattle.api_types.specs.declared.port.PortRow.{PortRow}
use Rattle.api_types.specs.declared.port.Fixed.{Fixed}
use Rattle.api_types.specs.declared.router.RouterRow.{RouterRow}
use Rattle.api_types.proofs.ListLemmas.{and_both, both_and, any-at, any-none, false_true, none_some, some_equal}
use Rattle.api_types.proofs.TableLemmas.{ident_eq-sym}
use Rattle.api_types.proofs.NameLemmas.{by_test, bytes_same, ident_itself, ident_same, not_true}
use Rattle.row_laws.proofs.PlaceLemmas.{drawable}
use Rattle.api_consistency.specs.Stretches.{meet, clash}
use Rattle.api_consistency.specs.Numbers.{id_number, mixed, version_group}
use Rattle.api_consistency.specs.Keys.{of_prefix, of_subnet, leg_of, legs_of}
use Rattle.api_consistency.specs.declared.stretch.Stretch.{Stretch}
use Rattle.api_consistency.proofs.StretchLemmas.{clash-flips}
use Rattle.api_consistency.proofs.PlaceLemmas.{apart_at, map_at, in_flat, in_some}

equal : (a b : ℕ) → (a == b) ≡ true → a ≡ b
equal a b h = (Decides-eqb a b).0 h

-- ids that were drawn have numbers of their own
one_id : (i j : Ident) → IsDrawable i → IsDrawable j → id_number i ≡ id_number j → i ≡ j
one_id i j hi hj e =
    let o : i.ordinal ≡ j.ordinal = omega (arith, hi.last_count, hj.last_count, e) in
    let c : i.count ≡ j.count = omega (arith, hi.last_count, hj.last_count, e) in
    λ k. record { ordinal = o k; count = c k }

others_differ : (i j : Ident) → IsDrawable i → IsDrawable j → not (ident_eq i j) ≡ true → not (id_number i == id_number j) ≡ true
others_differ i j hi hj differ = by_test (id_number i == id_number j) (not (id_number i == id_number j) ≡ true)
    (λ is. false_true _ (sym (not_true (ident_eq i j) differ) ∙ (ap (ident_eq i) (sym (one_id i j hi hj (equal (id_number i) (id_number j) is))) ∙ ident_itself i)))
    (λ fails. ap not fails)

-- what a prefix contains is from its first to its last address
inside : (p : Prefix) (x : Addr) → IsPrefix p → contains p x ≡ true → (same_version p.base x ≡ true) × (number p.base ≤ number x) × (number x ≤ last_number p)
unfolding contains last_number
inside p x h c =
    let parts = and_both (same_version p.base x) ((number x / 2 ^ bits_behind p) == (number p.base / 2 ^ bits_behind p)) c in
    let q : number x / 2 ^ bits_behind p ≡ number p.base / 2 ^ bits_behind p = equal (number x / 2 ^ bits_behind p) (number p.base / 2 ^ bits_behind p) parts.1 in
    (parts.0, first_least (number p.base) (bits_behind p) (number x) h.1 q, last_greatest (number p.base) (bits_behind p) (number x) h.1 q)

last_is : (p : Prefix) → number (last_address p) ≡ last_number p
unfolding last_address
last_is p = number_kept p.base (last_number p)

not_below : (p : Prefix) → number p.base ≤ last_number p
unfolding last_number
not_below p = omega arith

same_group : (g : ℕ) (x y : Addr) → same_version x y ≡ true → version_group g x ≡ version_group g y
same_group g (V4 m) (V4 n) h = refl
same_group g (V6 m) (V6 n) h = refl
same_group g (V4 m) (V6 n) h = cc
same_group g (V6 m) (V4 n) h = cc

meet_from : (a b : Stretch) → a.group ≡ b.group → a.first ≤ b.last → b.first ≤ a.last → meet a b ≡ true
meet_from a b g f l = grind (arith, nat_tests, g, f, l)

overlap_meets : (g : ℕ) (p q : Prefix) (i j : Ident) → IsPrefix p → IsPrefix q → overlaps p q ≡ true → meet (of_prefix g p i) (of_prefix g q j) ≡ true
unfolding overlaps
overlap_meets g p q i j hp hq over = by_test (contains p q.base) (meet (of_prefix g p i) (of_prefix g q j) ≡ true)
    (λ is. let x = inside p q.base hp is in
    meet_from (of_prefix g p i) (of_prefix g q j) (same_group g p.base q.base x.0)
    (omega (arith, x.1, not_below q, last_is q)) (omega (arith, x.2, last_is p)))
    (λ fails. let x = inside q p.base hq (ap (λ b. b || contains q p.base) (sym fails) ∙ over) in
    meet_from (of_prefix g p i) (of_prefix g q j) (same_group g p.base q.base (version_turned q.base p.base x.0))
    (omega (arith, x.2, last_is q)) (omega (arith, x.1, not_below p, last_is p)))

-- two ports that one id is printed in
one_text : (p q : PortRow) (r : RouterRow) → device_is p.device r.id ≡ true → device_is q.device r.id ≡ true → p.device ≡ q.device
unfolding device_is
one_text p q r hp hq = bytes_same p.device (ident_text r.id) hp ∙ sym (bytes_same q.device (ident_text r.id) hq)

-- a stretch doesn't clash with itself
clash-itself : (a b : Stretch) → a.holder ≡ b.holder → clash a b ≡ false
clash-itself a b e = grind (arith, nat_tests, e)

module _ (rows : RowLists) (numbered : AreNumbered rows) (prefixes : Each (λ (s : SubnetRow). IsPrefix s.prefix) rows.subnets) where
  is_id : (i : Ident) → is_drawn rows.projects i ≡ true → IsDrawable i
  is_id i h = drawable rows.projects numbered.projects i h

  pub subnets_apart : IsDistinct clash (map of_subnet rows.subnets) → Pass (λ s. not (list_any (subnets_clash s) rows.subnets)) rows.subnets
  subnets_apart h k s at = ap not (any-none (subnets_clash s) rows.subnets each)
    where
      clash_by : (l : ℕ) (t : SubnetRow) → slice_get rows.subnets l ≡ Some t → subnets_clash s t ≡ true → clash (of_subnet s) (of_subnet t) ≡ true
      clash_by l t at_t is =
          let a = and_both (not (ident_eq s.id t.id)) (ident_eq s.network t.network && overlaps s.prefix t.prefix) is in
          let b = and_both (ident_eq s.network t.network) (overlaps s.prefix t.prefix) a.1 in
          let n : s.network ≡ t.network = ident_same s.network t.network b.0 in
          let m : meet (of_subnet s) (of_subnet t) ≡ true =
          ap (λ (i : Ident). meet (of_subnet s) (of_prefix (id_number i) t.prefix t.id)) (sym n)
          ∙ overlap_meets (id_number s.network) s.prefix t.prefix s.id t.id (prefixes k s at) (prefixes l t at_t) b.1 in
          both_and (meet (of_subnet s) (of_subnet t)) (not (id_number s.id == id_number t.id)) m
          (others_differ s.id t.id (is_id s.id (numbered.drawn.subnets k s at)) (is_id t.id (numbered.drawn.subnets l t at_t)) a.0)

      none : (l : ℕ) (t : SubnetRow) → slice_get rows.subnets l ≡ Some t → clash (of_subnet s) (of_subnet t) ≡ false
      none l t at_t = apart_at clash clash-flips (map of_subnet rows.subnets) h k l (of_subnet s) (of_subnet t) (map_at of_subnet rows.subnets k s at) (map_at of_subnet rows.subnets l t at_t)
          (λ e. clash-itself (of_subnet s) (of_subnet t) (ap (λ (u : SubnetRow). id_number u.id) (some_equal s t (sym at ∙ (ap (slice_get rows.subnets) e ∙ at_t)))))

      each : Each (λ t. subnets_clash s t ≡ false) rows.subnets
      each l t at_t = by_test (subnets_clash s t) (subnets_clash s t ≡ false)
          (λ is. false_true _ (sym (none l t at_t) ∙ clash_by l t at_t is))
          (λ fails. fails)

  -- a row that is there is found by its id
  found_at : (xs : List SubnetRow) → HaveOwnIds (λ (s : SubnetRow). s.id) xs → (k : ℕ) (s : SubnetRow) → slice_get xs k ≡ Some s → row_of (λ (s : SubnetRow). s.id) s.id xs ≡ Some s
  unfolding IsDistinct
  found_at [] own k s at = none_some s _ at
  found_at (a ∷ xs) own zero s at =
      ap (λ b. cond b (Some a) (row_of (λ (s : SubnetRow). s.id) s.id xs)) (ap (ident_eq s.id) (ap (λ (u : SubnetRow). u.id) (some_equal a s at)) ∙ ident_itself s.id) ∙ at
  found_at (a ∷ xs) own (suc k) s at =
      ap (λ b. cond b (Some a) (row_of (λ (s : SubnetRow). s.id) s.id xs)) (other k at) ∙ found_at xs own.1 k s at
    where
      other : (k : ℕ) → slice_get xs k ≡ Some s → ident_eq s.id a.id ≡ false
      other k at = apart_at ident_eq ident_eq-sym (map (λ (s : SubnetRow). s.id) (a ∷ xs)) own (suc k) 0 s.id a.id (map_at (λ (s : SubnetRow). s.id) xs k s at) refl
          (λ e. absurd (omega (arith, e)))

  module _ (own : HaveOwnIds (λ (s : SubnetRow). s.id) rows.subnets) (h : IsDistinct clash (flat_map (legs_of rows.subnets) rows.ports)) where
    -- where a router's port holds an address in a subnet, the subnet is among what is reached
    reached : (k : ℕ) (p : PortRow) → slice_get rows.ports k ≡ Some p → is_router_port p.owner ≡ true → (l : ℕ) (s : SubnetRow) → slice_get rows.subnets l ≡ Some s → holds_in s.id p ≡ true
        → (j : ℕ) × (slice_get (flat_map (legs_of rows.subnets) rows.ports) j ≡ Some (of_prefix (mixed 0 p.device % 2 ^ 96) s.prefix p.id))
    reached k p at router l s at_s holds =
        let f = any-at (λ (f : Fixed). ident_eq s.id f.subnet) p.fixed holds in
        let id : s.id ≡ f.1.subnet = ident_same s.id f.1.subnet f.3 in
        let found : row_of (λ (s : SubnetRow). s.id) f.1.subnet rows.subnets ≡ Some s = ap (λ i. row_of (λ (s : SubnetRow). s.id) i rows.subnets) (sym id) ∙ found_at rows.subnets own l s at_s in
        let leg : leg_of rows.subnets p f.1 ≡ Some (of_prefix (mixed 0 p.device % 2 ^ 96) s.prefix p.id) =
        ap (option_map (λ (s : SubnetRow). of_prefix (mixed 0 p.device % 2 ^ 96) s.prefix p.id)) found in
        let within = in_some (leg_of rows.subnets p) p.fixed f.0 f.1 f.2 (of_prefix (mixed 0 p.device % 2 ^ 96) s.prefix p.id) leg in
        let kept : legs_of rows.subnets p ≡ filter_map (leg_of rows.subnets p) p.fixed = ap (λ b. cond b (filter_map (leg_of rows.subnets p) p.fixed) []) router in
        in_flat (legs_of rows.subnets) rows.ports k p at within.0 (of_prefix (mixed 0 p.device % 2 ^ 96) s.prefix p.id)
        (ap (λ ys. slice_get ys within.0) kept ∙ within.1)

    pub ports_apart : Pass (λ p. not (list_any (ports_clash rows.routers rows.subnets p) rows.ports)) rows.ports
    ports_apart k p at = ap not (any-none (ports_clash rows.routers rows.subnets p) rows.ports each)
      where
        no_clash : (l : ℕ) (q : PortRow) → slice_get rows.ports l ≡ Some q → ports_clash rows.routers rows.subnets p q ≡ true → true ≡ false
        no_clash l q at_q is =
            let a = and_both (not (ident_eq p.id q.id)) (share_router rows.routers p q && reach_alike rows.subnets p q) is in
            let b = and_both (share_router rows.routers p q) (reach_alike rows.subnets p q) a.1 in
            let r = any-at (λ (r : RouterRow). is_port_of r p && is_port_of r q) rows.routers b.0 in
            let of_r = and_both (is_port_of r.1 p) (is_port_of r.1 q) r.3 in
            let p_of = and_both (is_router_port p.owner) (device_is p.device r.1.id) of_r.0 in
            let q_of = and_both (is_router_port q.owner) (device_is q.device r.1.id) of_r.1 in
            let device : p.device ≡ q.device = one_text p q r.1 p_of.1 q_of.1 in
            let s = any-at (λ (s : SubnetRow). holds_in s.id p && list_any (λ (t : SubnetRow). holds_in t.id q && overlaps s.prefix t.prefix) rows.subnets) rows.subnets b.1 in
            let s_of = and_both (holds_in s.1.id p) (list_any (λ (t : SubnetRow). holds_in t.id q && overlaps s.1.prefix t.prefix) rows.subnets) s.3 in
            let t = any-at (λ (t : SubnetRow). holds_in t.id q && overlaps s.1.prefix t.prefix) rows.subnets s_of.1 in
            let t_of = and_both (holds_in t.1.id q) (overlaps s.1.prefix t.1.prefix) t.3 in
            let g = mixed 0 p.device % 2 ^ 96 in
            let x = of_prefix (mixed 0 p.device % 2 ^ 96) s.1.prefix p.id in
            let y = of_prefix (mixed 0 q.device % 2 ^ 96) t.1.prefix q.id in
            let in_p = reached k p at p_of.0 s.0 s.1 s.2 s_of.0 in
            let in_q = reached l q at_q q_of.0 t.0 t.1 t.2 t_of.0 in
            let m : meet x y ≡ true =
            ap (λ (d : List ℕ). meet x (of_prefix (mixed 0 d % 2 ^ 96) t.1.prefix q.id)) (sym device)
            ∙ overlap_meets g s.1.prefix t.1.prefix p.id q.id (prefixes s.0 s.1 s.2) (prefixes t.0 t.1 t.2) t_of.1 in
            let differ = others_differ p.id q.id (is_id p.id (numbered.drawn.ports k p at)) (is_id q.id (numbered.drawn.ports l q at_q)) a.0 in
            let clashes : clash x y ≡ true = both_and (meet x y) (not (id_number p.id == id_number q.id)) m differ in
            let none : clash x y ≡ false = apart_at clash clash-flips (flat_map (legs_of rows.subnets) rows.ports) h in_p.0 in_q.0 x y in_p.1 in_q.1
            (λ e. clash-itself x y (ap (λ (z : Stretch). z.holder) (some_equal x y (sym in_p.1 ∙ (ap (slice_get (flat_map (legs_of rows.subnets) rows.ports)) e ∙ in_q.1))))) in
            sym clashes ∙ none

        each : Each (λ q. ports_clash rows.routers rows.subnets p q ≡ false) rows.ports
        each l q at_q = by_test (ports_clash rows.routers rows.subnets p q) (ports_clash rows.routers rows.subnets p q ≡ false)
            (λ is. false_true _ (sym (no_clash l q at_q is)))
            (λ fails. fails)
