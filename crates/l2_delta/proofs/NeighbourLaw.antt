-- No two ports or floating addresses give neighbours with one key.
use Rattle.std.proofs.Common.{◌≡◌, ◌∙◌, ℕ, ◌≤◌, List, [], ◌∷◌, map, Option, Some, None, Bool, true, false, true≢false, cond, refl, sym, ap, subst, arith}
use Rattle.std.specs.Prelude.{◌&&◌, ◌||◌, if◌then◌else◌, find, is_some, nat_lt, option_and_then, option_map, sum_by, count_by}
use Rattle.std.specs.List.{list_any}
use Rattle.std.proofs.lemmas.Bool.{and_parts, and_from}
use Rattle.net_addr.proofs.AddrLemmas.{addr_itself}
use Rattle.net_addr.specs.Addresses.{addr_eq}
use Rattle.net_addr.specs.Ordered.{addr_before}
use Rattle.net_addr.specs.declared.address.Addr.{Addr}
use Rattle.net_addr.specs.declared.address.Addr.TheVariants.{V4}
use Rattle.api_types.proofs.NameLemmas.{ident_itself}
use Rattle.api_types.specs.Consistent.{IsConsistent}
use Rattle.api_types.specs.Consistent.HeldOnce.{holds_times}
use Rattle.api_types.specs.Holders.{floating_holder, floats_at, held_by_floating, holds, holds_live}
use Rattle.api_types.specs.Ident.{Ident}
use Rattle.api_types.specs.Live.{is_joined, is_live}
use Rattle.api_types.specs.RowLists.{RowLists}
use Rattle.api_types.specs.Table.{ident_eq}
use Rattle.api_types.specs.declared.floating.FloatingRow.{FloatingRow}
use Rattle.api_types.specs.declared.port.Fixed.{Fixed}
use Rattle.api_types.specs.declared.port.PortRow.{PortRow}
use Rattle.plane_laws.proofs.Counted.{once-counted}
use Rattle.plane_laws.proofs.Facts.{AtMostOne, FrameFacts}
use Rattle.plane_laws.proofs.FactsHold.{frame-facts}
use Rattle.plane_laws.proofs.ListLemmas.{AtMostOne-less}
use Rattle.plane_laws.proofs.Neighbours.{held-apart}
use Rattle.plane_types.specs.Keyed.{AreApart, IsTotal, Others, are_one, pair_order, row_at}
use Rattle.plane_types.specs.KeyedTables.{NeighbourKey, neighbour_key}
use Rattle.plane_types.specs.Realises.{RealisesTags}
use Rattle.plane_types.specs.TableRows.{floating_neighbour, floating_neighbour_by, neighbours_by, neighbours_of, tag_of}
use Rattle.plane_types.specs.declared.table.NeighbourRow.{NeighbourRow}
use Rattle.plane_types.specs.declared.table.TagRow.{TagRow}
use Rattle.plane_types.proofs.KeyedTablesLemmas.{unkeyed}
use Rattle.plane_types.proofs.NumberedLemmas.{number_order}
use Rattle.plane_types.proofs.PairLemmas.{pair_total}
use Rattle.plane_types.proofs.TagLemmas.{one-network}
use Rattle.table_edits.specs.KeyOrders.{addr_order}
use Rattle.l2_delta.proofs.MapLaw.{as_list}
use Rattle.l2_delta.proofs.NumberedSources.{GiveOwn, found_one, have_key, one_number, weighed}
use Rattle.l2_delta.proofs.SourceLaw.{one_is}

abbrev pub before : NeighbourKey → NeighbourKey → Bool
before = pair_order nat_lt addr_before

pub order : IsTotal (pair_order nat_lt addr_before)
order = pair_total nat_lt addr_before number_order addr_order

abbrev entry : ℕ → ℕ → Fixed → NeighbourRow
entry tag mac f = record { tag = tag; address = f.address; mac = mac }

abbrev held : ℕ → ℕ → Addr → NeighbourRow
held tag mac x = record { tag = tag; address = x; mac = mac }

-- ---- the keys of a port's entries

hits : (tag : ℕ) (x : Addr) (q : NeighbourKey) → are_one before q (tag, x) ≡ true → (tag ≡ q.0) × (addr_eq x q.1 ≡ true)
hits tag x q h =
    let same : q ≡ (tag, x) = one_is before order q (tag, x) h in (
      sym (ap (λ (k : NeighbourKey). k.0) same),
      subst (λ y. addr_eq x y ≡ true) (sym (ap (λ (k : NeighbourKey). k.1) same)) (addr_itself x),
    )

of_fixed : (tag mac : ℕ) (q : NeighbourKey) (fs : List Fixed) → have_key before neighbour_key q (map (entry tag mac) fs) → (tag ≡ q.0) × (list_any (λ (f : Fixed). addr_eq f.address q.1) fs ≡ true)
of_fixed tag mac q [] h = absurd (true≢false (sym h))
of_fixed tag mac q (f ∷ fs) h = go (are_one before q (tag, f.address)) refl h (of_fixed tag mac q fs)
  where
    go : (b : Bool) → are_one before q (tag, f.address) ≡ b → is_some (if b then Some (entry tag mac f) else row_at before q (map (λ (r : NeighbourRow). (neighbour_key r, r)) (map (entry tag mac) fs))) ≡ true
        → (have_key before neighbour_key q (map (entry tag mac) fs) → (tag ≡ q.0) × (list_any (λ (f : Fixed). addr_eq f.address q.1) fs ≡ true))
        → (tag ≡ q.0) × (addr_eq f.address q.1 || list_any (λ (f : Fixed). addr_eq f.address q.1) fs ≡ true)
    go true e h rest = let at = hits tag f.address q e in (at.0, ap (λ b. b || list_any (λ (f : Fixed). addr_eq f.address q.1) fs) at.1)
    go false e h rest = let at = rest h in (at.0, later (addr_eq f.address q.1) at.1)
      where
        later : (b : Bool) → list_any (λ (f : Fixed). addr_eq f.address q.1) fs ≡ true → b || list_any (λ (f : Fixed). addr_eq f.address q.1) fs ≡ true
        later true k = refl
        later false k = k

-- addresses that differ give keys that do
no_other : (tag mac : ℕ) (x : Addr) (fs : List Fixed) → find (λ (f : Fixed). addr_eq f.address x) fs ≡ None → Others before (tag, x) (map neighbour_key (map (entry tag mac) fs))
no_other tag mac x [] h = tt
no_other tag mac x (f ∷ fs) h = go (addr_eq f.address x) refl h (no_other tag mac x fs)
  where
    apart : (b : Bool) → are_one before (tag, f.address) (tag, x) ≡ b → addr_eq f.address x ≡ false → b ≡ false
    apart false e k = refl
    apart true e k =
        let same : f.address ≡ x = ap (λ (k : NeighbourKey). k.1) (one_is before order (tag, f.address) (tag, x) e) in
        absurd (true≢false (sym (subst (λ y. addr_eq f.address y ≡ true) same (addr_itself f.address)) ∙ k))

    go : (b : Bool) → addr_eq f.address x ≡ b → cond b (Some f) (find (λ (f : Fixed). addr_eq f.address x) fs) ≡ None
        → (find (λ (f : Fixed). addr_eq f.address x) fs ≡ None → Others before (tag, x) (map neighbour_key (map (entry tag mac) fs)))
        → Others before (tag, x) (map neighbour_key (map (entry tag mac) (f ∷ fs)))
    go true e h rest = let bad : Some f ≡ None = h in cc
    go false e h rest = (apart (are_one before (tag, f.address) (tag, x)) refl e, rest h)

fixed_apart : (tag mac : ℕ) (fs : List Fixed) → ((x : Addr) → AtMostOne (λ (f : Fixed). addr_eq f.address x) fs) → AreApart before (map neighbour_key (map (entry tag mac) fs))
fixed_apart tag mac [] one = tt
fixed_apart tag mac (f ∷ fs) one = (no_other tag mac f.address fs ((one f.address).0 (addr_itself f.address)), fixed_apart tag mac fs (λ x. (one x).1))

module _ (rows : RowLists) (host : List ℕ) (tags : List TagRow) where
  abbrev pub of_port : PortRow → List NeighbourRow
  of_port p = neighbours_of rows host tags p

  abbrev pub of_floating : FloatingRow → List NeighbourRow
  of_floating f = as_list (floating_neighbour rows host tags f)

  port_key : (p : PortRow) (q : NeighbourKey) → have_key before neighbour_key q (of_port p) → (is_live rows p ≡ true) × (tag_of tags p.network ≡ Some q.0) × (holds p q.1 ≡ true)
  port_key p q h = go (is_live rows p) (is_joined rows p host) (tag_of tags p.network) refl refl h
    where
      go : (live joined : Bool) (o : Option ℕ) → is_live rows p ≡ live → tag_of tags p.network ≡ o → have_key before neighbour_key q (if live && joined then neighbours_by p o else []) → (is_live rows p ≡ true) × (tag_of tags p.network ≡ Some q.0) × (holds p q.1 ≡ true)
      go false joined o e t h = absurd (true≢false (sym h))
      go true false o e t h = absurd (true≢false (sym h))
      go true true None e t h = absurd (true≢false (sym h))
      go true true (Some tag) e t h = let at = of_fixed tag p.mac q p.fixed h in (e, t ∙ ap Some at.0, at.1)

  floating_key : (f : FloatingRow) (q : NeighbourKey) → have_key before neighbour_key q (of_floating f) → (is_some (floating_holder rows f) ≡ true) × (tag_of tags f.network ≡ Some q.0) × (addr_eq (V4 f.address) q.1 ≡ true)
  floating_key f q h = go (floating_holder rows f) refl h
    where
      by : (p : PortRow) (joined : Bool) (o : Option ℕ) → tag_of tags f.network ≡ o
          → have_key before neighbour_key q (as_list (if joined then option_map (λ tag. record { tag = tag; address = V4 f.address; mac = p.mac }) o else None)) → (tag_of tags f.network ≡ Some q.0) × (addr_eq (V4 f.address) q.1 ≡ true)
      by p false o t h = absurd (true≢false (sym h))
      by p true None t h = absurd (true≢false (sym h))
      by p true (Some tag) t h = one (are_one before q (tag, V4 f.address)) refl h
        where
          one : (b : Bool) → are_one before q (tag, V4 f.address) ≡ b → is_some (if b then Some (held tag p.mac (V4 f.address)) else None) ≡ true → (tag_of tags f.network ≡ Some q.0) × (addr_eq (V4 f.address) q.1 ≡ true)
          one true e h = let at = hits tag (V4 f.address) q e in (t ∙ ap Some at.0, at.1)
          one false e h = absurd (true≢false (sym h))

      go : (o : Option PortRow) → floating_holder rows f ≡ o → have_key before neighbour_key q (as_list (floating_neighbour_by rows host tags f o)) → (is_some (floating_holder rows f) ≡ true) × (tag_of tags f.network ≡ Some q.0) × (addr_eq (V4 f.address) q.1 ≡ true)
      go None e h = absurd (true≢false (sym h))
      go (Some p) e h = let at = by p (is_joined rows p host) (tag_of tags f.network) refl h in (ap is_some e, at.0, at.1)

  module _ (good : IsConsistent rows) (real : RealisesTags rows host tags) (ps : List (ℕ × PortRow)) (fs : List (ℕ × FloatingRow)) (are_ports : unkeyed ps ≡ rows.ports) (are_floatings : unkeyed fs ≡ rows.floatings) where
    facts : FrameFacts rows
    facts = frame-facts rows good

    one_tagged : (n m : Ident) (q : NeighbourKey) → tag_of tags n ≡ Some q.0 → tag_of tags m ≡ Some q.0 → n ≡ m
    one_tagged n m q h k = one-network tags n m q.0 (real.differ q.0) h k

    abbrev holds_on : Ident → Addr → PortRow → Bool
    holds_on n x p = ident_eq n p.network && holds p x

    holders : (n : Ident) (x : Addr) → AtMostOne (holds_on n x) (unkeyed ps)
    holders n x = subst (AtMostOne (holds_on n x)) (sym are_ports) (facts.addresses n x)

    floaters : (n : Ident) (x : Addr) → AtMostOne (floats_at n x) (unkeyed fs)
    floaters n x = subst (AtMostOne (floats_at n x)) (sym are_floatings) (facts.floating_addresses n x)

    on_network : (n m : Ident) → m ≡ n → ident_eq n m ≡ true
    on_network n m e = subst (λ i. ident_eq n i ≡ true) (sym e) (ident_itself n)

    ports_apart : (k : ℕ) (p : PortRow) → row_at nat_lt k ps ≡ Some p → AreApart before (map neighbour_key (of_port p))
    ports_apart k p at = go (is_live rows p && is_joined rows p host) (tag_of tags p.network)
      where
        times : (x : Addr) (b : Bool) → ident_eq p.network p.network ≡ b → b ≡ true → cond b (count_by (λ (f : Fixed). addr_eq f.address x) p.fixed) 0 ≤ 1 → count_by (λ (f : Fixed). addr_eq f.address x) p.fixed ≤ 1
        times x true e k h = h
        times x false e k h = absurd (true≢false (sym k))

        weight : (x : Addr) → holds_times p.network x p ≤ 1
        weight x = le_trans (holds_times p.network x p) (sum_by (holds_times p.network x) (unkeyed ps)) (weighed (holds_times p.network x) k ps p at) (subst (λ ports. sum_by (holds_times p.network x) ports ≤ 1) (sym are_ports) (good.held_once.addresses p.network x))
          where
            le_trans : (a b : ℕ) → a ≤ b → b ≤ 1 → a ≤ 1
            le_trans a b h k = omega (arith, h, k)

        once : (x : Addr) → AtMostOne (λ (f : Fixed). addr_eq f.address x) p.fixed
        once x = once-counted (λ (f : Fixed). addr_eq f.address x) p.fixed (times x (ident_eq p.network p.network) refl (ident_itself p.network) (weight x))

        go : (b : Bool) (o : Option ℕ) → AreApart before (map neighbour_key (if b then neighbours_by p o else []))
        go false o = tt
        go true None = tt
        go true (Some tag) = fixed_apart tag p.mac p.fixed once

    floatings_apart : (f : FloatingRow) → AreApart before (map neighbour_key (of_floating f))
    floatings_apart f = go (floating_neighbour rows host tags f)
      where
        go : (o : Option NeighbourRow) → AreApart before (map neighbour_key (as_list o))
        go None = tt
        go (Some r) = (tt, tt)

    ports_once : (k n : ℕ) (x z : PortRow) (q : NeighbourKey) → row_at nat_lt k ps ≡ Some x → row_at nat_lt n ps ≡ Some z → have_key before neighbour_key q (of_port x) → have_key before neighbour_key q (of_port z) → k ≡ n
    ports_once k n x z q at there h i =
        let a = port_key x q h in
        let b = port_key z q i in
        one_number (holds_on x.network q.1) ps (holders x.network q.1) k n x z at there
        (and_from (ident_eq x.network x.network) (holds x q.1) (ident_itself x.network) a.2)
        (and_from (ident_eq x.network z.network) (holds z q.1) (on_network x.network z.network (one_tagged z.network x.network q b.1 a.1)) b.2)

    floatings_once : (k n : ℕ) (x z : FloatingRow) (q : NeighbourKey) → row_at nat_lt k fs ≡ Some x → row_at nat_lt n fs ≡ Some z → have_key before neighbour_key q (of_floating x) → have_key before neighbour_key q (of_floating z) → k ≡ n
    floatings_once k n x z q at there h i =
        let a = floating_key x q h in
        let b = floating_key z q i in
        one_number (floats_at x.network q.1) fs (floaters x.network q.1) k n x z at there
        (and_from (ident_eq x.network x.network) (addr_eq (V4 x.address) q.1) (ident_itself x.network) a.2)
        (and_from (ident_eq x.network z.network) (addr_eq (V4 z.address) q.1) (on_network x.network z.network (one_tagged z.network x.network q b.1 a.1)) b.2)

    -- a floating address's own port isn't live
    not_both : (k j : ℕ) (x : PortRow) (y : FloatingRow) (q : NeighbourKey) → row_at nat_lt k ps ≡ Some x → row_at nat_lt j fs ≡ Some y → have_key before neighbour_key q (of_port x) → have_key before neighbour_key q (of_floating y) → ⊥
    not_both k j x y q at there h i =
        let a = port_key x q h in
        let b = floating_key y q i in
        let on = and_from (ident_eq x.network x.network) (holds x q.1) (ident_itself x.network) a.2 in
        let holder : find (holds_live rows x.network q.1) rows.ports ≡ Some x =
        subst (λ ports. find (holds_live rows x.network q.1) ports ≡ Some x) are_ports
        (found_one (holds_live rows x.network q.1) ps (subst (AtMostOne (holds_live rows x.network q.1)) (sym are_ports) (live_once x.network q.1)) k x at (and_from (ident_eq x.network x.network && holds x q.1) (is_live rows x) on a.0)) in
        let floating : find (floats_at x.network q.1) rows.floatings ≡ Some y =
        subst (λ floatings. find (floats_at x.network q.1) floatings ≡ Some y) are_floatings
        (found_one (floats_at x.network q.1) fs (floaters x.network q.1) j y there
        (and_from (ident_eq x.network y.network) (addr_eq (V4 y.address) q.1) (on_network x.network y.network (one_tagged y.network x.network q b.1 a.1)) b.2)) in
        let none : held_by_floating rows x.network q.1 ≡ None = held-apart rows facts x.network q.1 x holder in
        let is : floating_holder rows y ≡ None = sym (ap (option_and_then (floating_holder rows)) floating) ∙ none in
        true≢false (sym b.0 ∙ ap is_some is)
      where
        live_once : (n : Ident) (x : Addr) → AtMostOne (holds_live rows n x) rows.ports
        live_once n x = AtMostOne-less (holds_on n x) (holds_live rows n x) rows.ports (λ p e. (and_parts (ident_eq n p.network && holds p x) (is_live rows p) e).0) (facts.addresses n x)

    pub neighbours_own : GiveOwn before order neighbour_key of_port of_floating ps fs
    neighbours_own = record {
      first_apart = ports_apart;
      second_apart = λ j f at. floatings_apart f;
      first_once = ports_once;
      second_once = floatings_once;
      not_both = not_both;
    }
