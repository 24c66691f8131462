-- The neighbours row of an address is its joined holder's.
use Rattle.std.proofs.Common.{◌≡◌, ℕ, nat_lt, List, [], ◌∷◌, ◌++◌, map, Bool, true, false, cond, not, Option, Some, None, refl, ap, sym, subst, ◌∙◌, arith}
use Rattle.std.specs.Prelude.{find, flat_map, option_and_then, option_map, ◌&&◌, ◌||◌, ◌==◌, if◌then◌else◌}
use Rattle.std.specs.List.{filter_map, list_any}
use Rattle.std.specs.Option.{option_or}
use Rattle.std.proofs.lemmas.Bool.{and_parts, and_from, eqb-true, eq-eqb, false_from_ne_true}
use Rattle.std.proofs.lemmas.Option.{same_Some}
use Rattle.std.proofs.lemmas.List.Folds.{find-append}
use Rattle.api_types.proofs.NameLemmas.{ident_same}
use Rattle.api_types.specs.RowsWith.{port_with, network_with}
use Rattle.plane_laws.proofs.ListLemmas.{find-passes, find-each, find-only, AtMostOne-less, find-filter_map, find-flat_map, find-ascending}
use Rattle.plane_laws.proofs.Located.{and_true, tag-apart}
use Rattle.net_addr.proofs.AddrLemmas.{addr_same, addr_itself, before_differs as addr_apart}
use Rattle.net_addr.specs.Ordered.{addr_before}
use Rattle.std.proofs.lemmas.Bool.Decides.{nat_tests}
use Rattle.net_addr.specs.Addresses.{addr_eq}
use Rattle.net_addr.specs.declared.address.Addr.{Addr}
use Rattle.net_addr.specs.declared.address.Addr.TheVariants.{V4}
use Rattle.api_types.specs.Consistent.Carried.{is_bound}
use Rattle.api_types.specs.Ident.{Ident}
use Rattle.api_types.specs.Lists.{stands}
use Rattle.api_types.specs.RowLists.{RowLists}
use Rattle.api_types.specs.Table.{ident_eq}
use Rattle.api_types.specs.declared.floating.FloatingRow.{FloatingRow}
use Rattle.api_types.specs.declared.port.Fixed.{Fixed}
use Rattle.api_types.specs.declared.port.PortRow.{PortRow}
use Rattle.api_types.specs.declared.router.Gateway.{Gateway}
use Rattle.api_types.specs.declared.router.RouterRow.{RouterRow}
use Rattle.api_types.specs.Holders.{floating_holder, floats_at, gateway_port, gateway_port_of, has_mac, held_by_floating, holder, holds, holds_live, live_on, port_at, target_router}
use Rattle.plane_types.specs.Hosts.{neighbour_before}
use Rattle.api_types.specs.Live.{is_joined, is_live, joined_with, network_up}
use Rattle.plane_types.specs.TableRows.{floating_neighbour, floating_neighbour_by, neighbour_rows, neighbours_by, neighbours_of, tag_of}
use Rattle.plane_types.specs.TableStep.{neighbour_at}
use Rattle.plane_types.specs.declared.table.NeighbourRow.{NeighbourRow}
use Rattle.plane_types.specs.declared.lists.TableLists.{TableLists}
use Rattle.plane_laws.proofs.Facts.{AtMostOne, FrameFacts, HostFacts, OwnPortStands, own_port_stands}

abbrev pub row_at : ℕ → Addr → PortRow → NeighbourRow
row_at tag x q = record { tag = tag; address = x; mac = q.mac }

abbrev pub at_key : ℕ → Addr → NeighbourRow → Bool
at_key tag x r = (r.tag == tag) && addr_eq r.address x

neighbours_hit : (q : PortRow) (other tag : ℕ) (x : Addr) (fs : List Fixed) → find (at_key tag x) (map (λ (f : Fixed). record { tag = other; address = f.address; mac = q.mac }) fs) ≡ cond ((other == tag) && list_any (λ (f : Fixed). addr_eq f.address x) fs) (Some (row_at tag x q)) None
neighbours_hit q other tag x [] = none (other == tag)
  where
    none : (b : Bool) → None ≡ cond (b && false) (Some (row_at tag x q)) None
    none true = refl
    none false = refl
neighbours_hit q other tag x (f ∷ fs) = go (other == tag) (addr_eq f.address x) refl refl (neighbours_hit q other tag x fs)
  where
    go : (a b : Bool) → (other == tag) ≡ a → addr_eq f.address x ≡ b → find (at_key tag x) (map (λ (f : Fixed). record { tag = other; address = f.address; mac = q.mac }) fs) ≡ cond ((other == tag) && list_any (λ (f : Fixed). addr_eq f.address x) fs) (Some (row_at tag x q)) None
        → cond (a && b) (Some (record { tag = other; address = f.address; mac = q.mac })) (find (at_key tag x) (map (λ (f : Fixed). record { tag = other; address = f.address; mac = q.mac }) fs)) ≡ cond (a && (b || list_any (λ (f : Fixed). addr_eq f.address x) fs)) (Some (row_at tag x q)) None
    go true true e k rest = ap (λ t. Some (record { tag = t; address = f.address; mac = q.mac })) (eqb-true other tag e) ∙ ap (λ y. Some (record { tag = tag; address = y; mac = q.mac })) (addr_same f.address x k)
    go true false e k rest = rest ∙ ap (λ b. cond (b && list_any (λ (f : Fixed). addr_eq f.address x) fs) (Some (row_at tag x q)) None) e
    go false b e k rest = rest ∙ ap (λ b. cond (b && list_any (λ (f : Fixed). addr_eq f.address x) fs) (Some (row_at tag x q)) None) e

not_before : (a b : ℕ) (x y : Addr) → (nat_lt a b || ((a == b) && addr_before x y)) ≡ true → a ≡ b → x ≡ y → ⊥
not_before a b x y h e f =
    let tags : nat_lt a b ≡ false = grind (arith, nat_tests) in
    let both : ((a == b) && addr_before x y) ≡ true = ap (λ c. c || ((a == b) && addr_before x y)) (sym tags) ∙ h in
    let apart : addr_eq x y ≡ false = addr_apart x y (and_parts (a == b) (addr_before x y) both).1 in
    let same : addr_eq x y ≡ true = ap (addr_eq x) (sym f) ∙ addr_itself x in
    let bad : true ≡ false = sym same ∙ apart in
    cc

neighbour_apart : (tag : ℕ) (x : Addr) (r s : NeighbourRow) → neighbour_before s r ≡ true → at_key tag x r ≡ true → at_key tag x s ≡ false
neighbour_apart tag x r s before here = false_from_ne_true (at_key tag x s) (λ there.
    let p = and_parts (r.tag == tag) (addr_eq r.address x) here in
    let q = and_parts (s.tag == tag) (addr_eq s.address x) there in
    not_before s.tag r.tag s.address r.address before (eqb-true s.tag tag q.0 ∙ sym (eqb-true r.tag tag p.0)) (addr_same s.address x q.1 ∙ sym (addr_same r.address x p.1)))

cond_same : {A : Type 0} (b : Bool) (y : A) → y ≡ cond b y y
cond_same true y = refl
cond_same false y = refl

and_false : (b : Bool) → false ≡ (b && false)
and_false true = refl
and_false false = refl

-- an address that a live port holds is no floating address of the network
pub held-apart : (rows : RowLists) → FrameFacts rows → (n : Ident) (x : Addr) (q : PortRow) → find (holds_live rows n x) rows.ports ≡ Some q → held_by_floating rows n x ≡ None
unfolding is_live
held-apart rows good n x q found = go (find (floats_at n x) rows.floatings) refl
  where
    by : (f : FloatingRow) → floats_at n x f ≡ true → (o : Option PortRow) → port_with rows f.own_port ≡ o → own_port_stands f o ≡ true → option_and_then (floating_holder rows) (Some f) ≡ None
    by f at None e stands = cc
    by f at (Some p) e stands =
        let own = and_parts (ident_eq f.network p.network && holds p (V4 f.address)) (not (is_bound p.vif)) stands in
        let place = and_parts (ident_eq n f.network) (addr_eq (V4 f.address) x) at in
        let here : (ident_eq n p.network && holds p x) ≡ true =
        ap (λ i. ident_eq i p.network && holds p x) (ident_same n f.network place.0) ∙ ap (λ y. ident_eq f.network p.network && holds p y) (sym (addr_same (V4 f.address) x place.1)) ∙ own.0 in
        let pass = and_parts (ident_eq n q.network && holds q x) (is_live rows q) (find-passes (holds_live rows n x) rows.ports q found) in
        let mine = find-only (λ (z : PortRow). ident_eq f.own_port z.id) (λ (z : PortRow). ident_eq n z.network && holds z x) rows.ports p (good.addresses n x) e here in
        let its = find-only (holds_live rows n x) (λ (z : PortRow). ident_eq n z.network && holds z x) rows.ports q (good.addresses n x) found pass.0 in
        let same : p ≡ q = same_Some p q (sym mine ∙ its) in
        let bound : is_bound q.vif ≡ true = (and_parts q.up (is_bound q.vif) (and_parts (q.up && is_bound q.vif) (network_up (network_with rows q.network)) pass.1).0).1 in
        let unbound : not (is_bound q.vif) ≡ true = ap (λ (z : PortRow). not (is_bound z.vif)) (sym same) ∙ own.1 in
        let bad : false ≡ true = sym (ap not bound) ∙ unbound in
        cc

    go : (o : Option FloatingRow) → find (floats_at n x) rows.floatings ≡ o → option_and_then (floating_holder rows) o ≡ None
    go None e = refl
    go (Some f) e = by f (find-passes (floats_at n x) rows.floatings f e) (port_with rows f.own_port) refl (find-each (OwnPortStands rows) (floats_at n x) rows.floatings f good.own_ports e)

module _ (rows : RowLists) (host : List ℕ) (t : TableLists) (real : HostFacts rows host t) (good : FrameFacts rows) (n : Ident) (tag : ℕ) (tagged : tag_of t.tags n ≡ Some tag) (x : Addr) where
  of-port : (q : PortRow) → find (at_key tag x) (neighbours_of rows host t.tags q) ≡ cond (holds_live rows n x q) (option_map (row_at tag x) (joined_with rows host (Some q))) None
  of-port q = go (is_live rows q) (is_joined rows q host) (tag_of t.tags q.network) (ident_eq n q.network) refl refl
    where
      go : (live joined : Bool) (o : Option ℕ) (i : Bool) → tag_of t.tags q.network ≡ o → ident_eq n q.network ≡ i → find (at_key tag x) (if live && joined then neighbours_by q o else []) ≡ cond ((i && holds q x) && live) (option_map (row_at tag x) (if joined then Some q else None)) None
      go false joined o i e k = ap (λ b. cond b (option_map (row_at tag x) (if joined then Some q else None)) None) (and_false (i && holds q x))
      go true false o i e k = cond_same ((i && holds q x) && true) None
      go true true None false e k = refl
      go true true None true e k = let bad : Some tag ≡ None = sym tagged ∙ ap (tag_of t.tags) (ident_same n q.network k) ∙ e in cc
      go true true (Some other) i e k =
          neighbours_hit q other tag x q.fixed
          ∙ ap (λ b. cond (b && holds q x) (Some (row_at tag x q)) None) (tag-apart rows host t.tags real.tags n q.network tag other tagged e ∙ k)
          ∙ ap (λ b. cond b (Some (row_at tag x q)) None) (sym (and_true (i && holds q x)))

  one-holder : AtMostOne (holds_live rows n x) rows.ports
  one-holder = AtMostOne-less (λ (p : PortRow). ident_eq n p.network && holds p x) (holds_live rows n x) rows.ports (λ q e. (and_parts (ident_eq n q.network && holds q x) (is_live rows q) e).0) (good.addresses n x)

  of-ports : find (at_key tag x) (flat_map (neighbours_of rows host t.tags) rows.ports) ≡ option_map (row_at tag x) (joined_with rows host (find (holds_live rows n x) rows.ports))
  of-ports = find-flat_map (holds_live rows n x) (at_key tag x) (neighbours_of rows host t.tags) rows.ports (λ q miss. of-port q ∙ ap (λ b. cond b (option_map (row_at tag x) (joined_with rows host (Some q))) None) miss) one-holder
      ∙ go (find (holds_live rows n x) rows.ports) refl
    where
      go : (o : Option PortRow) → find (holds_live rows n x) rows.ports ≡ o → option_and_then (λ q. find (at_key tag x) (neighbours_of rows host t.tags q)) o ≡ option_map (row_at tag x) (joined_with rows host o)
      go None e = refl
      go (Some q) e = of-port q ∙ ap (λ b. cond b (option_map (row_at tag x) (joined_with rows host (Some q))) None) (find-passes (holds_live rows n x) rows.ports q e)

  floating_hit : (f : FloatingRow) (r : NeighbourRow) → floating_neighbour rows host t.tags f ≡ Some r → at_key tag x r ≡ floats_at n x f
  floating_hit f r h = go (floating_holder rows f) h
    where
      by : (q : PortRow) (b : Bool) (o : Option ℕ) → tag_of t.tags f.network ≡ o → (if b then option_map (λ tag. record { tag = tag; address = V4 f.address; mac = q.mac }) o else None) ≡ Some r → at_key tag x r ≡ floats_at n x f
      by q false o e h = cc
      by q true None e h = cc
      by q true (Some other) e h =
          let is : record { tag = other; address = V4 f.address; mac = q.mac } ≡ r = cc in
          subst (λ (s : NeighbourRow). at_key tag x s ≡ floats_at n x f) is (ap (λ b. b && addr_eq (V4 f.address) x) (tag-apart rows host t.tags real.tags n f.network tag other tagged e))

      go : (o : Option PortRow) → floating_neighbour_by rows host t.tags f o ≡ Some r → at_key tag x r ≡ floats_at n x f
      go None h = cc
      go (Some q) h = by q (is_joined rows q host) (tag_of t.tags f.network) refl h

  of-floatings : find (at_key tag x) (filter_map (floating_neighbour rows host t.tags) rows.floatings) ≡ option_map (row_at tag x) (joined_with rows host (held_by_floating rows n x))
  of-floatings = find-filter_map (floats_at n x) (at_key tag x) (floating_neighbour rows host t.tags) rows.floatings floating_hit (good.floating_addresses n x) ∙ go (find (floats_at n x) rows.floatings) refl
    where
      by : (f : FloatingRow) → floats_at n x f ≡ true → (o : Option PortRow) → floating_neighbour_by rows host t.tags f o ≡ option_map (row_at tag x) (joined_with rows host o)
      by f e None = refl
      by f e (Some q) = joined (is_joined rows q host)
        where
          joined : (b : Bool) → (if b then option_map (λ tag. record { tag = tag; address = V4 f.address; mac = q.mac }) (tag_of t.tags f.network) else None) ≡ option_map (row_at tag x) (if b then Some q else None)
          joined false = refl
          joined true =
              let p = and_parts (ident_eq n f.network) (addr_eq (V4 f.address) x) e in
              ap (option_map (λ tag. record { tag = tag; address = V4 f.address; mac = q.mac })) (ap (tag_of t.tags) (sym (ident_same n f.network p.0)) ∙ tagged) ∙ ap (λ y. Some (record { tag = tag; address = y; mac = q.mac })) (addr_same (V4 f.address) x p.1)

      go : (o : Option FloatingRow) → find (floats_at n x) rows.floatings ≡ o → option_and_then (floating_neighbour rows host t.tags) o ≡ option_map (row_at tag x) (joined_with rows host (option_and_then (floating_holder rows) o))
      go None e = refl
      go (Some f) e = by f (find-passes (floats_at n x) rows.floatings f e) (floating_holder rows f)

  pub neighbour-located : neighbour_at t tag x ≡ option_map (row_at tag x) (joined_with rows host (holder rows n x))
  unfolding neighbour_rows
  neighbour-located =
      ap (find (at_key tag x)) real.neighbours
      ∙ find-ascending neighbour_before (at_key tag x) (flat_map (neighbours_of rows host t.tags) rows.ports ++ filter_map (floating_neighbour rows host t.tags) rows.floatings) (neighbour_apart tag x)
      ∙ find-append (at_key tag x) (flat_map (neighbours_of rows host t.tags) rows.ports) (filter_map (floating_neighbour rows host t.tags) rows.floatings)
      ∙ ap (λ o. option_or o (find (at_key tag x) (filter_map (floating_neighbour rows host t.tags) rows.floatings))) of-ports
      ∙ ap (option_or (option_map (row_at tag x) (joined_with rows host (find (holds_live rows n x) rows.ports)))) of-floatings
      ∙ go (find (holds_live rows n x) rows.ports) refl
    where
      none : (q : PortRow) (b : Bool) → option_or (option_map (row_at tag x) (if b then Some q else None)) None ≡ option_map (row_at tag x) (if b then Some q else None)
      none q true = refl
      none q false = refl

      go : (o : Option PortRow) → find (holds_live rows n x) rows.ports ≡ o → option_or (option_map (row_at tag x) (joined_with rows host o)) (option_map (row_at tag x) (joined_with rows host (held_by_floating rows n x))) ≡ option_map (row_at tag x) (joined_with rows host (option_or o (held_by_floating rows n x)))
      go None e = refl
      go (Some q) e = ap (λ h. option_or (option_map (row_at tag x) (joined_with rows host (Some q))) (option_map (row_at tag x) (joined_with rows host h))) (held-apart rows good n x q e) ∙ none q (is_joined rows q host)

-- the holder of an address is the port with its MAC
pub holder-at : (rows : RowLists) → FrameFacts rows → (n : Ident) (x : Addr) (q : PortRow) → holder rows n x ≡ Some q → port_at rows n q.mac ≡ Some q
unfolding floating_holder
holder-at rows good n x q h = go (find (holds_live rows n x) rows.ports) refl h
  where
    one : AtMostOne (has_mac rows n q.mac) rows.ports
    one = AtMostOne-less (λ (p : PortRow). ident_eq n p.network && (p.mac == q.mac)) (has_mac rows n q.mac) rows.ports (λ p e. (and_parts (ident_eq n p.network && (p.mac == q.mac)) (is_live rows p) e).0) (good.macs n q.mac)

    found : (test : PortRow → Bool) → find test rows.ports ≡ Some q → ident_eq n q.network ≡ true → is_live rows q ≡ true → port_at rows n q.mac ≡ Some q
    found test e net live = find-only test (has_mac rows n q.mac) rows.ports q one e (and_from (ident_eq n q.network && (q.mac == q.mac)) (is_live rows q) (and_from (ident_eq n q.network) (q.mac == q.mac) net (eq-eqb q.mac q.mac refl)) live)

    live_by : (f : FloatingRow) → ident_eq n f.network ≡ true → (test : PortRow → Bool) (p : PortRow) → find test rows.ports ≡ Some p → live_on rows f.network (Some p) ≡ Some q → port_at rows n q.mac ≡ Some q
    live_by f net test p e k = by (ident_eq f.network p.network && is_live rows p) refl k
      where
        by : (b : Bool) → (ident_eq f.network p.network && is_live rows p) ≡ b → (if b then Some p else None) ≡ Some q → port_at rows n q.mac ≡ Some q
        by false l m = cc
        by true l m =
            let same : p ≡ q = cc in
            let parts = and_parts (ident_eq f.network p.network) (is_live rows p) l in
            found test (e ∙ ap Some same) (subst (λ i. ident_eq i q.network ≡ true) (sym (ident_same n f.network net)) (subst (λ (z : PortRow). ident_eq f.network z.network ≡ true) same parts.0)) (subst (λ (z : PortRow). is_live rows z ≡ true) same parts.1)

    by_port : (f : FloatingRow) → ident_eq n f.network ≡ true → (g : Option Gateway) → (o : Option PortRow) → gateway_port_of rows g ≡ o → live_on rows f.network o ≡ Some q → port_at rows n q.mac ≡ Some q
    by_port f net g None e k = cc
    by_port f net None (Some p) e k = cc
    by_port f net (Some g) (Some p) e k = live_by f net (λ (z : PortRow). ident_eq g.port z.id) p e k

    by_router : (f : FloatingRow) → ident_eq n f.network ≡ true → (o : Option RouterRow) → live_on rows f.network (option_and_then (gateway_port rows) o) ≡ Some q → port_at rows n q.mac ≡ Some q
    by_router f net None k = cc
    by_router f net (Some r) k = by_port f net r.gateway (gateway_port rows r) refl k

    by_floating : (o : Option FloatingRow) → find (floats_at n x) rows.floatings ≡ o → option_and_then (floating_holder rows) o ≡ Some q → port_at rows n q.mac ≡ Some q
    by_floating None e k = cc
    by_floating (Some f) e k = by_router f (and_parts (ident_eq n f.network) (addr_eq (V4 f.address) x) (find-passes (floats_at n x) rows.floatings f e)).0 (target_router rows f.target) k

    go : (o : Option PortRow) → find (holds_live rows n x) rows.ports ≡ o → option_or o (held_by_floating rows n x) ≡ Some q → port_at rows n q.mac ≡ Some q
    go None e k = by_floating (find (floats_at n x) rows.floatings) refl k
    go (Some p) e k =
        let same : p ≡ q = cc in
        let pass = find-passes (holds_live rows n x) rows.ports p e in
        let parts = and_parts (ident_eq n p.network && holds p x) (is_live rows p) pass in
        found (holds_live rows n x) (e ∙ ap Some same) (subst (λ (z : PortRow). ident_eq n z.network ≡ true) same (and_parts (ident_eq n p.network) (holds p x) parts.0).0) (subst (λ (z : PortRow). is_live rows z ≡ true) same parts.1)
