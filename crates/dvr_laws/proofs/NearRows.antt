-- The near row of an address is that of its holder.
use Rattle.api_types.proofs.NameLemmas.{ident_same}
use Rattle.api_types.specs.Holders.{floating_holder, floats_at, gateway_port, held_by_floating, holder, holds, holds_live, live_on, target_router}
use Rattle.api_types.specs.Ident.{Ident}
use Rattle.api_types.specs.Live.{is_live, segment}
use Rattle.api_types.specs.RowLists.{RowLists}
use Rattle.api_types.specs.Table.{ident_eq}
use Rattle.api_types.specs.declared.floating.FloatingRow.{FloatingRow}
use Rattle.api_types.specs.declared.port.Fixed.{Fixed}
use Rattle.api_types.specs.declared.port.PortRow.{PortRow}
use Rattle.dvr_types.specs.Copies.{is_near_network, near_floating, near_row, near_row_by, near_rows, near_rows_of, near_target, vxlan_number}
use Rattle.dvr_types.specs.declared.copies.NearRow.{NearRow}
use Rattle.net_addr.proofs.AddrLemmas.{addr_same}
use Rattle.net_addr.specs.Addresses.{addr_eq}
use Rattle.net_addr.specs.declared.address.Addr.{Addr}
use Rattle.net_addr.specs.declared.address.Addr.TheVariants.{V4}
use Rattle.plane_laws.proofs.Facts.{AtMostOne, FrameFacts}
use Rattle.plane_laws.proofs.Neighbours.{held-apart}
use Rattle.plane_laws.proofs.ListLemmas.{AtMostOne-less, find-filter_map, find-flat_map, find-passes, option_or-none}
use Rattle.std.proofs.Common.{Bool, List, None, Option, Some, [], ap, cond, false, refl, subst, sym, true, ℕ, ◌∙◌, ◌∷◌, ◌≡◌}
use Rattle.std.proofs.lemmas.Bool.{and_parts}
use Rattle.std.proofs.lemmas.List.Folds.{find-append}
use Rattle.std.specs.List.{cons_option, filter_map, list_any}
use Rattle.std.specs.Option.{option_or}
use Rattle.std.specs.Prelude.{find, flat_map, if◌then◌else◌, option_and_then, ◌&&◌, ◌||◌}

abbrev pub at_address : Ident → Addr → NearRow → Bool
at_address n x r = ident_eq n r.network && addr_eq r.address x

cond_same : {A : Type 0} (b : Bool) (y : A) → y ≡ cond b y y
cond_same true y = refl
cond_same false y = refl

module _ (rows : RowLists) (good : FrameFacts rows) (host : List ℕ) (n : Ident) (x : Addr) where
  -- what the row of an address has
  row-is : (q : PortRow) (y : Addr) (r : NearRow) → near_row rows host y q ≡ Some r → at_address n x r ≡ (ident_eq n q.network && addr_eq y x)
  row-is q y r h = go (is_near_network rows q.network) h
    where
      by : (o : Option ℕ) → near_row_by rows host q y o ≡ Some r → at_address n x r ≡ (ident_eq n q.network && addr_eq y x)
      by None k = cc
      by (Some m) k = let is : record { network = q.network; address = y; mac = q.mac; to = near_target rows host q m } ≡ r = cc in subst (λ z. at_address n x z ≡ (ident_eq n q.network && addr_eq y x)) is refl

      go : (b : Bool) → (if b then near_row_by rows host q y (vxlan_number (segment rows q.network)) else None) ≡ Some r → at_address n x r ≡ (ident_eq n q.network && addr_eq y x)
      go false k = cc
      go true k = by (vxlan_number (segment rows q.network)) k

  -- among a port's addresses
  of-fixed : (q : PortRow) (fs : List Fixed) → find (at_address n x) (filter_map (λ (f : Fixed). near_row rows host f.address q) fs) ≡ cond (ident_eq n q.network && list_any (λ (f : Fixed). addr_eq f.address x) fs) (near_row rows host x q) None
  of-fixed q [] = nothing (ident_eq n q.network)
    where
      nothing : (b : Bool) → None ≡ cond (b && false) (near_row rows host x q) None
      nothing true = refl
      nothing false = refl
  of-fixed q (f ∷ fs) = go (near_row rows host f.address q) (ident_eq n q.network) (addr_eq f.address x) refl refl refl (of-fixed q fs)
    where
      rest : Option NearRow
      rest = find (at_address n x) (filter_map (λ (f : Fixed). near_row rows host f.address q) fs)

      -- a port without a row for one address has none for any
      without : (y z : Addr) → near_row rows host y q ≡ None → near_row rows host z q ≡ None
      without y z h = joint (is_near_network rows q.network) h
        where
          by : (o : Option ℕ) → near_row_by rows host q y o ≡ None → near_row_by rows host q z o ≡ None
          by None k = refl
          by (Some m) k = cc

          joint : (b : Bool) → (if b then near_row_by rows host q y (vxlan_number (segment rows q.network)) else None) ≡ None → (if b then near_row_by rows host q z (vxlan_number (segment rows q.network)) else None) ≡ None
          joint false k = refl
          joint true k = by (vxlan_number (segment rows q.network)) k

      go : (o : Option NearRow) (a b : Bool) → near_row rows host f.address q ≡ o → ident_eq n q.network ≡ a → addr_eq f.address x ≡ b
          → find (at_address n x) (filter_map (λ (f : Fixed). near_row rows host f.address q) fs) ≡ cond (ident_eq n q.network && list_any (λ (f : Fixed). addr_eq f.address x) fs) (near_row rows host x q) None
          → find (at_address n x) (cons_option o (filter_map (λ (f : Fixed). near_row rows host f.address q) fs)) ≡ cond (a && (b || list_any (λ (f : Fixed). addr_eq f.address x) fs)) (near_row rows host x q) None
      go None a b e k l h =
          h ∙ ap (λ c. cond (c && list_any (λ (f : Fixed). addr_eq f.address x) fs) (near_row rows host x q) None) k
          ∙ ap (λ r. cond (a && list_any (λ (f : Fixed). addr_eq f.address x) fs) r None) (without f.address x e)
          ∙ sym (cond_same (a && list_any (λ (f : Fixed). addr_eq f.address x) fs) None)
          ∙ cond_same (a && (b || list_any (λ (f : Fixed). addr_eq f.address x) fs)) None
          ∙ ap (λ r. cond (a && (b || list_any (λ (f : Fixed). addr_eq f.address x) fs)) r None) (sym (without f.address x e))
      go (Some r) true true e k l h =
          let test : at_address n x r ≡ true = row-is q f.address r e ∙ ap (λ c. c && addr_eq f.address x) k ∙ l in
          ap (λ c. cond c (Some r) (find (at_address n x) (filter_map (λ (f : Fixed). near_row rows host f.address q) fs))) test
          ∙ sym e ∙ ap (λ y. near_row rows host y q) (addr_same f.address x l)
      go (Some r) true false e k l h =
          let test : at_address n x r ≡ false = row-is q f.address r e ∙ ap (λ c. c && addr_eq f.address x) k ∙ l in
          ap (λ c. cond c (Some r) (find (at_address n x) (filter_map (λ (f : Fixed). near_row rows host f.address q) fs))) test
          ∙ h ∙ ap (λ c. cond (c && list_any (λ (f : Fixed). addr_eq f.address x) fs) (near_row rows host x q) None) k
      go (Some r) false b e k l h =
          let test : at_address n x r ≡ false = row-is q f.address r e ∙ ap (λ c. c && addr_eq f.address x) k in
          ap (λ c. cond c (Some r) (find (at_address n x) (filter_map (λ (f : Fixed). near_row rows host f.address q) fs))) test
          ∙ h ∙ ap (λ c. cond (c && list_any (λ (f : Fixed). addr_eq f.address x) fs) (near_row rows host x q) None) k

  of-port : (q : PortRow) → find (at_address n x) (near_rows_of rows host q) ≡ cond (holds_live rows n x q) (near_row rows host x q) None
  of-port q = go (is_live rows q)
    where
      none : (a : Bool) → None ≡ cond (a && false) (near_row rows host x q) None
      none true = refl
      none false = refl

      some : (a : Bool) → cond a (near_row rows host x q) None ≡ cond (a && true) (near_row rows host x q) None
      some true = refl
      some false = refl

      go : (live : Bool) → find (at_address n x) (if live then filter_map (λ (f : Fixed). near_row rows host f.address q) q.fixed else []) ≡ cond ((ident_eq n q.network && holds q x) && live) (near_row rows host x q) None
      go true = of-fixed q q.fixed ∙ some (ident_eq n q.network && holds q x)
      go false = none (ident_eq n q.network && holds q x)

  one-holder : AtMostOne (holds_live rows n x) rows.ports
  one-holder = AtMostOne-less (λ (p : PortRow). ident_eq n p.network && holds p x) (holds_live rows n x) rows.ports (λ q e. (and_parts (ident_eq n q.network && holds q x) (is_live rows q) e).0) (good.addresses n x)

  of-ports : find (at_address n x) (flat_map (near_rows_of rows host) rows.ports) ≡ option_and_then (near_row rows host x) (find (holds_live rows n x) rows.ports)
  of-ports = find-flat_map (holds_live rows n x) (at_address n x) (near_rows_of rows host) rows.ports (λ q miss. of-port q ∙ ap (λ b. cond b (near_row rows host x q) None) miss) one-holder
      ∙ go (find (holds_live rows n x) rows.ports) refl
    where
      go : (o : Option PortRow) → find (holds_live rows n x) rows.ports ≡ o → option_and_then (λ q. find (at_address n x) (near_rows_of rows host q)) o ≡ option_and_then (near_row rows host x) o
      go None e = refl
      go (Some q) e = of-port q ∙ ap (λ b. cond b (near_row rows host x q) None) (find-passes (holds_live rows n x) rows.ports q e)

  -- a floating address leads to a port of its network
  pub floating-network : (f : FloatingRow) (q : PortRow) → floating_holder rows f ≡ Some q → f.network ≡ q.network
  unfolding floating_holder
  floating-network f q h = go (option_and_then (gateway_port rows) (target_router rows f.target)) h
    where
      go : (o : Option PortRow) → live_on rows f.network o ≡ Some q → f.network ≡ q.network
      go None k = cc
      go (Some p) k = by (ident_eq f.network p.network && is_live rows p) refl k
        where
          by : (b : Bool) → (ident_eq f.network p.network && is_live rows p) ≡ b → (if b then Some p else None) ≡ Some q → f.network ≡ q.network
          by false l m = cc
          by true l m = let same : p ≡ q = cc in ident_same f.network p.network (and_parts (ident_eq f.network p.network) (is_live rows p) l).0 ∙ ap (λ (z : PortRow). z.network) same

  floating_hit : (f : FloatingRow) (r : NearRow) → near_floating rows host f ≡ Some r → at_address n x r ≡ floats_at n x f
  floating_hit f r h = go (floating_holder rows f) refl h
    where
      go : (o : Option PortRow) → floating_holder rows f ≡ o → option_and_then (near_row rows host (V4 f.address)) o ≡ Some r → at_address n x r ≡ floats_at n x f
      go None e k = cc
      go (Some q) e k = row-is q (V4 f.address) r k ∙ ap (λ i. ident_eq n i && addr_eq (V4 f.address) x) (sym (floating-network f q e))

  of-floatings : find (at_address n x) (filter_map (near_floating rows host) rows.floatings) ≡ option_and_then (near_row rows host x) (held_by_floating rows n x)
  of-floatings = find-filter_map (floats_at n x) (at_address n x) (near_floating rows host) rows.floatings floating_hit (good.floating_addresses n x) ∙ go (find (floats_at n x) rows.floatings) refl
    where
      go : (o : Option FloatingRow) → find (floats_at n x) rows.floatings ≡ o → option_and_then (near_floating rows host) o ≡ option_and_then (near_row rows host x) (option_and_then (floating_holder rows) o)
      go None e = refl
      go (Some f) e = ap (λ y. option_and_then (near_row rows host y) (floating_holder rows f)) (addr_same (V4 f.address) x (and_parts (ident_eq n f.network) (addr_eq (V4 f.address) x) (find-passes (floats_at n x) rows.floatings f e)).1)

  pub near-located : find (at_address n x) (near_rows rows host) ≡ option_and_then (near_row rows host x) (holder rows n x)
  unfolding near_rows
  near-located =
      find-append (at_address n x) (flat_map (near_rows_of rows host) rows.ports) (filter_map (near_floating rows host) rows.floatings)
      ∙ ap (λ o. option_or o (find (at_address n x) (filter_map (near_floating rows host) rows.floatings))) of-ports
      ∙ ap (option_or (option_and_then (near_row rows host x) (find (holds_live rows n x) rows.ports))) of-floatings
      ∙ go (find (holds_live rows n x) rows.ports) refl
    where
      go : (o : Option PortRow) → find (holds_live rows n x) rows.ports ≡ o → option_or (option_and_then (near_row rows host x) o) (option_and_then (near_row rows host x) (held_by_floating rows n x)) ≡ option_and_then (near_row rows host x) (option_or o (held_by_floating rows n x))
      go None e = refl
      go (Some q) e = ap (λ h. option_or (near_row rows host x q) (option_and_then (near_row rows host x) h)) (held-apart rows good n x q e) ∙ option_or-none (near_row rows host x q)
