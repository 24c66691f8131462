-- The DHCP ports here of networks, before a change and after it: by the bridge, and by the ports
-- that a change touches.
use Rattle.std.proofs.Common.{◌≡◌, ◌∙◌, ℕ, List, [], ◌∷◌, Bool, true, false, Option, Some, None, cond, find, slice_get, refl, ap, sym, subst}
use Rattle.std.specs.Prelude.{◌&&◌, ◌||◌, is_some, if◌then◌else◌, nat_lt, option_and_then, option_map}
use Rattle.std.proofs.lemmas.Bool.{and_parts}
use Rattle.api_types.specs.Holders.{is_live_dhcp_of}
use Rattle.api_types.specs.Ident.{Ident}
use Rattle.api_types.specs.Live.{is_at, is_here, is_live}
use Rattle.api_types.specs.Owners.{is_dhcp, is_dhcp_of}
use Rattle.api_types.specs.Parts.{port_of}
use Rattle.api_types.specs.RowLists.{RowLists}
use Rattle.api_types.specs.Table.{HaveOwnIds, ident_eq, place_of}
use Rattle.api_types.specs.declared.change.Item.{Item}
use Rattle.api_types.specs.declared.kind.Kind.TheVariants.{Port}
use Rattle.api_types.specs.declared.port.PortRow.{PortRow}
use Rattle.api_types.proofs.ListLemmas.{false_true, none_some, some_equal}
use Rattle.api_types.proofs.NameLemmas.{by_test}
use Rattle.plane_types.specs.Keyed.{are_one}
use Rattle.plane_types.specs.Numbered.{numbered_after, with_numbers}
use Rattle.plane_types.specs.NumberedRows.{row_items}
use Rattle.plane_types.proofs.NumberedLemmas.{after_plain, after_rises, numbered_rises, plain, plain_numbered}
use Rattle.plane_types.proofs.StayLemmas.{ports_after}
use Rattle.plane_laws.proofs.Facts.{AtMostOne}
use Rattle.plane_laws.proofs.FactsHold.{frame-facts}
use Rattle.plane_laws.proofs.ListLemmas.{AtMostOne-less, find-none-less}
use Rattle.table_edits.specs.EditsAt.{among}
use Rattle.table_edits.specs.NumbersSeen.{Renumbered, at_after, at_before}
use Rattle.table_edits.specs.Rewires.{LeadsOn}
use Rattle.table_edits.proofs.NumberPlaces.{own_place}
use Rattle.kept_rows.proofs.FoundLemmas.{found_at, number_found, place_of_number}
use Rattle.kept_rows.proofs.NumberLists.{one_number}
use Rattle.dhcp_delta.specs.Serving.{dhcp_here, serves_any, serves_here}

-- what is found and passes a second test is found by both
found_both : {X : Type 0} (p q : X → Bool) (xs : List X) → AtMostOne p xs
    → option_and_then (λ x. if q x then Some x else None) (find p xs)
    ≡ find (λ x. p x && q x) xs
found_both p q [] once = refl
found_both {X} p q (x ∷ xs) once = go (p x) (q x) refl refl (found_both p q xs once.1)
  where
    both : List X → Option X
    both ys = find (λ y. p y && q y) ys

    none : find p xs ≡ None → both xs ≡ None
    none e = find-none-less p (λ y. p y && q y) xs (λ y h. (and_parts (p y) (q y) h).0) e

    go : (b c : Bool) → p x ≡ b → q x ≡ c
        → option_and_then (λ y. if q y then Some y else None) (find p xs) ≡ both xs
        → option_and_then (λ y. if q y then Some y else None) (cond b (Some x) (find p xs))
        ≡ cond (b && c) (Some x) (both xs)
    go true true e f rest = ap (λ c. if c then Some x else None) f
    go true false e f rest = ap (λ c. if c then Some x else None) f ∙ sym (none (once.0 e))
    go false c e f rest = rest

-- the live DHCP port here is the first port that is one
pub here_found : (rows : RowLists) (host : List ℕ) (n : Ident) → AtMostOne (is_dhcp_of n) rows.ports
    → dhcp_here rows host n ≡ find (serves_here rows host n) rows.ports
here_found rows host n once =
    found_both (is_live_dhcp_of rows n) (is_at host) rows.ports
    (AtMostOne-less (is_dhcp_of n) (is_live_dhcp_of rows n) rows.ports
    (λ q h. (and_parts (is_dhcp_of n q) (is_live rows q) h).0) once)

once_here : (rows : RowLists) (host : List ℕ) (n : Ident) → AtMostOne (is_dhcp_of n) rows.ports
    → AtMostOne (serves_here rows host n) rows.ports
once_here rows host n once =
    AtMostOne-less (is_dhcp_of n) (serves_here rows host n) rows.ports
    (λ q h.
    (and_parts (is_dhcp_of n q) (is_live rows q)
    (and_parts (is_live_dhcp_of rows n q) (is_at host q) h).0).0)
    once

-- whether a port serves is as before if it is as live
pub same_serving : (before after : RowLists) (host : List ℕ) (n : Ident) (p : PortRow)
    → is_live before p ≡ is_live after p
    → serves_here before host n p ≡ serves_here after host n p
same_serving before after host n p live = ap (λ b. is_dhcp_of n p && b && is_at host p) live

-- a port that serves here serves its network
pub serving_its : (rows : RowLists) (host : List ℕ) (n : Ident) (p : PortRow)
    → (is_dhcp p.owner && is_here rows host p) ≡ true
    → serves_here rows host n p ≡ ident_eq n p.network
serving_its rows host n p h = go (ident_eq n p.network) (is_dhcp p.owner) (is_live rows p) (is_at host p) h
  where
    go : (a b c d : Bool) → b && (c && d) ≡ true → (((a && b) && c) && d) ≡ a
    go true true true true h = refl
    go false true true true h = refl
    go a true true false h = cc
    go a true false d h = cc
    go a false c d h = cc

pub serving_none : (rows : RowLists) (host : List ℕ) (n : Ident) (p : PortRow)
    → (is_dhcp p.owner && is_here rows host p) ≡ false
    → serves_here rows host n p ≡ false
serving_none rows host n p h = go (ident_eq n p.network) (is_dhcp p.owner) (is_live rows p) (is_at host p) h
  where
    go : (a b c d : Bool) → b && (c && d) ≡ false → (((a && b) && c) && d) ≡ false
    go true true true false h = refl
    go true true false d h = refl
    go true false c d h = refl
    go false b c d h = refl
    go true true true true h = cc

-- the place of a row by its id
pub place_by : (rows : List PortRow) (o : Option PortRow) (i : Option Ident)
    → i ≡ option_map (λ (d : PortRow). d.id) o
    → option_and_then (λ i. place_of (λ (p : PortRow). p.id) i rows) i
    ≡ option_and_then (λ (d : PortRow). place_of (λ (p : PortRow). p.id) d.id rows) o
place_by rows o i is = ap (option_and_then (λ i. place_of (λ (p : PortRow). p.id) i rows)) is ∙ go o
  where
    go : (o : Option PortRow)
        → option_and_then (λ i. place_of (λ (p : PortRow). p.id) i rows) (option_map (λ (d : PortRow). d.id) o)
        ≡ option_and_then (λ (d : PortRow). place_of (λ (p : PortRow). p.id) d.id rows) o
    go None = refl
    go (Some d) = refl

-- none of the numbers that are searched
pub none_among : (test : ℕ → Bool) (ns : List ℕ) → find test ns ≡ None → (k : ℕ)
    → among nat_lt k ns ≡ true → test k ≡ false
none_among test [] none k there = false_true _ there
none_among test (m ∷ ns) none k there = go (test m) refl none (λ h. none_among test ns h k)
  where
    go : (b : Bool) → test m ≡ b → cond b (Some m) (find test ns) ≡ None
        → (find test ns ≡ None → among nat_lt k ns ≡ true → test k ≡ false) → test k ≡ false
    go true e h rest = none_some m _ (sym h)
    go false e h rest =
        by_test (are_one nat_lt k m) (test k ≡ false)
        (λ is. ap test (one_number k m is) ∙ e)
        (λ off. rest h (sym (ap (λ b. b || among nat_lt k ns) off) ∙ there))

-- the ports before a change and after it, of which none but the touched ones changes
pub record Stays (before after : RowLists) (items : List Item) (ports : Renumbered PortRow)
    (touched : List ℕ) : Type 0 where
  pub leads_on : LeadsOn before items after
  pub numbered : ports ≡ record { rows = before.ports; items = row_items Port port_of items }
  pub own_ids : HaveOwnIds (λ (p : PortRow). p.id) ports.rows
  pub stay : (k : ℕ) → among nat_lt k touched ≡ false → at_before ports k ≡ at_after ports k
  pub live : (k : ℕ) (p : PortRow) → among nat_lt k touched ≡ false → at_before ports k ≡ Some p
      → is_live before p ≡ is_live after p

abbrev place : List PortRow → PortRow → Option ℕ
place rows p = place_of (λ (p : PortRow). p.id) p.id rows

module _ (before after : RowLists) (items : List Item) (ports : Renumbered PortRow) (touched : List ℕ)
    (s : Stays before after items ports touched) (host : List ℕ) (n : Ident) where
  once_before : AtMostOne (is_dhcp_of n) before.ports
  once_before = (frame-facts before s.leads_on.consistent).dhcp_ports n

  once_after : AtMostOne (is_dhcp_of n) after.ports
  once_after = (frame-facts after s.leads_on.stays_consistent).dhcp_ports n

  plain_before : plain (with_numbers 0 ports.rows) ≡ before.ports
  plain_before = plain_numbered 0 ports.rows ∙ ap (λ (p : Renumbered PortRow). p.rows) s.numbered

  plain_after : plain (numbered_after ports.rows ports.items) ≡ after.ports
  plain_after =
      ap (λ (p : Renumbered PortRow). plain (numbered_after p.rows p.items)) s.numbered
      ∙ after_plain before.ports (row_items Port port_of items)
      ∙ sym (ports_after before items)
      ∙ ap (λ (rows : RowLists). rows.ports) (sym s.leads_on.leads)

  -- a server before the change has a number, and so has one after it
  number_before : (d : PortRow) → dhcp_here before host n ≡ Some d
      → (k : ℕ) × (at_before ports k ≡ Some d) × (serves_here before host n d ≡ true)
  number_before d is =
      number_found (serves_here before host n) (with_numbers 0 ports.rows) (numbered_rises 0 ports.rows) d
      (ap (find (serves_here before host n)) plain_before ∙ sym (here_found before host n once_before) ∙ is)

  number_after : (d : PortRow) → dhcp_here after host n ≡ Some d
      → (k : ℕ) × (at_after ports k ≡ Some d) × (serves_here after host n d ≡ true)
  number_after d is =
      number_found (serves_here after host n) (numbered_after ports.rows ports.items) (after_rises ports.rows ports.items) d
      (ap (find (serves_here after host n)) plain_after ∙ sym (here_found after host n once_after) ∙ is)

  -- what serves at a number is the server
  here_before : (k : ℕ) (d : PortRow) → at_before ports k ≡ Some d
      → serves_here before host n d ≡ true → dhcp_here before host n ≡ Some d
  here_before k d at serves =
      here_found before host n once_before
      ∙ ap (find (serves_here before host n)) (sym plain_before)
      ∙ found_at (serves_here before host n) (with_numbers 0 ports.rows)
      (subst (AtMostOne (serves_here before host n)) (sym plain_before) (once_here before host n once_before)) k d at serves

  pub here_after : (k : ℕ) (d : PortRow) → at_after ports k ≡ Some d
      → serves_here after host n d ≡ true → dhcp_here after host n ≡ Some d
  here_after k d at serves =
      here_found after host n once_after
      ∙ ap (find (serves_here after host n)) (sym plain_after)
      ∙ found_at (serves_here after host n) (numbered_after ports.rows ports.items)
      (subst (AtMostOne (serves_here after host n)) (sym plain_after) (once_here after host n once_after)) k d at serves

  -- the server's place before the change is its number
  own_number : (k : ℕ) (d : PortRow) → at_before ports k ≡ Some d → place before.ports d ≡ Some k
  own_number k d at =
      ap (λ (p : Renumbered PortRow). place p.rows d) (sym s.numbered)
      ∙ own_place (λ (p : PortRow). p.id) ports.rows k d s.own_ids
      (sym (place_of_number ports.rows k) ∙ at)

  -- if there was one, it has a number
  pub numbered_server : is_some (option_and_then (place before.ports) (dhcp_here before host n))
      ≡ is_some (dhcp_here before host n)
  numbered_server = go (dhcp_here before host n) refl
    where
      go : (o : Option PortRow) → dhcp_here before host n ≡ o
          → is_some (option_and_then (place before.ports) o) ≡ is_some o
      go None is = refl
      go (Some d) is = let at = number_before d is in ap is_some (own_number at.0 d at.1)

  -- one that is touched and serves after the change is the server
  pub made_serves : (k : ℕ) → serves_any after host n (at_after ports k) ≡ true
      → at_after ports k ≡ dhcp_here after host n
  made_serves k serves = go (at_after ports k) refl serves
    where
      go : (o : Option PortRow) → at_after ports k ≡ o → serves_any after host n o ≡ true
          → at_after ports k ≡ dhcp_here after host n
      go None is h = false_true _ h
      go (Some d) is h = is ∙ sym (here_after k d is h)

  module _ (none : find (λ k. serves_any after host n (at_after ports k)) touched ≡ None) where
    -- a server after the change that isn't touched was it before
    back : (d : PortRow) → dhcp_here after host n ≡ Some d
        → (k : ℕ) × (among nat_lt k touched ≡ false) × (dhcp_here before host n ≡ Some d)
        × (place before.ports d ≡ Some k)
    back d is =
        let at = number_after d is in
        by_test (among nat_lt at.0 touched) _
        (λ there. false_true _
        (sym (none_among (λ k. serves_any after host n (at_after ports k)) touched none at.0 there)
        ∙ ap (serves_any after host n) at.1 ∙ at.2))
        (λ away.
        let was : at_before ports at.0 ≡ Some d = s.stay at.0 away ∙ at.1 in (
          at.0,
          away,
          here_before at.0 d was (same_serving before after host n d (s.live at.0 d away was) ∙ at.2),
          own_number at.0 d was,
        ))

    -- none serves if none did
    pub none_serves : option_and_then (place before.ports) (dhcp_here before host n) ≡ None
        → dhcp_here after host n ≡ None
    none_serves gone = go (dhcp_here after host n) refl
      where
        go : (o : Option PortRow) → dhcp_here after host n ≡ o → dhcp_here after host n ≡ None
        go None is = is
        go (Some d) is =
            let b = back d is in
            none_some b.0 _ (sym gone ∙ ap (option_and_then (place before.ports)) b.2 ∙ b.3)

    -- nor if the one that did is touched
    pub touched_goes : (m : ℕ) → option_and_then (place before.ports) (dhcp_here before host n) ≡ Some m
        → among nat_lt m touched ≡ true → dhcp_here after host n ≡ None
    touched_goes m is there = go (dhcp_here after host n) refl
      where
        go : (o : Option PortRow) → dhcp_here after host n ≡ o → dhcp_here after host n ≡ None
        go None h = h
        go (Some d) h =
            let b = back d h in
            let same : m ≡ b.0 = some_equal m b.0 (sym is ∙ ap (option_and_then (place before.ports)) b.2 ∙ b.3) in
            false_true _ (sym b.1 ∙ ap (λ k. among nat_lt k touched) (sym same) ∙ there)

  -- the one that did and isn't touched still serves
  pub stays_serving : (m : ℕ) → option_and_then (place before.ports) (dhcp_here before host n) ≡ Some m
      → among nat_lt m touched ≡ false → slice_get ports.rows m ≡ dhcp_here after host n
  stays_serving m is away = go (dhcp_here before host n) refl is
    where
      go : (o : Option PortRow) → dhcp_here before host n ≡ o → option_and_then (place before.ports) o ≡ Some m
          → slice_get ports.rows m ≡ dhcp_here after host n
      go None h p = none_some m _ p
      go (Some d) h p =
          let at = number_before d h in
          let same : at.0 ≡ m = some_equal at.0 m (sym (own_number at.0 d at.1) ∙ p) in
          let was : at_before ports m ≡ Some d = ap (at_before ports) (sym same) ∙ at.1 in
          let now : at_after ports m ≡ Some d = sym (s.stay m away) ∙ was in
          sym (place_of_number ports.rows m) ∙ was
          ∙ sym (here_after m d now (sym (same_serving before after host n d (s.live m d away was)) ∙ at.2))

  -- if no touched port is a DHCP port of the network, the server stays
  pub server_stays : ((k : ℕ) → among nat_lt k touched ≡ true → serves_any before host n (at_before ports k) ≡ false)
      → ((k : ℕ) → among nat_lt k touched ≡ true → serves_any after host n (at_after ports k) ≡ false)
      → dhcp_here before host n ≡ dhcp_here after host n
  server_stays old new = go (dhcp_here before host n) (dhcp_here after host n) refl refl
    where
      go : (o p : Option PortRow) → dhcp_here before host n ≡ o → dhcp_here after host n ≡ p
          → dhcp_here before host n ≡ dhcp_here after host n
      go (Some d) p h g =
          let at = number_before d h in
          by_test (among nat_lt at.0 touched) _
          (λ there. false_true _ (sym (old at.0 there) ∙ ap (serves_any before host n) at.1 ∙ at.2))
          (λ away.
          let now : at_after ports at.0 ≡ Some d = sym (s.stay at.0 away) ∙ at.1 in
          h ∙ sym (here_after at.0 d now (sym (same_serving before after host n d (s.live at.0 d away at.1)) ∙ at.2)))
      go None (Some d) h g =
          let at = number_after d g in
          by_test (among nat_lt at.0 touched) _
          (λ there. false_true _ (sym (new at.0 there) ∙ ap (serves_any after host n) at.1 ∙ at.2))
          (λ away.
          let was : at_before ports at.0 ≡ Some d = s.stay at.0 away ∙ at.1 in
          none_some d _ (sym h ∙ here_before at.0 d was (same_serving before after host n d (s.live at.0 d away was) ∙ at.2)))
      go None None h g = h ∙ sym g
