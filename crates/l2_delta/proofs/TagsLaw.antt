-- A host's tags stay if each network with one carries on, each live port of the host stays on its
-- network, and none comes to a network without a tag.
use Rattle.std.proofs.Common.{◌≡◌, ◌∙◌, ◌⊎◌, inl, inr, ℕ, List, [], ◌∷◌, map, Option, Some, None, Bool, true, false, cond, refl, sym, ap, subst}
use Rattle.std.specs.Prelude.{◌&&◌, ◌||◌, find, if◌then◌else◌, is_some, nat_lt, option_and_then, option_map}
use Rattle.std.specs.List.{cons_option, filter, filter_map, list_any}
use Rattle.api_types.specs.Consistent.{IsConsistent}
use Rattle.api_types.specs.Consistent.Carried.{is_bound}
use Rattle.api_types.specs.Ident.{Ident}
use Rattle.api_types.specs.Live.{is_at, is_here, is_live, network_up, segment, segment_of}
use Rattle.api_types.specs.Parts.{network_of, port_of}
use Rattle.api_types.specs.RowLists.{RowLists}
use Rattle.api_types.specs.RowsWith.{network_with}
use Rattle.api_types.specs.Table.{ident_eq}
use Rattle.api_types.specs.Wires.{wire_of}
use Rattle.api_types.specs.declared.change.Item.{Item}
use Rattle.api_types.specs.declared.kind.Kind.TheVariants.{Network, Port}
use Rattle.api_types.specs.declared.network.NetworkRow.{NetworkRow}
use Rattle.api_types.specs.declared.port.PortRow.{PortRow}
use Rattle.api_types.proofs.ListLemmas.{and_both, any-at, at-any, both_and, false_true, none_some, some_equal}
use Rattle.api_types.proofs.NameLemmas.{by_test, ident_itself, ident_same}
use Rattle.plane_laws.proofs.Counted.{all-of}
use Rattle.plane_laws.proofs.Facts.{AllOf, AtMostOne}
use Rattle.plane_laws.proofs.FactsHold.{frame-facts}
use Rattle.plane_laws.proofs.ListLemmas.{find-each}
use Rattle.plane_types.specs.Keyed.{Rises, row_at, rows_by_key}
use Rattle.plane_types.specs.KeyedTables.{tag_row_of}
use Rattle.plane_types.specs.NewTags.{new_tags, tagged_networks}
use Rattle.plane_types.specs.Numbered.{numbered_after, with_numbers}
use Rattle.plane_types.specs.NumberedRows.{row_items}
use Rattle.plane_types.specs.Realises.{RealisesTags, TagStands}
use Rattle.plane_types.specs.TableRows.{is_tagged, tag_of}
use Rattle.plane_types.specs.declared.table.TagRow.{TagRow}
use Rattle.plane_types.proofs.KeyedLemmas.{same_entries}
use Rattle.plane_types.proofs.NumberedLemmas.{after_plain, after_rises, number_order, numbered_rises, plain, plain_numbered}
use Rattle.plane_types.proofs.StayLemmas.{AllStand, ports_after, tags_stay}
use Rattle.plane_types.proofs.TableLemmas.{at_keyed, keyed_rises, keyed_rows}
use Rattle.table_edits.specs.NumbersSeen.{Renumbered, at_after, at_before}
use Rattle.table_edits.specs.Rewires.{LeadsOn}
use Rattle.table_edits.proofs.KindsAfter.{networks_after}
use Rattle.kept_rows.proofs.FoundLemmas.{found_at, number_at, number_found, place_at}
use Rattle.l2_delta.specs.TagsStay.{CarriesOn, HasTag, IsAsUp, IsTagged, NetworkStays, PortStays, StaysOn, TaggedStays, WasHere}
use Rattle.l2_delta.proofs.NumberedSources.{one_number}
use Rattle.l2_delta.proofs.TagLaw.{its_network, tags_found}
use Rattle.l2_delta.proofs.UntouchedPorts.{of_row}

-- ---- rows and their numbers

module _ {R : Type 0} (test : R → Bool) where
  -- what passes has a number
  any_numbered : (xs : List (ℕ × R)) → Rises nat_lt xs → list_any test (plain xs) ≡ true
      → (k : ℕ) × (r : R) × (row_at nat_lt k xs ≡ Some r) × (test r ≡ true)
  any_numbered xs up h =
      let place = any-at test (plain xs) h in
      let number = number_at xs up place.0 place.1 place.2 in
      (number.0, place.1, number.1, place.3)

  -- what has a number is one of the rows
  numbered_any : (xs : List (ℕ × R)) (k : ℕ) (r : R) → row_at nat_lt k xs ≡ Some r
      → test r ≡ true → list_any test (plain xs) ≡ true
  numbered_any xs k r at h =
      let place = place_at xs k r at in at-any test (plain xs) place.0 r place.1 h

-- ---- which networks have a tag

-- those of the tags
has_tag_is : (i : Ident) (ts : List TagRow)
    → is_some (tag_of ts i) ≡ list_any (ident_eq i) (map (λ (t : TagRow). t.network) ts)
has_tag_is i [] = refl
has_tag_is i (t ∷ ts) = go (ident_eq i t.network) (has_tag_is i ts)
  where
    go : (b : Bool)
        → is_some (tag_of ts i) ≡ list_any (ident_eq i) (map (λ (t : TagRow). t.network) ts)
        → is_some
        (option_map (λ (u : TagRow). u.tag)
        (cond b (Some t) (find (λ (u : TagRow). ident_eq i u.network) ts)))
        ≡ b || list_any (ident_eq i) (map (λ (t : TagRow). t.network) ts)
    go true rest = refl
    go false rest = rest

-- an id among those of the networks that pass is that of one which passes
listed_is : (i : Ident) (test : NetworkRow → Bool) (ns : List NetworkRow)
    → list_any (ident_eq i) (map (λ (n : NetworkRow). n.id) (filter test ns))
    ≡ list_any (λ (n : NetworkRow). test n && ident_eq i n.id) ns
listed_is i test [] = refl
listed_is i test (n ∷ ns) = go (test n) (listed_is i test ns)
  where
    go : (b : Bool)
        → list_any (ident_eq i) (map (λ (n : NetworkRow). n.id) (filter test ns))
        ≡ list_any (λ (n : NetworkRow). test n && ident_eq i n.id) ns
        → list_any (ident_eq i)
        (map (λ (n : NetworkRow). n.id) (cond b (n ∷ filter test ns) (filter test ns)))
        ≡ (b && ident_eq i n.id) || list_any (λ (n : NetworkRow). test n && ident_eq i n.id) ns
    go true rest = ap (λ b. ident_eq i n.id || b) rest
    go false rest = rest

-- the ids of those that pass, one by one
ids_kept : (test : NetworkRow → Bool) (ns : List NetworkRow)
    → map (λ (n : NetworkRow). n.id) (filter test ns)
    ≡ filter_map (λ (n : NetworkRow). if test n then Some n.id else None) ns
ids_kept test [] = refl
ids_kept test (n ∷ ns) = go (test n) (ids_kept test ns)
  where
    go : (b : Bool)
        → map (λ (n : NetworkRow). n.id) (filter test ns)
        ≡ filter_map (λ (n : NetworkRow). if test n then Some n.id else None) ns
        → map (λ (n : NetworkRow). n.id) (cond b (n ∷ filter test ns) (filter test ns))
        ≡ cons_option (if b then Some n.id else None)
        (filter_map (λ (n : NetworkRow). if test n then Some n.id else None) ns)
    go true rest = ap (λ is. n.id ∷ is) rest
    go false rest = rest

-- ---- so the tags stay

-- what stands at numbers before a change and after it
record Seen (before after : RowLists) (nets nets_now : List (ℕ × NetworkRow))
    (ports ports_now : List (ℕ × PortRow)) : Type 0 where
  pub nets_rise : Rises nat_lt nets
  pub nets_now_rise : Rises nat_lt nets_now
  pub ports_rise : Rises nat_lt ports
  pub ports_now_rise : Rises nat_lt ports_now
  pub nets_are : plain nets ≡ before.networks
  pub nets_now_are : plain nets_now ≡ after.networks
  pub ports_are : plain ports ≡ before.ports
  pub ports_now_are : plain ports_now ≡ after.ports

-- a network with an id that is there before a change and after it, at one number
record Carried (nets nets_now : List (ℕ × NetworkRow)) (i : Ident) : Type 0 where
  pub number : ℕ
  pub old : NetworkRow
  pub new : NetworkRow
  pub was : row_at nat_lt number nets ≡ Some old
  pub is : row_at nat_lt number nets_now ≡ Some new
  pub its : i ≡ old.id
  pub same : old.id ≡ new.id
  pub on : old.segment ≡ new.segment

module _ (before after : RowLists) (good : IsConsistent before) (good_now : IsConsistent after)
    (host : List ℕ) (old : List TagRow) (real : RealisesTags before host old)
    (nets nets_now : List (ℕ × NetworkRow)) (ports ports_now : List (ℕ × PortRow))
    (seen : Seen before after nets nets_now ports ports_now)
    (networks_stay : (k : ℕ) → (row_at nat_lt k nets ≡ row_at nat_lt k nets_now)
    ⊎ NetworkStays before after old (row_at nat_lt k nets) (row_at nat_lt k nets_now))
    (ports_stay : (k : ℕ) → (row_at nat_lt k ports ≡ row_at nat_lt k ports_now)
    ⊎ PortStays before after host old (row_at nat_lt k ports) (row_at nat_lt k ports_now)) where
  abbrev is_id : Ident → NetworkRow → Bool
  is_id i n = ident_eq i n.id

  is_its : (i j : Ident) → i ≡ j → ident_eq i j ≡ true
  is_its i j is = subst (λ h. ident_eq i h ≡ true) is (ident_itself i)

  one_before : (i : Ident) → AtMostOne (is_id i) (plain nets)
  one_before i =
      subst (AtMostOne (is_id i)) (sym seen.nets_are) ((frame-facts before good).network_ids i)

  one_after : (i : Ident) → AtMostOne (is_id i) (plain nets_now)
  one_after i =
      subst (AtMostOne (is_id i)) (sym seen.nets_now_are)
      ((frame-facts after good_now).network_ids i)

  -- a network before the change by its number
  numbered : (i : Ident) (w : NetworkRow) → network_with before i ≡ Some w
      → (k : ℕ) × (row_at nat_lt k nets ≡ Some w) × (i ≡ w.id)
  numbered i w h =
      let found =
      number_found (is_id i) nets seen.nets_rise w (ap (find (is_id i)) seen.nets_are ∙ h) in
      (found.0, found.1, ident_same i w.id found.2)

  -- one after it is found by its id
  found_now : (i : Ident) (k : ℕ) (v : NetworkRow) → row_at nat_lt k nets_now ≡ Some v
      → i ≡ v.id → network_with after i ≡ Some v
  found_now i k v at is =
      ap (find (is_id i)) (sym seen.nets_now_are)
      ∙ found_at (is_id i) nets_now (one_after i) k v at (is_its i v.id is)

  -- what becomes of a network with this number
  becomes : (k : ℕ) (w : NetworkRow) → row_at nat_lt k nets ≡ Some w
      → (row_at nat_lt k nets_now ≡ Some w)
      ⊎ TaggedStays before after old w (row_at nat_lt k nets_now)
  becomes k w at = go (networks_stay k)
    where
      go : (row_at nat_lt k nets ≡ row_at nat_lt k nets_now)
          ⊎ NetworkStays before after old (row_at nat_lt k nets) (row_at nat_lt k nets_now)
          → (row_at nat_lt k nets_now ≡ Some w)
          ⊎ TaggedStays before after old w (row_at nat_lt k nets_now)
      go (inl e) = inl (sym e ∙ at)
      go (inr s) =
          inr (subst (λ o. NetworkStays before after old o (row_at nat_lt k nets_now)) at s)

  -- a network that is there before and after is as up
  up_same : (i : Ident) (w v : NetworkRow) → network_with before i ≡ Some w
      → network_with after i ≡ Some v → w.up ≡ v.up
  up_same i w v h now = let n = numbered i w h in go n.0 n.2 (becomes n.0 w n.1)
    where
      go : (k : ℕ) → i ≡ w.id
          → (row_at nat_lt k nets_now ≡ Some w)
          ⊎ TaggedStays before after old w (row_at nat_lt k nets_now)
          → w.up ≡ v.up
      go k is (inl e) =
          ap (λ (n : NetworkRow). n.up) (some_equal w v (sym (found_now i k w e is) ∙ now))
      go k is (inr s) =
          subst (λ o. IsAsUp o (Some v)) h
          (subst (λ o. IsAsUp (network_with before i) o) now
          (subst (λ j. IsAsUp (network_with before j) (network_with after j)) (sym is) s.up))

  -- so a port is as live here
  live_as_before : (p : PortRow) → is_some (network_with before p.network) ≡ true
      → is_some (network_with after p.network) ≡ true
      → is_here before host p ≡ is_here after host p
  unfolding is_live
  live_as_before p stood stands =
      go (network_with before p.network) (network_with after p.network) refl refl stood stands
    where
      go : (o q : Option NetworkRow) → network_with before p.network ≡ o
          → network_with after p.network ≡ q → is_some o ≡ true → is_some q ≡ true
          → (p.up && is_bound p.vif && network_up (network_with before p.network)) && is_at host p
          ≡ (p.up && is_bound p.vif && network_up (network_with after p.network)) && is_at host p
      go None q e f h k = false_true _ h
      go (Some w) None e f h k = false_true _ k
      go (Some w) (Some v) e f h k =
          let up : network_up (network_with before p.network)
          ≡ network_up (network_with after p.network) =
          ap network_up e ∙ up_same p.network w v e f ∙ ap network_up (sym f) in
          ap (λ b. (p.up && is_bound p.vif && b) && is_at host p) up

  -- the network of a port stands, before and after
  stood : (k : ℕ) (p : PortRow) → row_at nat_lt k ports ≡ Some p
      → is_some (network_with before p.network) ≡ true
  stood =
      of_row (λ (p : PortRow). is_some (network_with before p.network) ≡ true) ports
      (subst (AllOf (λ (p : PortRow). is_some (network_with before p.network) ≡ true))
      (sym seen.ports_are) (frame-facts before good).networks_stand)

  stands : (k : ℕ) (p : PortRow) → row_at nat_lt k ports_now ≡ Some p
      → is_some (network_with after p.network) ≡ true
  stands =
      of_row (λ (p : PortRow). is_some (network_with after p.network) ≡ true) ports_now
      (subst (AllOf (λ (p : PortRow). is_some (network_with after p.network) ≡ true))
      (sym seen.ports_now_are) (frame-facts after good_now).networks_stand)

  abbrev here_on : RowLists → Ident → PortRow → Bool
  here_on rows i p = ident_eq i p.network && is_here rows host p

  abbrev tagged : RowLists → Ident → Bool
  tagged rows i = list_any (here_on rows i) rows.ports

  -- a network with a tag is one with a live port here, before the change
  abbrev is_tagged_id : Ident → NetworkRow → Bool
  is_tagged_id i n = is_tagged before host n && is_id i n

  has_tag : (i : Ident) → is_some (tag_of old i) ≡ list_any (is_tagged_id i) (plain nets)
  has_tag i =
      has_tag_is i old
      ∙ ap (list_any (ident_eq i)) real.networks
      ∙ listed_is i (is_tagged before host) before.networks
      ∙ ap (list_any (is_tagged_id i)) (sym seen.nets_are)

  tag_is_here : (i : Ident) → HasTag old i → tagged before i ≡ true
  tag_is_here i has =
      let found = any_numbered (is_tagged_id i) nets seen.nets_rise (sym (has_tag i) ∙ has) in
      let parts = and_both (is_tagged before host found.1) (is_id i found.1) found.3 in
      subst (λ j. tagged before j ≡ true) (sym (ident_same i found.1.id parts.1)) parts.0

  here_is_tag : (i : Ident) (k : ℕ) (w : NetworkRow) → row_at nat_lt k nets ≡ Some w
      → i ≡ w.id → tagged before i ≡ true → HasTag old i
  here_is_tag i k w at is here =
      has_tag i
      ∙ numbered_any (is_tagged_id i) nets k w at
      (both_and (is_tagged before host w) (is_id i w)
      (subst (λ j. tagged before j ≡ true) is here) (is_its i w.id is))

  -- such networks are the same after it
  here_after : (i : Ident) → tagged before i ≡ true → tagged after i ≡ true
  here_after i h =
      let found =
      any_numbered (here_on before i) ports seen.ports_rise
      (ap (list_any (here_on before i)) seen.ports_are ∙ h) in
      let parts = and_both (ident_eq i found.1.network) (is_here before host found.1) found.3 in
      ap (list_any (here_on after i)) (sym seen.ports_now_are)
      ∙ go found.0 found.1 found.2 parts.0 parts.1 (ports_stay found.0)
      (row_at nat_lt found.0 ports_now) refl
    where
      go : (k : ℕ) (p : PortRow) → row_at nat_lt k ports ≡ Some p
          → ident_eq i p.network ≡ true → is_here before host p ≡ true
          → (row_at nat_lt k ports ≡ row_at nat_lt k ports_now)
          ⊎ PortStays before after host old (row_at nat_lt k ports) (row_at nat_lt k ports_now)
          → (q : Option PortRow) → row_at nat_lt k ports_now ≡ q
          → list_any (here_on after i) (plain ports_now) ≡ true
      go k p at on here (inl e) q is =
          let now : row_at nat_lt k ports_now ≡ Some p = sym e ∙ at in
          numbered_any (here_on after i) ports_now k p now
          (both_and (ident_eq i p.network) (is_here after host p) on
          (sym (live_as_before p (stood k p at) (stands k p now)) ∙ here))
      go k p at on here (inr s) None is =
          absurd (subst (λ o. StaysOn after host p.network o) is
          ((subst (λ o. WasHere before after host o (row_at nat_lt k ports_now)) at s.was) here))
      go k p at on here (inr s) (Some q) is =
          let stays =
          subst (λ o. StaysOn after host p.network o) is
          ((subst (λ o. WasHere before after host o (row_at nat_lt k ports_now)) at s.was) here) in
          numbered_any (here_on after i) ports_now k q is
          (both_and (ident_eq i q.network) (is_here after host q)
          (ap (ident_eq i) (sym stays.1) ∙ on) stays.0)

  here_before : (i : Ident) → tagged after i ≡ true → tagged before i ≡ true
  here_before i h =
      let found =
      any_numbered (here_on after i) ports_now seen.ports_now_rise
      (ap (list_any (here_on after i)) seen.ports_now_are ∙ h) in
      let parts = and_both (ident_eq i found.1.network) (is_here after host found.1) found.3 in
      go found.0 found.1 found.2 parts.0 parts.1 (ports_stay found.0)
    where
      go : (k : ℕ) (q : PortRow) → row_at nat_lt k ports_now ≡ Some q
          → ident_eq i q.network ≡ true → is_here after host q ≡ true
          → (row_at nat_lt k ports ≡ row_at nat_lt k ports_now)
          ⊎ PortStays before after host old (row_at nat_lt k ports) (row_at nat_lt k ports_now)
          → tagged before i ≡ true
      go k q at on here (inl e) =
          let was : row_at nat_lt k ports ≡ Some q = e ∙ at in
          ap (list_any (here_on before i)) (sym seen.ports_are)
          ∙ numbered_any (here_on before i) ports k q was
          (both_and (ident_eq i q.network) (is_here before host q) on
          (live_as_before q (stood k q was) (stands k q at) ∙ here))
      go k q at on here (inr s) =
          subst (λ j. tagged before j ≡ true) (sym (ident_same i q.network on))
          (tag_is_here q.network ((subst (λ o. IsTagged after host old o) at s.is) here))

  tagged_same : (i : Ident) → tagged before i ≡ tagged after i
  tagged_same i = go (tagged before i) (tagged after i) (here_after i) (here_before i)
    where
      go : (a b : Bool) → (a ≡ true → b ≡ true) → (b ≡ true → a ≡ true) → a ≡ b
      go true b f g = sym (f refl)
      go false true f g = g refl
      go false false f g = refl

  -- the number of a network with a tag stays
  carried : (i : Ident) → tagged before i ≡ true → Carried nets nets_now i
  carried i here =
      let port =
      any_numbered (here_on before i) ports seen.ports_rise
      (ap (list_any (here_on before i)) seen.ports_are ∙ here) in
      let parts = and_both (ident_eq i port.1.network) (is_here before host port.1) port.3 in
      let there : is_some (network_with before i) ≡ true =
      subst (λ j. is_some (network_with before j) ≡ true)
      (sym (ident_same i port.1.network parts.0)) (stood port.0 port.1 port.2) in
      by (network_with before i) refl there
    where
      with_tag : (k : ℕ) (w : NetworkRow) → row_at nat_lt k nets ≡ Some w → i ≡ w.id
          → (o : Option NetworkRow) → row_at nat_lt k nets_now ≡ o → CarriesOn w o
          → Carried nets nets_now i
      with_tag k w at its None e c = absurd c
      with_tag k w at its (Some v) e c = record {
        number = k;
        old = w;
        new = v;
        was = at;
        is = e;
        its = its;
        same = c.0;
        on = c.2;
      }

      go : (k : ℕ) (w : NetworkRow) → row_at nat_lt k nets ≡ Some w → i ≡ w.id
          → (row_at nat_lt k nets_now ≡ Some w)
          ⊎ TaggedStays before after old w (row_at nat_lt k nets_now)
          → Carried nets nets_now i
      go k w at its (inl e) = record {
        number = k;
        old = w;
        new = w;
        was = at;
        is = e;
        its = its;
        same = refl;
        on = refl;
      }
      go k w at its (inr s) =
          with_tag k w at its (row_at nat_lt k nets_now) refl
          (s.tagged (subst (HasTag old) its (here_is_tag i k w at its here)))

      by : (o : Option NetworkRow) → network_with before i ≡ o → is_some o ≡ true
          → Carried nets nets_now i
      by None e there = false_true _ there
      by (Some w) e there = let n = numbered i w e in go n.0 w n.1 n.2 (becomes n.0 w n.1)

  -- what has this number after the change has a tag if it had one before
  abbrev id_here : NetworkRow → Option Ident
  id_here n = if tagged before n.id then Some n.id else None

  here_is : (n : NetworkRow) → tagged before n.id ≡ true → id_here n ≡ Some n.id
  here_is n here = ap (λ b. if b then Some n.id else None) here

  away_is : (n : NetworkRow) → tagged before n.id ≡ false → id_here n ≡ None
  away_is n away = ap (λ b. if b then Some n.id else None) away

  -- a network with a tag afterwards stood at this number
  stood_at : (k : ℕ) (v : NetworkRow) → row_at nat_lt k nets_now ≡ Some v
      → tagged before v.id ≡ true
      → option_and_then id_here (row_at nat_lt k nets) ≡ Some v.id
  stood_at k v now here =
      let n = carried v.id here in
      let one : k ≡ n.number =
      one_number (is_id v.id) nets_now (one_after v.id) k n.number v n.new now n.is
      (ident_itself v.id) (is_its v.id n.new.id (n.its ∙ n.same)) in
      ap (λ m. option_and_then id_here (row_at nat_lt m nets)) one
      ∙ ap (option_and_then id_here) n.was
      ∙ here_is n.old (subst (λ j. tagged before j ≡ true) n.its here)
      ∙ ap Some (sym n.its)

  -- and one with a tag before is there afterwards
  stands_at : (k : ℕ) (w : NetworkRow) → row_at nat_lt k nets ≡ Some w
      → tagged before w.id ≡ true
      → option_and_then id_here (row_at nat_lt k nets_now) ≡ Some w.id
  stands_at k w was here =
      let n = carried w.id here in
      let same : w.id ≡ n.new.id = n.its ∙ n.same in
      let one : k ≡ n.number =
      one_number (is_id w.id) nets (one_before w.id) k n.number w n.old was n.was
      (ident_itself w.id) (is_its w.id n.old.id n.its) in
      ap (λ m. option_and_then id_here (row_at nat_lt m nets_now)) one
      ∙ ap (option_and_then id_here) n.is
      ∙ here_is n.new (subst (λ j. tagged before j ≡ true) same here)
      ∙ ap Some (sym same)

  same_at : (k : ℕ) → option_and_then id_here (row_at nat_lt k nets)
      ≡ option_and_then id_here (row_at nat_lt k nets_now)
  same_at k = go (row_at nat_lt k nets) (row_at nat_lt k nets_now) refl refl
    where
      -- where nothing with a tag stood, nothing with one stands
      none : (q : Option NetworkRow) → row_at nat_lt k nets_now ≡ q
          → option_and_then id_here (row_at nat_lt k nets) ≡ None
          → option_and_then id_here q ≡ None
      none None now away = refl
      none (Some v) now away =
          by_test (tagged before v.id) (id_here v ≡ None)
          (λ here. none_some v.id _ (sym away ∙ stood_at k v now here)) (away_is v)

      go : (o q : Option NetworkRow) → row_at nat_lt k nets ≡ o → row_at nat_lt k nets_now ≡ q
          → option_and_then id_here (row_at nat_lt k nets)
          ≡ option_and_then id_here (row_at nat_lt k nets_now)
      go None q was now =
          let away : option_and_then id_here (row_at nat_lt k nets) ≡ None =
          ap (option_and_then id_here) was in
          away ∙ sym (ap (option_and_then id_here) now ∙ none q now away)
      go (Some w) q was now =
          by_test (tagged before w.id)
          (option_and_then id_here (row_at nat_lt k nets)
          ≡ option_and_then id_here (row_at nat_lt k nets_now))
          (λ here. ap (option_and_then id_here) was ∙ here_is w here
          ∙ sym (stands_at k w was here))
          (λ off.
          let away : option_and_then id_here (row_at nat_lt k nets) ≡ None =
          ap (option_and_then id_here) was ∙ away_is w off in
          away ∙ sym (ap (option_and_then id_here) now ∙ none q now away))

  -- so the same networks have tags, in the same order
  networks_same : tagged_networks after host ≡ map (λ (t : TagRow). t.network) old
  unfolding tagged_networks
  networks_same =
      ids_kept (is_tagged after host) after.networks
      ∙ (λ j. filter_map
      (λ (n : NetworkRow). if sym (tagged_same n.id) j then Some n.id else None)
      (sym seen.nets_now_are j))
      ∙ sym (keyed_rows nat_lt number_order id_here nets_now)
      ∙ ap plain
      (sym (same_entries nat_lt number_order (rows_by_key nat_lt id_here nets)
      (rows_by_key nat_lt id_here nets_now)
      (keyed_rises nat_lt number_order id_here nets seen.nets_rise)
      (keyed_rises nat_lt number_order id_here nets_now seen.nets_now_rise)
      (λ k. at_keyed nat_lt number_order id_here k nets seen.nets_rise ∙ same_at k
      ∙ sym (at_keyed nat_lt number_order id_here k nets_now seen.nets_now_rise))))
      ∙ keyed_rows nat_lt number_order id_here nets
      ∙ ap (filter_map id_here) seen.nets_are
      ∙ sym (ids_kept (is_tagged before host) before.networks)
      ∙ sym real.networks

  -- and the same wires
  segment_same : (i : Ident) → tagged before i ≡ true → segment before i ≡ segment after i
  unfolding segment
  segment_same i here =
      let n = carried i here in
      let was : network_with before i ≡ Some n.old =
      ap (find (is_id i)) (sym seen.nets_are)
      ∙ found_at (is_id i) nets (one_before i) n.number n.old n.was (is_its i n.old.id n.its) in
      ap segment_of was ∙ n.on
      ∙ ap segment_of (sym (found_now i n.number n.new n.is (n.its ∙ n.same)))

  all_stand : (ns : List NetworkRow) → AllStand after old (filter_map (tag_row_of old) ns)
  all_stand [] = tt
  all_stand (w ∷ ns) = go (tag_row_of old w) refl (all_stand ns)
    where
      go : (o : Option TagRow) → tag_row_of old w ≡ o
          → AllStand after old (filter_map (tag_row_of old) ns)
          → AllStand after old (cons_option o (filter_map (tag_row_of old) ns))
      go None e rest = rest
      go (Some t) e rest =
          let its : w.id ≡ t.network = its_network old w t e in
          let tag : tag_of old t.network ≡ Some t.tag =
          ap (tag_of old) (sym its) ∙ ap (option_map (λ (u : TagRow). u.tag)) e in
          let stood : TagStands before t =
          find-each (TagStands before) (λ (u : TagRow). ident_eq w.id u.network) old t
          (all-of (TagStands before) old real.stand) e in (
            tag,
            stood.wire
                ∙ ap wire_of (segment_same t.network (tag_is_here t.network (ap is_some tag))),
            rest,
          )

  are_kept : new_tags after host old ≡ old
  are_kept =
      tags_stay after host old networks_same
      (subst (AllStand after old) (tags_found before host old good real)
      (all_stand before.networks))

-- ---- by the numbers of a change

-- at each number of a network, and of a port, nothing changes, or the tags stay by what becomes of
-- the row there
abbrev pub NetworksStay : RowLists → RowLists → List TagRow → Renumbered NetworkRow → Type 0
NetworksStay before after old n =
    (k : ℕ) → (at_before n k ≡ at_after n k)
    ⊎ NetworkStays before after old (at_before n k) (at_after n k)

abbrev pub PortsStay : RowLists → RowLists → List ℕ → List TagRow → Renumbered PortRow → Type 0
PortsStay before after host old n =
    (k : ℕ) → (at_before n k ≡ at_after n k)
    ⊎ PortStays before after host old (at_before n k) (at_after n k)

module _ (before after : RowLists) (items : List Item) (leads_on : LeadsOn before items after)
    (host : List ℕ) (old : List TagRow) (real : RealisesTags before host old) where
  abbrev networks : Renumbered NetworkRow
  networks = record { rows = before.networks; items = row_items Network network_of items }

  abbrev ports : Renumbered PortRow
  ports = record { rows = before.ports; items = row_items Port port_of items }

  seen_by : Seen before after (with_numbers 0 networks.rows)
      (numbered_after networks.rows networks.items) (with_numbers 0 ports.rows)
      (numbered_after ports.rows ports.items)
  seen_by = record {
    nets_rise = numbered_rises 0 networks.rows;
    nets_now_rise = after_rises networks.rows networks.items;
    ports_rise = numbered_rises 0 ports.rows;
    ports_now_rise = after_rises ports.rows ports.items;
    nets_are = plain_numbered 0 networks.rows;
    nets_now_are =
        after_plain networks.rows networks.items
        ∙ sym (networks_after before items)
        ∙ ap (λ (r : RowLists). r.networks) (sym leads_on.leads);
    ports_are = plain_numbered 0 ports.rows;
    ports_now_are =
        after_plain ports.rows ports.items
        ∙ sym (ports_after before items)
        ∙ ap (λ (r : RowLists). r.ports) (sym leads_on.leads);
  }

  pub tags_are_kept : (of_networks : Renumbered NetworkRow) (of_ports : Renumbered PortRow)
      → of_networks ≡ record { rows = before.networks; items = row_items Network network_of items }
      → of_ports ≡ record { rows = before.ports; items = row_items Port port_of items }
      → NetworksStay before after old of_networks → PortsStay before after host old of_ports
      → new_tags after host old ≡ old
  tags_are_kept of_networks of_ports is_networks is_ports networks_stay ports_stay =
      are_kept before after leads_on.consistent leads_on.stays_consistent host old real
      (with_numbers 0 networks.rows) (numbered_after networks.rows networks.items)
      (with_numbers 0 ports.rows) (numbered_after ports.rows ports.items) seen_by
      (subst (NetworksStay before after old) is_networks networks_stay)
      (subst (PortsStay before after host old) is_ports ports_stay)
