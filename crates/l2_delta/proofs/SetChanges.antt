-- At other keys than those that are told the sets stay, and at these stands what is told.
use Rattle.std.proofs.Common.{◌≡◌, ◌∙◌, inl, inr, ℕ, List, [], ◌∷◌, ◌++◌, map, slice_get, Option, Some, None, Bool, true, false, cond, refl, sym, ap}
use Rattle.std.specs.Prelude.{◌&&◌, ◌||◌, if◌then◌else◌, flat_map, nat_lt, option_map}
use Rattle.std.specs.List.{filter}
use Rattle.net_addr.specs.Ordered.{whole_prefix}
use Rattle.net_addr.specs.Prefixes.{Prefix}
use Rattle.api_types.specs.Ascending.{prefix_before}
use Rattle.api_types.specs.Ident.{Ident}
use Rattle.api_types.specs.Members.{names_group, prefixes_of}
use Rattle.api_types.specs.Parts.{group_of, port_of}
use Rattle.api_types.specs.RowLists.{RowLists}
use Rattle.api_types.specs.Rows.{after}
use Rattle.api_types.specs.Table.{HaveOwnIds, ident_eq}
use Rattle.api_types.specs.declared.change.Item.{Item}
use Rattle.api_types.specs.declared.group.GroupRow.{GroupRow}
use Rattle.api_types.specs.declared.kind.Kind.TheVariants.{Group, Port}
use Rattle.api_types.specs.declared.port.Fixed.{Fixed}
use Rattle.api_types.specs.declared.port.Pair.{Pair}
use Rattle.api_types.specs.declared.port.PortRow.{PortRow}
use Rattle.api_types.proofs.ListLemmas.{and_both, false_true, or_none, or_true}
use Rattle.api_types.proofs.NameLemmas.{by_test, ident_same}
use Rattle.plane_laws.proofs.ListLemmas.{list_any-map}
use Rattle.plane_types.specs.Edits.{edit_at}
use Rattle.plane_types.specs.Keyed.{IsTotal, are_one, row_at}
use Rattle.plane_types.specs.KeyedTables.{SetKey, keyed_sets, set_order}
use Rattle.plane_types.specs.NumberedRows.{numbered_rows, numbered_rows_after, row_items}
use Rattle.plane_types.specs.TableRows.{filter_rows, names_remote, set_rows}
use Rattle.plane_types.specs.declared.delta.Edit.{Edit}
use Rattle.plane_types.specs.declared.table.FilterRow.{FilterRow}
use Rattle.plane_types.specs.declared.table.SetRow.{SetRow}
use Rattle.plane_types.proofs.KeyedLemmas.{apart_first, apart_second, one_both, one_itself, three_ways}
use Rattle.plane_types.proofs.KeyedTablesLemmas.{sets-rows, unkeyed}
use Rattle.plane_types.proofs.NumberedLemmas.{after_rises, number_order, numbered_rises, plain_numbered}
use Rattle.plane_types.proofs.PairLemmas.{alike, pair_first, pair_total}
use Rattle.plane_types.proofs.StayLemmas.{ports_after}
use Rattle.table_edits.specs.EditsAt.{AreEditsAt, among}
use Rattle.table_edits.specs.KeyOrders.{prefix_order}
use Rattle.table_edits.specs.NumbersSeen.{Renumbered, at_after}
use Rattle.table_edits.proofs.NumberPlaces.{own_place}
use Rattle.l2_delta.specs.SetKeys.{given_to, is_given, is_named, is_remote, keys_at, may_go, named_by, prefixes_in, to_stand}
use Rattle.l2_delta.specs.TouchedSets.{AreTouched, any_names}
use Rattle.l2_delta.proofs.SetPorts.{AreChanged, among_append, given_after, given_stays, place_at}
use Rattle.l2_delta.proofs.SetRows.{listed, member_row, set_found, stand_row}
use Rattle.l2_delta.proofs.SourceLaw.{one_is}

-- ---- keys by numbers

pub total : IsTotal set_order
total = pair_total nat_lt prefix_before number_order prefix_order

one_pair : (n m : ℕ) (p q : Prefix) → are_one set_order (n, p) (m, q) ≡ are_one nat_lt n m && are_one prefix_before p q
one_pair n m p q = three_ways nat_lt number_order n m (are_one set_order (n, p) (m, q) ≡ are_one nat_lt n m && are_one prefix_before p q)
    (λ e. apart_first set_order total (n, p) (m, q) (pair_first nat_lt prefix_before number_order prefix_order (n, p) (m, q) e) ∙ sym (ap (λ b. b && are_one prefix_before p q) (apart_first nat_lt number_order n m e)))
    (λ e. apart_second set_order total (n, p) (m, q) (pair_first nat_lt prefix_before number_order prefix_order (m, q) (n, p) e) ∙ sym (ap (λ b. b && are_one prefix_before p q) (apart_second nat_lt number_order n m e)))
    (λ e f. alike nat_lt prefix_before number_order prefix_order (n, p) (m, q) e f ∙ sym (ap (λ b. b && are_one prefix_before p q) (one_both nat_lt number_order n m e f)))

and_none : (a : Bool) → false ≡ a && false
and_none true = refl
and_none false = refl

and_or : (a b c : Bool) → (a && b) || (a && c) ≡ a && (b || c)
and_or true b c = refl
and_or false b c = refl

at_keys : (n m : ℕ) (p : Prefix) (ps : List Prefix) → among set_order (n, p) (keys_at m ps) ≡ are_one nat_lt n m && among prefix_before p ps
at_keys n m p [] = and_none (are_one nat_lt n m)
at_keys n m p (q ∷ qs) = (λ j. one_pair n m p q j || at_keys n m p qs j) ∙ and_or (are_one nat_lt n m) (are_one prefix_before p q) (among prefix_before p qs)

joined : (a b c d : Bool) → (a ≡ true → c ≡ d) → (a && c) || (b && d) ≡ (a || b) && d
joined false b c d h = refl
joined true b c d h = ap (λ x. x || (b && d)) (h refl) ∙ absorbs b d
  where
    absorbs : (b d : Bool) → d || (b && d) ≡ d
    absorbs b true = refl
    absorbs true false = refl
    absorbs false false = refl

pub among_keys : (f : ℕ → List Prefix) (ns : List ℕ) (n : ℕ) (p : Prefix) → among set_order (n, p) (flat_map (λ m. keys_at m (f m)) ns) ≡ among nat_lt n ns && among prefix_before p (f n)
among_keys f [] n p = refl
among_keys f (m ∷ ms) n p =
    among_append set_order (n, p) (keys_at m (f m)) (flat_map (λ m. keys_at m (f m)) ms)
    ∙ (λ j. at_keys n m p (f m) j || among_keys f ms n p j)
    ∙ joined (are_one nat_lt n m) (among nat_lt n ms) (among prefix_before p (f m)) (among prefix_before p (f n))
    (λ one. ap (λ k. among prefix_before p (f k)) (sym (one_is nat_lt number_order n m one)))

-- the same edits, where at these keys the same is to stand
pub edits_alike : {K R : Type 0} (before : K → K → Bool) (order : IsTotal before) (xs : List (K × R)) (f g : K → Option R) (ks : List K) (es : List (Edit R)) → ((k : K) → among before k ks ≡ true → f k ≡ g k) → AreEditsAt before xs f ks es → AreEditsAt before xs g ks es
edits_alike before order xs f g [] es same are = are
edits_alike {K} {R} before order xs f g (k ∷ ks) es same are = go (λ rest_es h. edits_alike before order xs f g ks rest_es rest h) are
  where
    here : f k ≡ g k
    here = same k (ap (λ b. b || among before k ks) (one_itself before order k))

    rest : (q : K) → among before q ks ≡ true → f q ≡ g q
    rest q there = same q (ap (λ b. are_one before q k || b) there ∙ or_true (are_one before q k))

    go : ((more : List (Edit R)) → AreEditsAt before xs f ks more → AreEditsAt before xs g ks more) → AreEditsAt before xs f (k ∷ ks) es → AreEditsAt before xs g (k ∷ ks) es
    go later (inl h) = inl (h.0 ∙ here, later es h.1)
    go later (inr h) = inr (
      (λ e. h.0 (e ∙ sym here)),
      (h.1.0, h.1.1 ∙ ap (λ o. edit_at before xs (k, o) ∷ h.1.0) here, later h.1.0 h.1.2),
    )

-- ---- what is kept of prefixes

among_filter : (p : Prefix) (test : Prefix → Bool) (qs : List Prefix) → among prefix_before p (filter test qs) ≡ among prefix_before p qs && test p
among_filter p test [] = refl
among_filter p test (q ∷ qs) = go (test q) refl (among_filter p test qs)
  where
    left : List Prefix
    left = filter test qs

    there : Bool
    there = among prefix_before p qs

    here : are_one prefix_before p q ≡ true → test p ≡ test q
    here one = ap test (one_is prefix_before prefix_order p q one)

    go : (b : Bool) → test q ≡ b → among prefix_before p left ≡ there && test p → among prefix_before p (cond b (q ∷ left) left) ≡ (are_one prefix_before p q || there) && test p
    go true e rest = by_test (are_one prefix_before p q) (are_one prefix_before p q || among prefix_before p left ≡ (are_one prefix_before p q || there) && test p)
        (λ one. ap (λ b. b || among prefix_before p left) one ∙ sym (ap (λ b. (b || there) && test p) one ∙ (here one ∙ e)))
        (λ off. ap (λ b. b || among prefix_before p left) off ∙ (rest ∙ sym (ap (λ b. (b || there) && test p) off)))
    go false e rest = by_test (are_one prefix_before p q) (among prefix_before p left ≡ (are_one prefix_before p q || there) && test p)
        (λ one. rest ∙ (ap (λ b. there && b) (here one ∙ e) ∙ (sym (and_none there) ∙ sym (ap (λ b. (b || there) && test p) one ∙ (here one ∙ e)))))
        (λ off. rest ∙ sym (ap (λ b. (b || there) && test p) off))

-- a port that doesn't name a group gives nothing to it
gives_none : (p : Prefix) (g : Ident) (ports : List PortRow) → any_names ports g ≡ false → among prefix_before p (flat_map (prefixes_of g) ports) ≡ false
gives_none p g [] h = refl
gives_none p g (x ∷ ports) h =
    let off = or_none (names_group g x.groups) (any_names ports g) h in
    ap (λ b. among prefix_before p ((if b then map (λ (f : Fixed). whole_prefix f.address) x.fixed ++ map (λ (y : Pair). y.prefix) x.pairs else []) ++ flat_map (prefixes_of g) ports)) off.0
    ∙ gives_none p g ports off.1

absent : (ports : List PortRow) (p : Prefix) (w : Option Ident) → is_given ports w p ≡ false → stand_row ports p w ≡ None
absent ports p None h = refl
absent ports p (Some g) h = ap (λ b. if b then Some (member_row g p) else None) h

remote_named : (filters : List FilterRow) (g : Ident) → is_remote (map (λ (r : FilterRow). r.remote_group) filters) g ≡ is_named filters g
remote_named filters g = list_any-map (names_remote g) (λ (r : FilterRow). r.remote_group) filters

module _ (rows : RowLists) (items : List Item) (host : List ℕ) (sets : List SetRow) (sets_are : sets ≡ set_rows rows (filter_rows rows host))
    (were are : List PortRow) (changed : AreChanged (record { rows = rows.ports; items = row_items Port port_of items }) were are)
    (own : HaveOwnIds (λ (g : GroupRow). g.id) rows.groups) (remotes : List (Option Ident)) (remotes_are : remotes ≡ map (λ (r : FilterRow). r.remote_group) (filter_rows (after rows items) host)) (numbers : List ℕ)
    (touched : AreTouched (record { rows = rows.groups; items = row_items Group group_of items }) were are (map (λ (r : FilterRow). r.remote_group) (filter_rows rows host)) remotes numbers) where
  abbrev ports_now : List PortRow
  ports_now = (after rows items).ports

  abbrev groups : Renumbered GroupRow
  groups = record { rows = rows.groups; items = row_items Group group_of items }

  abbrev pub was : ℕ → Option Ident
  was n = named_by (is_named (filter_rows rows host)) (slice_get rows.groups n)

  abbrev pub is : ℕ → Option Ident
  is n = named_by (is_remote remotes) (at_after groups n)

  abbrev old : List (SetKey × SetRow)
  old = keyed_sets (numbered_rows rows) host

  abbrev new : List (SetKey × SetRow)
  new = keyed_sets (numbered_rows_after rows items) host

  old_row : (n : ℕ) (p : Prefix) → row_at set_order (n, p) old ≡ stand_row rows.ports p (was n)
  old_row n p =
      set_found (numbered_rows rows) host (numbered_rises 0 rows.groups) n p
      ∙ ap (λ o. stand_row rows.ports p (named_by (is_named (filter_rows rows host)) o)) (place_at rows.groups n)

  new_row : (n : ℕ) (p : Prefix) → row_at set_order (n, p) new ≡ stand_row ports_now p (is n)
  new_row n p =
      let named : (g : Ident) → is_named (filter_rows (after rows items) host) g ≡ is_remote remotes g = λ g. sym (ap (λ rs. is_remote rs g) remotes_are ∙ remote_named (filter_rows (after rows items) host) g) in
      set_found (numbered_rows_after rows items) host (after_rises rows.groups (row_items Group group_of items)) n p
      ∙ (λ j. stand_row ports_now p (named_by (λ g. named g j) (at_after groups n)))

  given_same : (g : Ident) (p : Prefix) → is_given were (Some g) p ≡ false → is_given are (Some g) p ≡ false → is_given rows.ports (Some g) p ≡ is_given ports_now (Some g) p
  given_same g p off off_now =
      given_stays rows.ports (row_items Port port_of items) were are changed g p off off_now ∙ ap (λ ports. is_given ports (Some g) p) (sym (ports_after rows items))

  -- ---- at a number that isn't touched
  untouched : (n : ℕ) (p : Prefix) → among nat_lt n numbers ≡ false → stand_row rows.ports p (was n) ≡ stand_row ports_now p (is n)
  untouched n p away =
      go (slice_get rows.groups n) refl
      ∙ ap (λ o. stand_row ports_now p (named_by (is_remote remotes) o)) (sym (place_at rows.groups n) ∙ touched.stay n away)
    where
      branch : (g : Ident) → is_given rows.ports (Some g) p ≡ is_given ports_now (Some g) p → (b : Bool) → stand_row rows.ports p (if b then Some g else None) ≡ stand_row ports_now p (if b then Some g else None)
      branch g same true = ap (λ b. if b then Some (member_row g p) else None) same
      branch g same false = refl

      go : (o : Option GroupRow) → slice_get rows.groups n ≡ o → stand_row rows.ports p (named_by (is_named (filter_rows rows host)) o) ≡ stand_row ports_now p (named_by (is_remote remotes) o)
      go None e = refl
      go (Some g) e =
          let its = own_place (λ (g : GroupRow). g.id) rows.groups n g own e in
          let named : is_named (filter_rows rows host) g.id ≡ is_remote remotes g.id = sym (remote_named (filter_rows rows host) g.id) ∙ touched.alike n g.id away its in
          ap (λ b. stand_row rows.ports p (if b then Some g.id else None)) named
          ∙ branch g.id (given_same g.id p (gives_none p g.id were (touched.unnamed n g.id away its)) (gives_none p g.id are (touched.unnamed_after n g.id away its))) (is_remote remotes g.id)

  -- ---- at one that is, but not at these prefixes
  abbrev goes_at : ℕ → List Prefix
  goes_at n = may_go sets were (was n) (is n)

  abbrev stands_at : ℕ → List Prefix
  stands_at n = to_stand ports_now were are (was n) (is n)

  in_table : (n : ℕ) (p : Prefix) (g : Ident) → was n ≡ Some g → stand_row rows.ports p (Some g) ≡ Some (member_row g p) → among prefix_before p (prefixes_in sets (Some g)) ≡ true
  in_table n p g e stands =
      let all : unkeyed old ≡ sets = sets-rows (numbered_rows rows) host [] (plain_numbered 0 rows.groups) ∙ sym sets_are in
      ap (λ rs. among prefix_before p (prefixes_in rs (Some g))) (sym all)
      ∙ listed (n, p) old g p (old_row n p ∙ (ap (stand_row rows.ports p) e ∙ stands))

  abbrev InTable : Prefix → Option Ident → Type 0
  InTable p o = (g : Ident) → o ≡ Some g → stand_row rows.ports p (Some g) ≡ Some (member_row g p) → among prefix_before p (prefixes_in sets (Some g)) ≡ true

  other_prefix : (n : ℕ) (p : Prefix) → among prefix_before p (goes_at n) ≡ false → among prefix_before p (stands_at n) ≡ false → stand_row rows.ports p (was n) ≡ stand_row ports_now p (is n)
  other_prefix n p = go (was n) (is n) (in_table n p)
    where
      gone : (g : Ident) → InTable p (Some g) → among prefix_before p (prefixes_in sets (Some g)) ≡ false → stand_row rows.ports p (Some g) ≡ None
      gone g table off = by_test (is_given rows.ports (Some g) p) (stand_row rows.ports p (Some g) ≡ None)
          (λ given. false_true _ (sym off ∙ table g refl (ap (λ b. if b then Some (member_row g p) else None) given)))
          (λ none. absent rows.ports p (Some g) none)

      by : (g h : Ident) → InTable p (Some g) → (b : Bool) → ident_eq g h ≡ b → among prefix_before p (if b then given_to were (Some h) else prefixes_in sets (Some g)) ≡ false
          → among prefix_before p (if b then given_to are (Some h) ++ filter (λ q. is_given are (Some h) q || is_given ports_now (Some h) q) (given_to were (Some h)) else given_to ports_now (Some h)) ≡ false
          → stand_row rows.ports p (Some g) ≡ stand_row ports_now p (Some h)
      by g h table false e off off_now = gone g table off ∙ sym (absent ports_now p (Some h) off_now)
      by g h table true e off off_now =
          let kept = filter (λ q. is_given are (Some h) q || is_given ports_now (Some h) q) (given_to were (Some h)) in
          let none = (or_none (is_given are (Some h) p) (among prefix_before p kept) (sym (among_append prefix_before p (given_to are (Some h)) kept) ∙ off_now)).0 in
          ap (λ i. stand_row rows.ports p (Some i)) (ident_same g h e) ∙ ap (λ b. if b then Some (member_row h p) else None) (given_same h p off none)

      go : (o w : Option Ident) → InTable p o → among prefix_before p (may_go sets were o w) ≡ false → among prefix_before p (to_stand ports_now were are o w) ≡ false → stand_row rows.ports p o ≡ stand_row ports_now p w
      go None w table off off_now = sym (absent ports_now p w off_now)
      go (Some g) None table off off_now = gone g table off
      go (Some g) (Some h) table off off_now = by g h table (ident_eq g h) refl off off_now

  -- ---- and at these
  stands_right : (n : ℕ) (p : Prefix) → among prefix_before p (goes_at n) || among prefix_before p (stands_at n) ≡ true → among prefix_before p (stands_at n) ≡ is_given ports_now (is n) p
  stands_right n p = go (was n) (is n)
    where
      by : (g h : Ident) → (b : Bool) → among prefix_before p (if b then given_to were (Some h) else prefixes_in sets (Some g))
          || among prefix_before p (if b then given_to are (Some h) ++ filter (λ q. is_given are (Some h) q || is_given ports_now (Some h) q) (given_to were (Some h)) else given_to ports_now (Some h)) ≡ true
          → among prefix_before p (if b then given_to are (Some h) ++ filter (λ q. is_given are (Some h) q || is_given ports_now (Some h) q) (given_to were (Some h)) else given_to ports_now (Some h)) ≡ is_given ports_now (Some h) p
      by g h false there = refl
      by g h true there =
          let test : Prefix → Bool = λ q. is_given are (Some h) q || is_given ports_now (Some h) q in
          let first = is_given are (Some h) p in
          let kept = filter test (given_to were (Some h)) in
          let both : among prefix_before p (given_to are (Some h) ++ kept) ≡ first || (is_given were (Some h) p && test p) =
          among_append prefix_before p (given_to are (Some h)) kept ∙ ap (λ b. first || b) (among_filter p test (given_to were (Some h))) in
          both ∙ one first (is_given were (Some h) p) (is_given ports_now (Some h) p) (λ given. ap (λ ports. is_given ports (Some h) p) (ports_after rows items) ∙ given_after rows.ports (row_items Port port_of items) were are changed h p given)
          (sym (ap (λ b. is_given were (Some h) p || b) both) ∙ there)
        where
          one : (a w m : Bool) → (a ≡ true → m ≡ true) → w || (a || (w && (a || m))) ≡ true → a || (w && (a || m)) ≡ m
          one true w m stays h = sym (stays refl)
          one false true m stays h = refl
          one false false m stays h = false_true _ h

      go : (o w : Option Ident) → among prefix_before p (may_go sets were o w) || among prefix_before p (to_stand ports_now were are o w) ≡ true → among prefix_before p (to_stand ports_now were are o w) ≡ is_given ports_now w p
      go None w there = refl
      go (Some g) None there = refl
      go (Some g) (Some h) there = by g h (ident_eq g h) there

  -- the row of a group with this number, where a test says that one is to stand
  abbrev pub told_row : Bool → ℕ → Prefix → Option SetRow
  told_row b n p = if b then option_map (λ (g : GroupRow). member_row g.id p) (at_after groups n) else None

  told_is : (n : ℕ) (p : Prefix) (b : Bool) → b ≡ is_given ports_now (is n) p → told_row b n p ≡ stand_row ports_now p (is n)
  told_is n p b = go (at_after groups n)
    where
      by : (g : GroupRow) (c : Bool) → b ≡ is_given ports_now (if c then Some g.id else None) p → (if b then Some (member_row g.id p) else None) ≡ stand_row ports_now p (if c then Some g.id else None)
      by g true e = ap (λ b. if b then Some (member_row g.id p) else None) e
      by g false e = ap (λ b. if b then Some (member_row g.id p) else None) e

      go : (o : Option GroupRow) → b ≡ is_given ports_now (named_by (is_remote remotes) o) p → (if b then option_map (λ (g : GroupRow). member_row g.id p) o else None) ≡ stand_row ports_now p (named_by (is_remote remotes) o)
      go None e = ap (λ b. if b then option_map (λ (g : GroupRow). member_row g.id p) None else None) e
      go (Some g) e = by g (is_remote remotes g.id) e

  -- ---- all keys
  abbrev pub goes : List SetKey
  goes = flat_map (λ n. keys_at n (goes_at n)) numbers

  abbrev pub stands : List SetKey
  stands = flat_map (λ n. keys_at n (stands_at n)) numbers

  module _ (ks put : List SetKey) (ks_are : (q : SetKey) → among set_order q ks ≡ among set_order q (goes ++ stands)) (put_are : (q : SetKey) → among set_order q put ≡ among set_order q stands) where
    among_ks : (n : ℕ) (p : Prefix) → among set_order (n, p) ks ≡ among nat_lt n numbers && (among prefix_before p (goes_at n) || among prefix_before p (stands_at n))
    among_ks n p =
        ks_are (n, p) ∙ among_append set_order (n, p) goes stands
        ∙ (λ j. among_keys goes_at numbers n p j || among_keys stands_at numbers n p j)
        ∙ and_or (among nat_lt n numbers) (among prefix_before p (goes_at n)) (among prefix_before p (stands_at n))

    pub same_elsewhere : (k : SetKey) → among set_order k ks ≡ false → row_at set_order k old ≡ row_at set_order k new
    same_elsewhere k away =
        let n = k.0 in
        let p = k.1 in
        let off = sym (among_ks n p) ∙ away in
        let either = among prefix_before p (goes_at n) || among prefix_before p (stands_at n) in
        let middle : stand_row rows.ports p (was n) ≡ stand_row ports_now p (is n) = by_test (among nat_lt n numbers) (stand_row rows.ports p (was n) ≡ stand_row ports_now p (is n))
        (λ there. let none = or_none (among prefix_before p (goes_at n)) (among prefix_before p (stands_at n)) (sym (ap (λ b. b && either) there) ∙ off) in other_prefix n p none.0 none.1)
        (λ not_there. untouched n p not_there) in
        old_row n p ∙ middle ∙ sym (new_row n p)

    pub told_right : (k : SetKey) → among set_order k ks ≡ true → told_row (among set_order k put) k.0 k.1 ≡ row_at set_order k new
    told_right k there =
        let n = k.0 in
        let p = k.1 in
        let both = and_both (among nat_lt n numbers) (among prefix_before p (goes_at n) || among prefix_before p (stands_at n)) (sym (among_ks n p) ∙ there) in
        let stands_there : among set_order k put ≡ among prefix_before p (stands_at n) = put_are k ∙ among_keys stands_at numbers n p ∙ ap (λ b. b && among prefix_before p (stands_at n)) both.0 in
        told_is n p (among set_order k put) (stands_there ∙ stands_right n p both.1) ∙ sym (new_row n p)
