-- What stands at a key of the sets: the row of a group that filters name, if a port gives the prefix.
use Rattle.std.proofs.Common.{◌≡◌, ◌∙◌, ℕ, suc, ◌+◌, List, [], ◌∷◌, ◌++◌, map, slice_get, Option, Some, None, Bool, true, false, true≢false, refl, sym, ap, subst, arith}
use Rattle.std.specs.Prelude.{◌||◌, ◌==◌, if◌then◌else◌, flat_map, nat_lt, option_and_then, option_map}
use Rattle.std.specs.List.{cons_option, filter_map, list_any}
use Rattle.std.proofs.lemmas.Bool.{and_parts, eqb-true}
use Rattle.net_addr.specs.Addresses.{addr_eq}
use Rattle.net_addr.specs.Prefixes.{Prefix}
use Rattle.net_addr.proofs.AddrLemmas.{addr_same}
use Rattle.api_types.specs.Ascending.{prefix_before}
use Rattle.api_types.specs.Consistent.Groups.{prefix_eq}
use Rattle.api_types.specs.Ident.{Ident}
use Rattle.api_types.specs.Members.{members, once, prefixes_of}
use Rattle.api_types.specs.RowLists.{RowLists}
use Rattle.api_types.specs.Table.{HaveOwnIds}
use Rattle.api_types.specs.declared.group.GroupRow.{GroupRow}
use Rattle.api_types.specs.declared.port.PortRow.{PortRow}
use Rattle.api_types.proofs.ListLemmas.{none_some, or_none, or_true, some_equal}
use Rattle.api_types.proofs.NameLemmas.{by_test, ident_itself}
use Rattle.plane_types.specs.Keyed.{AreApart, Others, Rises, are_one, chunks, row_at, under, with_keys}
use Rattle.plane_types.specs.KeyedTables.{SetKey, group_sets, keyed_sets, set_order}
use Rattle.plane_types.specs.Numbered.{with_numbers}
use Rattle.plane_types.specs.NumberedRows.{NumberedRows}
use Rattle.plane_types.specs.TableRows.{filter_rows}
use Rattle.plane_types.specs.declared.table.SetRow.{SetRow}
use Rattle.plane_types.proofs.KeyedLemmas.{apart_first, apart_second, one_itself, three_ways}
use Rattle.plane_types.proofs.KeyedTablesLemmas.{unkeyed}
use Rattle.plane_types.proofs.MapLemmas.{sorted_at}
use Rattle.plane_types.proofs.NumberedLemmas.{number_order}
use Rattle.plane_types.proofs.PairLemmas.{at_flat}
use Rattle.table_edits.specs.EditsAt.{among}
use Rattle.table_edits.specs.KeyOrders.{prefix_itself, prefix_order}
use Rattle.table_edits.specs.Places.{HaveKeys}
use Rattle.table_edits.proofs.NumberPlaces.{own_place}
use Rattle.l2_delta.specs.SetKeys.{group_number, is_named, named_by, prefix_in, set_key}
use Rattle.l2_delta.proofs.SourceLaw.{one_is}

abbrev pub itself : Prefix → Prefix
itself p = p

-- ---- prefixes

prefix_same : (a b : Prefix) → prefix_eq a b ≡ true → a ≡ b
prefix_same a b h =
    let p = and_parts (addr_eq a.base b.base) (a.len == b.len) h in
    ap (λ x. record { base = x; len = a.len }) (addr_same a.base b.base p.0) ∙ ap (λ x. record { base = b.base; len = x }) (eqb-true a.len b.len p.1)

-- of different ones, one comes before the other
differ : (p q : Prefix) → prefix_eq p q ≡ false → (are_one prefix_before p q ≡ false) × (are_one prefix_before q p ≡ false)
differ p q h = three_ways prefix_before prefix_order p q ((are_one prefix_before p q ≡ false) × (are_one prefix_before q p ≡ false))
    (λ e. (apart_first prefix_before prefix_order p q e, apart_second prefix_before prefix_order q p e))
    (λ e. (apart_second prefix_before prefix_order p q e, apart_first prefix_before prefix_order q p e))
    (λ e f. absurd (true≢false (sym (prefix_itself p) ∙ (ap (prefix_eq p) (prefix_order.same p q e f) ∙ h))))

pub prefix_is : (p q : Prefix) → prefix_eq p q ≡ are_one prefix_before p q
prefix_is p q = by_test (prefix_eq p q) (prefix_eq p q ≡ are_one prefix_before p q)
    (λ same. same ∙ sym (ap (are_one prefix_before p) (sym (prefix_same p q same)) ∙ one_itself prefix_before prefix_order p))
    (λ off. off ∙ sym (differ p q off).0)

among_is : (p : Prefix) (ps : List Prefix) → list_any (prefix_eq p) ps ≡ among prefix_before p ps
among_is p [] = refl
among_is p (q ∷ qs) = λ j. prefix_is p q j || among_is p qs j

-- ---- each member once

others_once : (p : Prefix) (ps : List Prefix) → list_any (prefix_eq p) ps ≡ false → Others prefix_before p (map itself (once ps))
unfolding once
others_once p [] h = tt
others_once p (q ∷ ps) h = go (list_any (prefix_eq q) ps) (others_once p ps (or_none (prefix_eq p q) (list_any (prefix_eq p) ps) h).1)
  where
    go : (b : Bool) → Others prefix_before p (map itself (once ps)) → Others prefix_before p (map itself (if b then once ps else q ∷ once ps))
    go true rest = rest
    go false rest = ((differ p q (or_none (prefix_eq p q) (list_any (prefix_eq p) ps) h).0).1, rest)

pub once_apart : (ps : List Prefix) → AreApart prefix_before (map itself (once ps))
unfolding once
once_apart [] = tt
once_apart (p ∷ ps) = go (list_any (prefix_eq p) ps) refl (once_apart ps)
  where
    go : (b : Bool) → list_any (prefix_eq p) ps ≡ b → AreApart prefix_before (map itself (once ps)) → AreApart prefix_before (map itself (if b then once ps else p ∷ once ps))
    go true e rest = rest
    go false e rest = (others_once p ps e, rest)

abbrev if_among : Bool → Prefix → Option Prefix
if_among b p = if b then Some p else None

once_found : (p : Prefix) (ps : List Prefix) → row_at prefix_before p (with_keys itself (once ps)) ≡ if_among (among prefix_before p ps) p
unfolding once
once_found p [] = refl
once_found p (q ∷ qs) = go (list_any (prefix_eq q) qs) refl (once_found p qs)
  where
    again : list_any (prefix_eq q) qs ≡ true → among prefix_before p qs ≡ are_one prefix_before p q || among prefix_before p qs
    again e = by_test (are_one prefix_before p q) (among prefix_before p qs ≡ are_one prefix_before p q || among prefix_before p qs)
        (λ one. (ap (λ x. among prefix_before x qs) (one_is prefix_before prefix_order p q one) ∙ (sym (among_is q qs) ∙ e)) ∙ sym (ap (λ b. b || among prefix_before p qs) one))
        (λ off. sym (ap (λ b. b || among prefix_before p qs) off))

    go : (b : Bool) → list_any (prefix_eq q) qs ≡ b → row_at prefix_before p (with_keys itself (once qs)) ≡ if_among (among prefix_before p qs) p
        → row_at prefix_before p (with_keys itself (if b then once qs else q ∷ once qs)) ≡ if_among (are_one prefix_before p q || among prefix_before p qs) p
    go true e rest = rest ∙ ap (λ b. if_among b p) (again e)
    go false e rest = by_test (are_one prefix_before p q) (row_at prefix_before p (with_keys itself (q ∷ once qs)) ≡ if_among (are_one prefix_before p q || among prefix_before p qs) p)
        (λ one.
        ap (λ b. if b then Some q else row_at prefix_before p (with_keys itself (once qs))) one
        ∙ ap Some (sym (one_is prefix_before prefix_order p q one))
        ∙ sym (ap (λ b. if_among (b || among prefix_before p qs) p) one))
        (λ off.
        ap (λ b. if b then Some q else row_at prefix_before p (with_keys itself (once qs))) off
        ∙ rest
        ∙ sym (ap (λ b. if_among (b || among prefix_before p qs) p) off))

members_found : (rows : RowLists) (g : Ident) (p : Prefix) → row_at prefix_before p (with_keys itself (members rows g)) ≡ if_among (among prefix_before p (flat_map (prefixes_of g) rows.ports)) p
unfolding members
members_found rows g p =
    let given = flat_map (prefixes_of g) rows.ports in
    sorted_at prefix_before prefix_order itself p (once given) (once_apart given) ∙ once_found p given

-- ---- rows

abbrev pub member_row : Ident → Prefix → SetRow
member_row g p = record { group = g; prefix = p }

-- the row that stands at a prefix in the set of a group that is named
abbrev pub stand_row : List PortRow → Prefix → Option Ident → Option SetRow
stand_row ports p None = None
stand_row ports p (Some g) =
    if among prefix_before p (flat_map (prefixes_of g) ports) then Some (member_row g p) else None

in_rows : (g : Ident) (p : Prefix) (ps : List Prefix) → row_at prefix_before p (with_keys (λ (r : SetRow). r.prefix) (map (member_row g) ps)) ≡ option_map (member_row g) (row_at prefix_before p (with_keys itself ps))
in_rows g p [] = refl
in_rows g p (q ∷ qs) = go (are_one prefix_before p q) (in_rows g p qs)
  where
    go : (b : Bool) → row_at prefix_before p (with_keys (λ (r : SetRow). r.prefix) (map (member_row g) qs)) ≡ option_map (member_row g) (row_at prefix_before p (with_keys itself qs))
        → (if b then Some (member_row g q) else row_at prefix_before p (with_keys (λ (r : SetRow). r.prefix) (map (member_row g) qs))) ≡ option_map (member_row g) (if b then Some q else row_at prefix_before p (with_keys itself qs))
    go true rest = refl
    go false rest = rest

mapped : (g : Ident) (p : Prefix) (b : Bool) → option_map (member_row g) (if_among b p) ≡ (if b then Some (member_row g p) else None)
mapped g p true = refl
mapped g p false = refl

module _ (n : NumberedRows) (host : List ℕ) where
  abbrev named : Ident → Bool
  named = is_named (filter_rows n.rows host)

  group_found : (p : Prefix) (g : GroupRow) → row_at prefix_before p (group_sets n host g) ≡ stand_row n.rows.ports p (named_by named (Some g))
  group_found p g = go (named g.id)
    where
      go : (b : Bool) → row_at prefix_before p (with_keys (λ (r : SetRow). r.prefix) (if b then map (member_row g.id) (members n.rows g.id) else [])) ≡ stand_row n.rows.ports p (if b then Some g.id else None)
      go true = in_rows g.id p (members n.rows g.id) ∙ ap (option_map (member_row g.id)) (members_found n.rows g.id p) ∙ mapped g.id p (among prefix_before p (flat_map (prefixes_of g.id) n.rows.ports))
      go false = refl

  pub set_found : Rises nat_lt n.groups → (k : ℕ) (p : Prefix) → row_at set_order (k, p) (keyed_sets n host) ≡ stand_row n.rows.ports p (named_by named (row_at nat_lt k n.groups))
  set_found up k p = at_flat nat_lt prefix_before number_order prefix_order (group_sets n host) (k, p) n.groups up ∙ go (row_at nat_lt k n.groups)
    where
      go : (o : Option GroupRow) → option_and_then (λ g. row_at prefix_before p (group_sets n host g)) o ≡ stand_row n.rows.ports p (named_by named o)
      go None = refl
      go (Some g) = group_found p g

  -- each row has its key
  rows_keyed : (groups : List GroupRow) (k : ℕ) (g : Ident) → group_number groups g ≡ Some k → (ps : List Prefix) (rest : List (SetKey × SetRow)) → HaveKeys (set_key groups) rest
      → HaveKeys (set_key groups) (under k (with_keys (λ (r : SetRow). r.prefix) (map (member_row g) ps)) ++ rest)
  rows_keyed groups k g at [] rest have = have
  rows_keyed groups k g at (p ∷ ps) rest have = (ap (option_map (λ (m : ℕ). (m, p))) at, rows_keyed groups k g at ps rest have)

  keyed_from : (groups : List GroupRow) (k : ℕ) (xs : List GroupRow) → ((i : ℕ) (x : GroupRow) → slice_get xs i ≡ Some x → group_number groups x.id ≡ Some (k + i)) → HaveKeys (set_key groups) (chunks (group_sets n host) (with_numbers k xs))
  keyed_from groups k [] says = tt
  keyed_from groups k (x ∷ xs) says = go (named x.id) (keyed_from groups (suc k) xs (λ i y at. let next : k + suc i ≡ suc k + i = omega arith in says (suc i) y at ∙ ap Some next))
    where
      rest : List (SetKey × SetRow)
      rest = chunks (group_sets n host) (with_numbers (suc k) xs)

      go : (b : Bool) → HaveKeys (set_key groups) rest → HaveKeys (set_key groups) (under k (with_keys (λ (r : SetRow). r.prefix) (if b then map (member_row x.id) (members n.rows x.id) else [])) ++ rest)
      go true have = let here : k + 0 ≡ k = omega arith in rows_keyed groups k x.id (says 0 x refl ∙ ap Some here) (members n.rows x.id) rest have
      go false have = have

  pub have_set_keys : (groups : List GroupRow) → HaveOwnIds (λ (g : GroupRow). g.id) groups → n.groups ≡ with_numbers 0 groups → HaveKeys (set_key groups) (keyed_sets n host)
  have_set_keys groups own is =
      subst (λ gs. HaveKeys (set_key groups) (chunks (group_sets n host) gs)) (sym is)
      (keyed_from groups 0 groups (λ i x at. let start : i ≡ 0 + i = omega arith in own_place (λ (g : GroupRow). g.id) groups i x own at ∙ ap Some start))

-- a row that is found is in the table
pub listed : (q : SetKey) (xs : List (SetKey × SetRow)) (g : Ident) (p : Prefix) → row_at set_order q xs ≡ Some (member_row g p) → among prefix_before p (filter_map (prefix_in g) (unkeyed xs)) ≡ true
listed q [] g p h = none_some _ _ h
listed q (x ∷ xs) g p h = go (are_one set_order q x.0) h (listed q xs g p)
  where
    left : List Prefix
    left = filter_map (prefix_in g) (unkeyed xs)

    here : among prefix_before p (cons_option (prefix_in g (member_row g p)) left) ≡ true
    here = ap (λ b. among prefix_before p (cons_option (if b then Some p else None) left)) (ident_itself g) ∙ ap (λ b. b || among prefix_before p left) (one_itself prefix_before prefix_order p)

    later : (o : Option Prefix) → among prefix_before p left ≡ true → among prefix_before p (cons_option o left) ≡ true
    later None e = e
    later (Some r) e = ap (λ b. are_one prefix_before p r || b) e ∙ or_true (are_one prefix_before p r)

    go : (b : Bool) → (if b then Some x.1 else row_at set_order q xs) ≡ Some (member_row g p) → (row_at set_order q xs ≡ Some (member_row g p) → among prefix_before p left ≡ true)
        → among prefix_before p (cons_option (prefix_in g x.1) left) ≡ true
    go true h rest = subst (λ (r : SetRow). among prefix_before p (cons_option (prefix_in g r) left) ≡ true) (sym (some_equal x.1 (member_row g p) h)) here
    go false h rest = later (prefix_in g x.1) (rest h)
