-- The filters of a port: by numbers that cover its groups and their rules they are those of the
-- table, and a port that a change leaves alone keeps them.
use Rattle.std.proofs.Common.{◌≡◌, ◌∙◌, ℕ, List, [], ◌∷◌, ◌++◌, map, Option, Some, None, Bool, true, false, not, refl, sym, ap, subst}
use Rattle.std.specs.Prelude.{◌&&◌, ◌||◌, if◌then◌else◌, nat_lt, option_and_then, option_map}
use Rattle.std.specs.List.{list_any}
use Rattle.api_types.specs.Ident.{Ident}
use Rattle.api_types.specs.Live.{is_at, is_live}
use Rattle.api_types.specs.Members.{names_group}
use Rattle.api_types.specs.Owners.{is_router_port}
use Rattle.api_types.specs.Parts.{group_of, port_of, rule_of}
use Rattle.api_types.specs.RowLists.{RowLists}
use Rattle.api_types.specs.Rows.{after as rows_by_change}
use Rattle.api_types.specs.Table.{ident_eq}
use Rattle.api_types.specs.declared.change.Item.{Item}
use Rattle.api_types.specs.declared.group.GroupRow.{GroupRow}
use Rattle.api_types.specs.declared.group.RuleRow.{RuleRow}
use Rattle.api_types.specs.declared.kind.Kind.TheVariants.{Group, Port, Rule}
use Rattle.api_types.specs.declared.port.PortRow.{PortRow}
use Rattle.api_types.proofs.ListLemmas.{any-none, false_true, or_none}
use Rattle.api_types.proofs.NameLemmas.{and_fails, by_test, ident_itself, ident_same}
use Rattle.plane_types.specs.Keyed.{Rises, chunks, cons_at, pair_order, row_at, rows_by_key, under}
use Rattle.plane_types.specs.KeyedTables.{group_filters, port_filters}
use Rattle.plane_types.specs.Numbered.{numbered_after, rows_after, with_numbers}
use Rattle.plane_types.specs.NumberedRows.{NumberedRows, numbered_rows, numbered_rows_after, row_items}
use Rattle.plane_types.specs.TableRows.{filter_by, filter_of, filter_rows, is_tap}
use Rattle.plane_types.specs.declared.table.FilterRow.{FilterRow}
use Rattle.plane_types.proofs.KeyedLemmas.{same_entries}
use Rattle.plane_types.proofs.KeyedTablesLemmas.{filters-rows}
use Rattle.plane_types.proofs.NumberedLemmas.{after_plain, after_rises, number_order, numbered_rises, plain_numbered}
use Rattle.plane_types.proofs.PairLemmas.{at_flat, flat_rises, flat_rows, pair_total}
use Rattle.plane_types.proofs.StayLemmas.{ports_after}
use Rattle.plane_types.proofs.TableLemmas.{at_keyed, keyed_rises}
use Rattle.table_edits.specs.ChunksSeen.{chunk_at, chunk_rows}
use Rattle.table_edits.specs.NumbersSeen.{Renumbered, at_after, at_before}
use Rattle.table_edits.proofs.KindsAfter.{groups_after, rules_after}
use Rattle.l2_delta.specs.Filtered.{is_filtered, is_filtered_by, is_group, rule_of_group}

-- ---- filters by groups and rules ascend

module _ (n : NumberedRows) (groups : Rises nat_lt n.groups) (rules : Rises nat_lt n.rules) (p : PortRow) where
  group_rises : (g : GroupRow) → Rises nat_lt (group_filters n p g)
  group_rises g = go (names_group g.id p.groups)
    where
      go : (b : Bool) → Rises nat_lt (if b then rows_by_key nat_lt (filter_by p g) n.rules else [])
      go true = keyed_rises nat_lt number_order (filter_by p g) n.rules rules
      go false = tt

  groups_rise : Rises (pair_order nat_lt nat_lt) (chunks (group_filters n p) n.groups)
  groups_rise = flat_rises nat_lt nat_lt number_order number_order (group_filters n p) group_rises n.groups groups

  pub port_rises : (host : List ℕ) → Rises (pair_order nat_lt nat_lt) (port_filters n host p)
  port_rises host = go (is_tap n.rows host p && p.secured)
    where
      go : (b : Bool) → Rises (pair_order nat_lt nat_lt) (if b then chunks (group_filters n p) n.groups else [])
      go true = groups_rise
      go false = tt

-- ---- each is of its port

module _ (p : PortRow) where
  abbrev port_is : {K : Type 0} → List (K × FilterRow) → Type 0
  port_is xs = map (λ x. x.1.port) xs ≡ map (λ x. p.id) xs

  append_port : {K : Type 0} (xs ys : List (K × FilterRow)) → port_is xs → port_is ys → port_is (xs ++ ys)
  append_port [] ys h k = k
  append_port (x ∷ xs) ys h k = (λ j. head_is h j ∷ append_port xs ys (tail_is h) k j)
    where
      first : List Ident → Ident
      first [] = p.id
      first (i ∷ is) = i

      rest : List Ident → List Ident
      rest [] = []
      rest (i ∷ is) = is

      head_is : map (λ x. x.1.port) (x ∷ xs) ≡ map (λ x. p.id) (x ∷ xs) → x.1.port ≡ p.id
      head_is h = ap first h

      tail_is : map (λ x. x.1.port) (x ∷ xs) ≡ map (λ x. p.id) (x ∷ xs) → port_is xs
      tail_is h = ap rest h

  by_rules : (g : GroupRow) (rs : List (ℕ × RuleRow)) → port_is (rows_by_key nat_lt (filter_by p g) rs)
  by_rules g [] = refl
  by_rules g (r ∷ rs) = go (ident_eq r.1.group g.id) (by_rules g rs)
    where
      go : (b : Bool) → port_is (rows_by_key nat_lt (filter_by p g) rs) → port_is (cons_at nat_lt r.0 (if b then Some (filter_of p r.1) else None) (rows_by_key nat_lt (filter_by p g) rs))
      go true h = ap (λ is. p.id ∷ is) h
      go false h = h

  under_port : (k : ℕ) (xs : List (ℕ × FilterRow)) → port_is xs → port_is (under k xs)
  under_port k xs h = left k xs ∙ h ∙ sym (right k xs)
    where
      left : (k : ℕ) (xs : List (ℕ × FilterRow)) → map (λ x. x.1.port) (under k xs) ≡ map (λ x. x.1.port) xs
      left k [] = refl
      left k (x ∷ xs) = ap (λ is. x.1.port ∷ is) (left k xs)

      right : (k : ℕ) (xs : List (ℕ × FilterRow)) → map (λ x. p.id) (under k xs) ≡ map (λ x. p.id) xs
      right k [] = refl
      right k (x ∷ xs) = ap (λ is. p.id ∷ is) (right k xs)

  module _ (n : NumberedRows) where
    by_group : (g : GroupRow) → port_is (group_filters n p g)
    by_group g = go (names_group g.id p.groups)
      where
        go : (b : Bool) → port_is (if b then rows_by_key nat_lt (filter_by p g) n.rules else [])
        go true = by_rules g n.rules
        go false = refl

    by_groups : (gs : List (ℕ × GroupRow)) → port_is (chunks (group_filters n p) gs)
    by_groups [] = refl
    by_groups (g ∷ gs) = append_port (under g.0 (group_filters n p g.1)) (chunks (group_filters n p) gs) (under_port g.0 (group_filters n p g.1) (by_group g.1)) (by_groups gs)

    pub of_port : (host : List ℕ) → port_is (port_filters n host p)
    of_port host = go (is_tap n.rows host p && p.secured)
      where
        go : (b : Bool) → port_is (if b then chunks (group_filters n p) n.groups else [])
        go true = by_groups n.groups
        go false = refl

-- ---- by what is in no set

pub by_none : (rows : RowLists) (host : List ℕ) (groups : Ident → Bool) → ((i : Ident) → groups i ≡ false) → (p : PortRow) → is_filtered_by rows host groups p ≡ false
by_none rows host groups none p = and_fails (is_filtered rows host p) (list_any groups p.groups) (any-none groups p.groups (λ k i at. none i))

-- ---- a port that a change leaves alone

-- a rule of a group filters as the group says
by_rule_of : (p : PortRow) (g : GroupRow) (o : Option RuleRow) → option_and_then (filter_by p g) o ≡ option_map (filter_of p) (rule_of_group g.id o)
by_rule_of p g None = refl
by_rule_of p g (Some r) = go (ident_eq r.group g.id)
  where
    go : (b : Bool) → (if b then Some (filter_of p r) else None) ≡ option_map (filter_of p) (if b then Some r else None)
    go true = refl
    go false = refl

none_named : (test : Ident → Bool) (i : Ident) (ids : List Ident) → list_any test ids ≡ false → names_group i ids ≡ true → test i ≡ false
none_named test i [] none there = false_true _ there
none_named test i (j ∷ ids) none there = by_test (ident_eq i j) (test i ≡ false)
    (λ is. ap test (ident_same i j is) ∙ (or_none (test j) (list_any test ids) none).0)
    (λ off. none_named test i ids (or_none (test j) (list_any test ids) none).1 (sym (ap (λ b. b || names_group i ids) off) ∙ there))

module _ (m n : NumberedRows) (test : Ident → Bool)
    (m_groups : Rises nat_lt m.groups) (n_groups : Rises nat_lt n.groups) (m_rules : Rises nat_lt m.rules) (n_rules : Rises nat_lt n.rules)
    (groups_stay : (i : Ident) → test i ≡ false → (k : ℕ) → is_group i (row_at nat_lt k m.groups) ≡ is_group i (row_at nat_lt k n.groups))
    (rules_stay : (i : Ident) → test i ≡ false → (k : ℕ) → rule_of_group i (row_at nat_lt k m.rules) ≡ rule_of_group i (row_at nat_lt k n.rules))
    (p : PortRow) (none : list_any test p.groups ≡ false) where
  -- the rules of a group that it names
  rules_same : (g : GroupRow) → names_group g.id p.groups ≡ true → rows_by_key nat_lt (filter_by p g) m.rules ≡ rows_by_key nat_lt (filter_by p g) n.rules
  rules_same g named = same_entries nat_lt number_order (rows_by_key nat_lt (filter_by p g) m.rules) (rows_by_key nat_lt (filter_by p g) n.rules)
      (keyed_rises nat_lt number_order (filter_by p g) m.rules m_rules) (keyed_rises nat_lt number_order (filter_by p g) n.rules n_rules)
      (λ k.
      at_keyed nat_lt number_order (filter_by p g) k m.rules m_rules
      ∙ by_rule_of p g (row_at nat_lt k m.rules)
      ∙ ap (option_map (filter_of p)) (rules_stay g.id (none_named test g.id p.groups none named) k)
      ∙ sym (by_rule_of p g (row_at nat_lt k n.rules))
      ∙ sym (at_keyed nat_lt number_order (filter_by p g) k n.rules n_rules))

  unnamed_none : (l : NumberedRows) (g : GroupRow) → names_group g.id p.groups ≡ false → group_filters l p g ≡ []
  unnamed_none l g off = ap (λ b. if b then rows_by_key nat_lt (filter_by p g) l.rules else []) off

  -- at each number the same is made of a group before and after
  at_number : (o q : Option GroupRow) → ((i : Ident) → test i ≡ false → is_group i o ≡ is_group i q) → chunk_at (group_filters m p) o ≡ chunk_at (group_filters n p) q
  at_number None None same = refl
  at_number None (Some h) same = by_test (names_group h.id p.groups) ([] ≡ group_filters n p h)
      (λ named. false_true _ (same h.id (none_named test h.id p.groups none named) ∙ ident_itself h.id))
      (λ off. sym (unnamed_none n h off))
  at_number (Some g) None same = by_test (names_group g.id p.groups) (group_filters m p g ≡ [])
      (λ named. false_true _ (sym (same g.id (none_named test g.id p.groups none named)) ∙ ident_itself g.id))
      (λ off. unnamed_none m g off)
  at_number (Some g) (Some h) same = by_test (names_group g.id p.groups) (group_filters m p g ≡ group_filters n p h)
      (λ named.
      let is : g.id ≡ h.id = ident_same g.id h.id (sym (same g.id (none_named test g.id p.groups none named)) ∙ ident_itself g.id) in
      ap (λ b. if b then rows_by_key nat_lt (filter_by p g) m.rules else []) named
      ∙ rules_same g named
      ∙ sym (ap (λ b. if b then rows_by_key nat_lt (filter_by p g) n.rules else []) named)
      ∙ (λ j. if names_group (is j) p.groups then rows_by_key nat_lt (λ (r : RuleRow). if ident_eq r.group (is j) then Some (filter_of p r) else None) n.rules else []))
      (λ off. unnamed_none m g off ∙ sym (unnamed_none n h (by_test (names_group h.id p.groups) (names_group h.id p.groups ≡ false)
      (λ named.
      let is : h.id ≡ g.id = ident_same h.id g.id (same h.id (none_named test h.id p.groups none named) ∙ ident_itself h.id) in
      false_true _ (sym off ∙ ap (λ i. names_group i p.groups) (sym is) ∙ named))
      (λ away. away))))

  at_chunk : (l : NumberedRows) (j : ℕ) (o : Option GroupRow) → option_and_then (λ g. row_at nat_lt j (group_filters l p g)) o ≡ row_at nat_lt j (chunk_at (group_filters l p) o)
  at_chunk l j None = refl
  at_chunk l j (Some g) = refl

  groups_same : chunks (group_filters m p) m.groups ≡ chunks (group_filters n p) n.groups
  groups_same = same_entries (pair_order nat_lt nat_lt) (pair_total nat_lt nat_lt number_order number_order) (chunks (group_filters m p) m.groups) (chunks (group_filters n p) n.groups)
      (groups_rise m m_groups m_rules p) (groups_rise n n_groups n_rules p)
      (λ q.
      at_flat nat_lt nat_lt number_order number_order (group_filters m p) q m.groups m_groups ∙ at_chunk m q.1 (row_at nat_lt q.0 m.groups)
      ∙ ap (row_at nat_lt q.1) (at_number (row_at nat_lt q.0 m.groups) (row_at nat_lt q.0 n.groups) (λ i off. groups_stay i off q.0))
      ∙ sym (at_flat nat_lt nat_lt number_order number_order (group_filters n p) q n.groups n_groups ∙ at_chunk n q.1 (row_at nat_lt q.0 n.groups)))

-- is as filtered as before, where it is as live
pub tap_stays : (before after : RowLists) (host : List ℕ) (p : PortRow) → is_live before p ≡ is_live after p → is_filtered before host p ≡ is_filtered after host p
tap_stays before after host p live = (λ j. ((live j && is_at host p) && not (is_router_port p.owner)) && p.secured)

module _ (m n : NumberedRows) (test : Ident → Bool)
    (m_groups : Rises nat_lt m.groups) (n_groups : Rises nat_lt n.groups) (m_rules : Rises nat_lt m.rules) (n_rules : Rises nat_lt n.rules)
    (groups_stay : (i : Ident) → test i ≡ false → (k : ℕ) → is_group i (row_at nat_lt k m.groups) ≡ is_group i (row_at nat_lt k n.groups))
    (rules_stay : (i : Ident) → test i ≡ false → (k : ℕ) → rule_of_group i (row_at nat_lt k m.rules) ≡ rule_of_group i (row_at nat_lt k n.rules)) where
  pub filters_stay : (host : List ℕ) (p : PortRow) → is_filtered m.rows host p ≡ is_filtered n.rows host p → is_filtered_by m.rows host test p ≡ false → port_filters m host p ≡ port_filters n host p
  filters_stay host p alike off = by_test (is_filtered m.rows host p) (port_filters m host p ≡ port_filters n host p)
      (λ here.
      let none : list_any test p.groups ≡ false = sym (ap (λ b. b && list_any test p.groups) here) ∙ off in
      ap (λ b. if b then chunks (group_filters m p) m.groups else []) here
      ∙ groups_same m n test m_groups n_groups m_rules n_rules groups_stay rules_stay p none
      ∙ sym (ap (λ b. if b then chunks (group_filters n p) n.groups else []) (sym alike ∙ here)))
      (λ away.
      ap (λ b. if b then chunks (group_filters m p) m.groups else []) away
      ∙ sym (ap (λ b. if b then chunks (group_filters n p) n.groups else []) (sym alike ∙ away)))

-- ---- the table, before a change and after it

module _ (rows : RowLists) (items : List Item) (host : List ℕ) where
  pub rows_were : chunk_rows (port_filters (numbered_rows rows) host) rows.ports ≡ filter_rows rows host
  rows_were =
      let came = port_filters (numbered_rows rows) host in
      sym (flat_rows nat_lt (pair_order nat_lt nat_lt) number_order (pair_total nat_lt nat_lt number_order number_order) came (with_numbers 0 rows.ports) ∙ ap (chunk_rows came) (plain_numbered 0 rows.ports))
      ∙ filters-rows (numbered_rows rows) host [] (plain_numbered 0 rows.ports) (plain_numbered 0 rows.groups) (plain_numbered 0 rows.rules)

  pub rows_are : chunk_rows (port_filters (numbered_rows_after rows items) host) (rows_after rows.ports (row_items Port port_of items)) ≡ filter_rows (rows_by_change rows items) host
  rows_are =
      let comes = port_filters (numbered_rows_after rows items) host in
      sym (flat_rows nat_lt (pair_order nat_lt nat_lt) number_order (pair_total nat_lt nat_lt number_order number_order) comes (numbered_after rows.ports (row_items Port port_of items)) ∙ ap (chunk_rows comes) (after_plain rows.ports (row_items Port port_of items)))
      ∙ filters-rows (numbered_rows_after rows items) host [] (after_plain rows.ports (row_items Port port_of items) ∙ sym (ports_after rows items))
      (after_plain rows.groups (row_items Group group_of items) ∙ sym (groups_after rows items)) (after_plain rows.rules (row_items Rule rule_of items) ∙ sym (rules_after rows items))

  pub rises_before : (p : PortRow) → Rises (pair_order nat_lt nat_lt) (port_filters (numbered_rows rows) host p)
  rises_before p = port_rises (numbered_rows rows) (numbered_rises 0 rows.groups) (numbered_rises 0 rows.rules) p host

  pub rises_after : (p : PortRow) → Rises (pair_order nat_lt nat_lt) (port_filters (numbered_rows_after rows items) host p)
  rises_after p = port_rises (numbered_rows_after rows items) (after_rises rows.groups (row_items Group group_of items)) (after_rises rows.rules (row_items Rule rule_of items)) p host

  -- a port that is left alone
  pub left_alone : (groups : Renumbered GroupRow) (rules : Renumbered RuleRow) (test : Ident → Bool)
      → groups ≡ record { rows = rows.groups; items = row_items Group group_of items } → rules ≡ record { rows = rows.rules; items = row_items Rule rule_of items }
      → ((i : Ident) → test i ≡ false → (k : ℕ) → is_group i (at_before groups k) ≡ is_group i (at_after groups k))
      → ((i : Ident) → test i ≡ false → (k : ℕ) → rule_of_group i (at_before rules k) ≡ rule_of_group i (at_after rules k))
      → (p : PortRow) → is_live rows p ≡ is_live (rows_by_change rows items) p → is_filtered_by rows host test p ≡ false
      → port_filters (numbered_rows rows) host p ≡ port_filters (numbered_rows_after rows items) host p
  left_alone groups rules test groups_are rules_are groups_stay rules_stay p live off =
      filters_stay (numbered_rows rows) (numbered_rows_after rows items) test (numbered_rises 0 rows.groups) (after_rises rows.groups (row_items Group group_of items)) (numbered_rises 0 rows.rules) (after_rises rows.rules (row_items Rule rule_of items))
      (subst (λ (n : Renumbered GroupRow). (i : Ident) → test i ≡ false → (k : ℕ) → is_group i (at_before n k) ≡ is_group i (at_after n k)) groups_are groups_stay)
      (subst (λ (n : Renumbered RuleRow). (i : Ident) → test i ≡ false → (k : ℕ) → rule_of_group i (at_before n k) ≡ rule_of_group i (at_after n k)) rules_are rules_stay)
      host p (tap_stays rows (rows_by_change rows items) host p live) off
