-- The sets of a host by group and prefix: edits at touched keys lead to those after a change, and
-- are few.
use Rattle.std.proofs.Common.{◌≡◌, ◌∙◌, ℕ, List, [], ◌∷◌, map, Bool, true, false, true≢false, refl, sym, ap, subst}
use Rattle.std.specs.Prelude.{◌||◌, if◌then◌else◌, flat_map, nat_lt}
use Rattle.std.specs.List.{list_any}
use Rattle.net_addr.specs.Prefixes.{Prefix}
use Rattle.api_types.specs.Ascending.{prefix_before}
use Rattle.api_types.specs.Consistent.Groups.{prefix_eq}
use Rattle.api_types.specs.Ident.{Ident}
use Rattle.api_types.specs.Members.{members, once, prefixes_of}
use Rattle.api_types.specs.Parts.{group_of}
use Rattle.api_types.specs.RowLists.{RowLists}
use Rattle.api_types.specs.Rows.{after}
use Rattle.api_types.specs.declared.change.Item.{Item}
use Rattle.api_types.specs.declared.group.GroupRow.{GroupRow}
use Rattle.api_types.specs.declared.kind.Kind.TheVariants.{Group}
use Rattle.plane_types.specs.Keyed.{AllAfter, AreApart, Others, Rises, are_one, row_at, with_keys}
use Rattle.plane_types.specs.KeyedTables.{SetKey, group_sets, keyed_sets, set_order}
use Rattle.plane_types.specs.NumberedRows.{NumberedRows, numbered_rows, numbered_rows_after, row_items}
use Rattle.plane_types.specs.TableRows.{filter_rows, names_remote, set_rows}
use Rattle.plane_types.specs.declared.delta.Edit.{Edit}
use Rattle.plane_types.specs.declared.table.FilterRow.{FilterRow}
use Rattle.plane_types.specs.declared.table.SetRow.{SetRow}
use Rattle.plane_types.proofs.KeyedLemmas.{apart_first, apart_second, three_ways}
use Rattle.plane_types.proofs.KeyedTablesLemmas.{sets-rows, unkeyed}
use Rattle.plane_types.proofs.MapLemmas.{sorted_rises}
use Rattle.plane_types.proofs.NumberedLemmas.{after_plain, after_rises, number_order, numbered_rises, plain_numbered}
use Rattle.plane_types.proofs.PairLemmas.{flat_rises, pair_total}
use Rattle.table_edits.specs.EditsAt.{AreEditsAt, KeysDescend, among}
use Rattle.table_edits.specs.Rewires.{Rewires}
use Rattle.table_edits.specs.KeyOrders.{prefix_itself, prefix_order}
use Rattle.table_edits.proofs.KeyedLaw.{keyed_lead}
use Rattle.table_edits.proofs.KindsAfter.{groups_after}

abbrev itself : Prefix → Prefix
itself p = p

or_none : (a b : Bool) → a || b ≡ false → (a ≡ false) × (b ≡ false)
or_none true b h = cc
or_none false b h = (refl, h)

-- different prefixes are apart
differ : (p q : Prefix) → prefix_eq p q ≡ false → are_one prefix_before q p ≡ false
differ p q h = three_ways prefix_before prefix_order q p (are_one prefix_before q p ≡ false)
    (λ e. apart_first prefix_before prefix_order q p e)
    (λ e. apart_second prefix_before prefix_order q p e)
    (λ e f. absurd (true≢false (sym (prefix_itself p) ∙ (ap (prefix_eq p) (sym (prefix_order.same q p e f)) ∙ h))))

others_once : (p : Prefix) (ps : List Prefix) → list_any (prefix_eq p) ps ≡ false → Others prefix_before p (map itself (once ps))
unfolding once
others_once p [] h = tt
others_once p (q ∷ ps) h = go (list_any (prefix_eq q) ps) (others_once p ps (or_none (prefix_eq p q) (list_any (prefix_eq p) ps) h).1)
  where
    go : (b : Bool) → Others prefix_before p (map itself (once ps)) → Others prefix_before p (map itself (if b then once ps else q ∷ once ps))
    go true rest = rest
    go false rest = (differ p q (or_none (prefix_eq p q) (list_any (prefix_eq p) ps) h).0, rest)

once_apart : (ps : List Prefix) → AreApart prefix_before (map itself (once ps))
unfolding once
once_apart [] = tt
once_apart (p ∷ ps) = go (list_any (prefix_eq p) ps) refl (once_apart ps)
  where
    go : (b : Bool) → list_any (prefix_eq p) ps ≡ b → AreApart prefix_before (map itself (once ps)) → AreApart prefix_before (map itself (if b then once ps else p ∷ once ps))
    go true e rest = rest
    go false e rest = (others_once p ps e, rest)

members_rise : (rows : RowLists) (g : Ident) → Rises prefix_before (with_keys itself (members rows g))
unfolding members
members_rise rows g = sorted_rises prefix_before prefix_order itself (once (flat_map (prefixes_of g) rows.ports)) (once_apart (flat_map (prefixes_of g) rows.ports))

-- so do their rows
abbrev row_of_member : Ident → Prefix → SetRow
row_of_member g p = record { group = g; prefix = p }

abbrev prefix_of : SetRow → Prefix
prefix_of r = r.prefix

after_rows : (g : Ident) (k : Prefix) (ps : List Prefix) → AllAfter prefix_before k (with_keys itself ps) → AllAfter prefix_before k (with_keys prefix_of (map (row_of_member g) ps))
after_rows g k [] h = tt
after_rows g k (p ∷ ps) h = (h.0, after_rows g k ps h.1)

rows_rise : (g : Ident) (ps : List Prefix) → Rises prefix_before (with_keys itself ps) → Rises prefix_before (with_keys prefix_of (map (row_of_member g) ps))
rows_rise g [] h = tt
rows_rise g (p ∷ ps) h = (after_rows g p ps h.0, rows_rise g ps h.1)

module _ (n : NumberedRows) (host : List ℕ) where
  group_rises : (g : GroupRow) → Rises prefix_before (group_sets n host g)
  group_rises g = go (list_any (λ (r : FilterRow). names_remote g.id r.remote_group) (filter_rows n.rows host))
    where
      go : (b : Bool) → Rises prefix_before (with_keys prefix_of (if b then map (row_of_member g.id) (members n.rows g.id) else []))
      go true = rows_rise g.id (members n.rows g.id) (members_rise n.rows g.id)
      go false = tt

  sets_rise : Rises nat_lt n.groups → Rises set_order (keyed_sets n host)
  sets_rise groups = flat_rises nat_lt prefix_before number_order prefix_order (group_sets n host) group_rises n.groups groups

module _ (rows : RowLists) (items : List Item) (host : List ℕ) where
  pub sets_lead : (ks : List SetKey) (es : List (Edit SetRow)) → KeysDescend set_order ks
      → AreEditsAt set_order (keyed_sets (numbered_rows rows) host) (λ k. row_at set_order k (keyed_sets (numbered_rows_after rows items) host)) ks es
      → ((k : SetKey) → among set_order k ks ≡ false
      → row_at set_order k (keyed_sets (numbered_rows rows) host) ≡ row_at set_order k (keyed_sets (numbered_rows_after rows items) host))
      → Rewires set_order (keyed_sets (numbered_rows rows) host) (keyed_sets (numbered_rows_after rows items) host)
      (set_rows rows (filter_rows rows host)) (set_rows (after rows items) (filter_rows (after rows items) host)) es
  sets_lead ks es down are same =
      let old = keyed_sets (numbered_rows rows) host in
      let new = keyed_sets (numbered_rows_after rows items) host in
      let before_rows = sets-rows (numbered_rows rows) host [] (plain_numbered 0 rows.groups) in
      let later_rows = sets-rows (numbered_rows_after rows items) host [] (after_plain rows.groups (row_items Group group_of items) ∙ sym (groups_after rows items)) in
      subst (λ (l : List SetRow). Rewires set_order old new l (set_rows (after rows items) (filter_rows (after rows items) host)) es) before_rows
      (subst (λ (l : List SetRow). Rewires set_order old new (unkeyed old) l es) later_rows
      (keyed_lead set_order (pair_total nat_lt prefix_before number_order prefix_order) old new
      (sets_rise (numbered_rows rows) host (numbered_rises 0 rows.groups))
      (sets_rise (numbered_rows_after rows items) host (after_rises rows.groups (row_items Group group_of items))) ks es down are same))
