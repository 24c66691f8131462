-- A port's filters, gathered by numbers that cover its groups, and by numbers that cover the rules
-- of each of these.
use Rattle.std.proofs.Common.{◌≡◌, ◌∙◌, ℕ, List, [], Option, Some, None, true, false, refl, sym, ap}
use Rattle.std.specs.Prelude.{if◌then◌else◌, nat_lt}
use Rattle.api_types.specs.Members.{names_group}
use Rattle.api_types.specs.Table.{ident_eq}
use Rattle.api_types.specs.declared.group.GroupRow.{GroupRow}
use Rattle.api_types.specs.declared.group.RuleRow.{RuleRow}
use Rattle.api_types.specs.declared.port.PortRow.{PortRow}
use Rattle.plane_types.specs.Keyed.{chunks, rows_by_key, under}
use Rattle.plane_types.specs.KeyedTables.{group_filters}
use Rattle.plane_types.specs.Numbered.{numbered_after, with_numbers}
use Rattle.plane_types.specs.NumberedRows.{NumberedRows}
use Rattle.plane_types.specs.TableRows.{filter_by, filter_of}
use Rattle.plane_types.specs.declared.table.FilterRow.{FilterRow}
use Rattle.plane_types.proofs.NumberedLemmas.{after_rises, numbered_rises}
use Rattle.table_edits.specs.ChunksSeen.{chunk_at}
use Rattle.table_edits.specs.NumbersSeen.{Renumbered, at_after, at_before}
use Rattle.l2_delta.specs.Covers.{Covers}
use Rattle.l2_delta.specs.Filtered.{rule_filter}
use Rattle.l2_delta.specs.Gathered.{gathered, piece_at}
use Rattle.l2_delta.proofs.GatherLemmas.{chunks_gathered, keyed_gathered}

-- the piece of a number is its chunk, under the number
pub chunk_piece : {X J R : Type 0} (chunk : X → List (J × R)) (k : ℕ) (o : Option X) → under k (chunk_at chunk o) ≡ piece_at (λ k x. under k (chunk x)) k o
chunk_piece chunk k None = refl
chunk_piece chunk k (Some x) = refl

module _ (p : PortRow) (g : GroupRow) where
  no_filter : (r : RuleRow) → ident_eq r.group g.id ≡ false → filter_by p g r ≡ None
  no_filter r off = ap (λ b. if b then Some (filter_of p r) else None) off

  pub rules_before : (rules : Renumbered RuleRow) (ks : List ℕ) → Covers (λ (r : RuleRow). ident_eq r.group g.id) rules ks
      → gathered (at_before rules) (rule_filter p g) ks ≡ rows_by_key nat_lt (filter_by p g) (with_numbers 0 rules.rows)
  rules_before rules ks cover = keyed_gathered (filter_by p g) (with_numbers 0 rules.rows) ks (numbered_rises 0 rules.rows) cover.down (λ k r at away. no_filter r (cover.before k r away at))

  pub rules_after : (rules : Renumbered RuleRow) (ks : List ℕ) → Covers (λ (r : RuleRow). ident_eq r.group g.id) rules ks
      → gathered (at_after rules) (rule_filter p g) ks ≡ rows_by_key nat_lt (filter_by p g) (numbered_after rules.rows rules.items)
  rules_after rules ks cover = keyed_gathered (filter_by p g) (numbered_after rules.rows rules.items) ks (after_rises rules.rows rules.items) cover.down (λ k r at away. no_filter r (cover.after k r away at))

module _ (n : NumberedRows) (p : PortRow) where
  no_group : (g : GroupRow) → names_group g.id p.groups ≡ false → group_filters n p g ≡ []
  no_group g off = ap (λ b. if b then rows_by_key nat_lt (filter_by p g) n.rules else []) off

  pub of_group : (g : GroupRow) → names_group g.id p.groups ≡ true → rows_by_key nat_lt (filter_by p g) n.rules ≡ group_filters n p g
  of_group g named = sym (ap (λ b. if b then rows_by_key nat_lt (filter_by p g) n.rules else []) named)

  -- nothing is under the number of no group, or of one that the port doesn't name
  pub none_there : (k : ℕ) (o : Option GroupRow) → o ≡ None → under k (chunk_at (group_filters n p) o) ≡ []
  none_there k o none = ap (λ q. under k (chunk_at (group_filters n p) q)) none

  pub none_named : (k : ℕ) (o : Option GroupRow) (g : GroupRow) → o ≡ Some g → names_group g.id p.groups ≡ false → under k (chunk_at (group_filters n p) o) ≡ []
  none_named k o g at off = ap (λ q. under k (chunk_at (group_filters n p) q)) at ∙ ap (under k) (no_group g off)

  pub filters_there : (k : ℕ) (o : Option GroupRow) (g : GroupRow) → o ≡ Some g → names_group g.id p.groups ≡ true
      → (found : List (ℕ × FilterRow)) → found ≡ rows_by_key nat_lt (filter_by p g) n.rules → under k found ≡ under k (chunk_at (group_filters n p) o)
  filters_there k o g at named found is = ap (under k) (is ∙ of_group g named) ∙ sym (ap (λ q. under k (chunk_at (group_filters n p) q)) at)

  pub groups_before : (groups : Renumbered GroupRow) (ks : List ℕ) → Covers (λ (g : GroupRow). names_group g.id p.groups) groups ks
      → gathered (at_before groups) (λ k g. under k (group_filters n p g)) ks ≡ chunks (group_filters n p) (with_numbers 0 groups.rows)
  groups_before groups ks cover = chunks_gathered (group_filters n p) (with_numbers 0 groups.rows) ks (numbered_rises 0 groups.rows) cover.down (λ k g at away. no_group g (cover.before k g away at))

  pub groups_after : (groups : Renumbered GroupRow) (ks : List ℕ) → Covers (λ (g : GroupRow). names_group g.id p.groups) groups ks
      → gathered (at_after groups) (λ k g. under k (group_filters n p g)) ks ≡ chunks (group_filters n p) (numbered_after groups.rows groups.items)
  groups_after groups ks cover = chunks_gathered (group_filters n p) (numbered_after groups.rows groups.items) ks (after_rises groups.rows groups.items) cover.down (λ k g at away. no_group g (cover.after k g away at))
