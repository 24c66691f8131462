-- Ids of the next ordinal are no row's, and what drawing leads to.
use Rattle.std.proofs.Common.{◌≡◌, ℕ, suc, ◌+◌, ◌-◌, ◌<◌, ◌≤◌, ◌^◌, List, [], ◌∷◌, ◌++◌, Bool, true, false, cond, Some, None, length, slice_get, refl, ap, sym, ◌∙◌, arith, append_assoc, if◌then◌else◌}
use Rattle.std.specs.Prelude.{◌==◌, ◌&&◌, nat_le, nat_lt, position}
use Rattle.std.proofs.lemmas.Bool.Decides.{nat_tests}
use Rattle.std.proofs.lemmas.Option.{slice_get_within}
use Rattle.api_types.specs.Consistent.{IsConsistent}
use Rattle.api_types.specs.Consistent.Numbered.{is_drawn}
use Rattle.api_types.specs.Ident.{Ident}
use Rattle.api_types.specs.Registration.{default_rule, draw_at, draw_for, draw_of, ident, is_named, with_count, with_project}
use Rattle.api_types.specs.RowLists.{RowLists}
use Rattle.api_types.specs.Rows.{project_id}
use Rattle.api_types.specs.Table.{ident_eq, row_of}
use Rattle.api_types.specs.declared.group.Direction.TheVariants.{Egress, Ingress}
use Rattle.api_types.specs.declared.group.Ethertype.TheVariants.{Ipv4, Ipv6}
use Rattle.api_types.specs.declared.group.RuleRow.{RuleRow}
use Rattle.api_types.specs.declared.project.ProjectRow.{ProjectRow}
use Rattle.api_types.proofs.IdLemmas.{are_tables, undrawn_differs}
use Rattle.api_types.proofs.ListLemmas.{any-none}
use Rattle.api_types.proofs.NameLemmas.{first_fails, ident_itself}
use Rattle.call_parts.specs.Drafts.{AreRulesNew, raised}
use Rattle.call_parts.proofs.EditLaws.{once_own, put_once}
use Rattle.call_parts.proofs.AbsentLemmas.{absent_pushed, later_id}

unequal : (a b : ℕ) → (a ≡ b → ⊥) → (a == b) ≡ false
unequal a b ne = grind (arith, nat_tests)

-- no row has an id from which each row's id differs
none_by : {R : Type 0} (id_of : R → Ident) (i : Ident) (rows : List R) → ((k : ℕ) (r : R) → slice_get rows k ≡ Some r → ident_eq i (id_of r) ≡ false) → row_of id_of i rows ≡ None
none_by id_of i [] differs = refl
none_by id_of i (r ∷ rows) differs =
    ap (λ b. cond b (Some r) (row_of id_of i rows)) (differs 0 r refl) ∙ none_by id_of i rows (λ k x at. differs (suc k) x at)

module _ (rows : RowLists) (n : IsConsistent rows) (k : ℕ) (next : k ≡ length rows.projects + 1) where
  ordinals_differ : (j : ℕ) (q : ProjectRow) → slice_get rows.projects j ≡ Some q → q.ordinal ≡ k → ⊥
  ordinals_differ j q at same =
      let place : q.ordinal ≡ j + 1 = (n.numbered.projects.ordered j q at).0 in
      let within : j < length rows.projects = slice_get_within rows.projects j q at in
      absurd (omega arith)

  undrawn : (c : ℕ) → is_drawn rows.projects (ident k c) ≡ false
  undrawn c = any-none (λ (q : ProjectRow). (q.ordinal == k) && (nat_le 1 c && nat_le c q.count)) rows.projects
      (λ j q at. first_fails (q.ordinal == k) (nat_le 1 c && nat_le c q.count) (unequal q.ordinal k (ordinals_differ j q at)))

  pub project_new : row_of project_id (ident k 0) rows.projects ≡ None
  project_new = none_by project_id (ident k 0) rows.projects (λ j q at. first_fails (k == q.ordinal) (0 == 0) (unequal k q.ordinal (λ e. ordinals_differ j q at (sym e))))

  pub groups_new : (c : ℕ) → row_of (λ r. r.id) (ident k c) rows.groups ≡ None
  groups_new c = none_by (λ r. r.id) (ident k c) rows.groups (λ j r at. undrawn_differs rows.projects (ident k c) r.id (undrawn c) (n.numbered.drawn.groups j r at))

  pub rules_new : AreRulesNew rows.rules k
  rules_new c = none_by (λ r. r.id) (ident k c) rows.rules (λ j r at. undrawn_differs rows.projects (ident k c) r.id (undrawn c) (n.numbered.drawn.rules j r at))

module _ (rules : List RuleRow) (name : List ℕ) (k : ℕ) (new : AreRulesNew rules k) where
  abbrev r2 : RuleRow
  r2 = default_rule name k 2 Egress Ipv4

  abbrev r3 : RuleRow
  r3 = default_rule name k 3 Egress Ipv6

  abbrev r4 : RuleRow
  r4 = default_rule name k 4 Ingress Ipv4

  behind_one : (c : ℕ) → 2 < c → row_of (λ (r : RuleRow). r.id) (ident k c) (rules ++ r2 ∷ []) ≡ None
  behind_one c later = absent_pushed (λ r. r.id) (ident k c) rules r2 (new c) (later_id k c 2 later)

  behind_two : (c : ℕ) → 3 < c → row_of (λ (r : RuleRow). r.id) (ident k c) ((rules ++ r2 ∷ []) ++ r3 ∷ []) ≡ None
  behind_two c later = absent_pushed (λ r. r.id) (ident k c) (rules ++ r2 ∷ []) r3 (behind_one c (omega arith)) (later_id k c 3 later)

  pub third_new : row_of (λ (r : RuleRow). r.id) (ident k 3) (rules ++ r2 ∷ []) ≡ None
  third_new = behind_one 3 (omega arith)

  pub fourth_new : row_of (λ (r : RuleRow). r.id) (ident k 4) ((rules ++ r2 ∷ []) ++ r3 ∷ []) ≡ None
  fourth_new = behind_two 4 (omega arith)

  pub fifth_new : row_of (λ (r : RuleRow). r.id) (ident k 5) (((rules ++ r2 ∷ []) ++ r3 ∷ []) ++ r4 ∷ []) ≡ None
  fifth_new = absent_pushed (λ r. r.id) (ident k 5) ((rules ++ r2 ∷ []) ++ r3 ∷ []) r4 (behind_two 5 (omega arith)) (later_id k 5 4 (omega arith))

pub one_by_one : {R : Type 0} (xs : List R) (a b c d : R) → (((xs ++ a ∷ []) ++ b ∷ []) ++ c ∷ []) ++ d ∷ [] ≡ xs ++ a ∷ b ∷ c ∷ d ∷ []
one_by_one xs a b c d = simp append_assoc

-- a new project, while another one has an ordinal
pub draws_new : (rows : RowLists) (name : List ℕ) (many : ℕ) → position (is_named name) rows.projects ≡ None → length rows.projects < 2 ^ 32 - 1
    → draw_of rows name many ≡ Some (record { rows = with_project rows name (length rows.projects + 1) (5 + many); ordinal = length rows.projects + 1; first = 6 })
draws_new rows name many none room =
    let passes : nat_lt (length rows.projects) (2 ^ 32 - 1) ≡ true = grind (arith, nat_tests) in
    ap (draw_at rows name many) none
    ∙ ap (λ b. if b then Some (record { rows = with_project rows name (length rows.projects + 1) (5 + many); ordinal = length rows.projects + 1; first = 6 }) else None) passes

pub draws_no_ordinal : (rows : RowLists) (name : List ℕ) (many : ℕ) → position (is_named name) rows.projects ≡ None → 2 ^ 32 - 1 ≤ length rows.projects → draw_of rows name many ≡ None
draws_no_ordinal rows name many none full =
    let fails : nat_lt (length rows.projects) (2 ^ 32 - 1) ≡ false = grind (arith, nat_tests) in
    ap (draw_at rows name many) none
    ∙ ap (λ b. if b then Some (record { rows = with_project rows name (length rows.projects + 1) (5 + many); ordinal = length rows.projects + 1; first = 6 }) else None) fails

-- a project that is there, while its counts go on
module _ (rows : RowLists) (name : List ℕ) (many place : ℕ) (p : ProjectRow) (named : position (is_named name) rows.projects ≡ Some place) (at : slice_get rows.projects place ≡ Some p) where
  by_room : (b : Bool) → nat_lt (p.count + many) (2 ^ 62) ≡ b
      → draw_of rows name many ≡ (if b then Some (record { rows = with_count rows place p (p.count + many); ordinal = p.ordinal; first = p.count + 1 }) else None)
  by_room b is =
      ap (draw_at rows name many) named ∙ ap (draw_for rows place many) at
      ∙ ap (λ t. if t then Some (record { rows = with_count rows place p (p.count + many); ordinal = p.ordinal; first = p.count + 1 }) else None) is

  pub draws_no_count : 2 ^ 62 ≤ p.count + many → draw_of rows name many ≡ None
  draws_no_count full = by_room false (grind (arith, nat_tests))

  counted : IsConsistent rows → raised rows p many ≡ with_count rows place p (p.count + many)
  counted c = ap (λ projects. record rows { projects = projects })
      (put_once (λ q. ident_eq (project_id p) (project_id q)) rows.projects place p (record p { count = p.count + many }) at (ident_itself (project_id p))
      (once_own project_id rows.projects (are_tables rows c).projects (project_id p)))

  pub draws_known : IsConsistent rows → p.count + many < 2 ^ 62 → draw_of rows name many ≡ Some (record { rows = raised rows p many; ordinal = p.ordinal; first = p.count + 1 })
  draws_known c room = by_room true (grind (arith, nat_tests)) ∙ ap (λ r. Some (record { rows = r; ordinal = p.ordinal; first = p.count + 1 })) (sym (counted c))
