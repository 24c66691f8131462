-- What a look-up by id tells of a list in which no two rows have the same id.
use Rattle.std.proofs.Common.{arith, ℕ, ◌≡◌, ◌∙◌, List, [], ◌∷◌, Bool, true, false, cond, Some, None, slice_get, map, refl, ap, sym}
use Rattle.std.specs.Prelude.{◌&&◌, ◌||◌}
use Rattle.std.specs.List.{list_any, IsDistinct, AllByRecursion}
use Rattle.api_types.specs.Ident.{Ident}
use Rattle.api_types.specs.Table.{ident_eq, row_of, HaveOwnIds}
use Rattle.api_types.specs.Lists.{stands, stands_so}
use Rattle.std.specs.Prelude.{◌==◌, nat_le}
use Rattle.std.proofs.lemmas.Bool.Decides.{nat_tests}
use Rattle.api_types.specs.Rows.{project_id}
use Rattle.api_types.specs.Consistent.Numbered.{is_drawn}
use Rattle.api_types.specs.declared.project.ProjectRow.{ProjectRow}
use Rattle.api_types.proofs.ListLemmas.{at-any, some_equal, or_false}
use Rattle.api_types.proofs.NameLemmas.{ident_same, by_test, any-agree}

module _ {R : Type 0} (id_of : R → Ident) where
  none_has : (i : Ident) (test : R → Bool) (rows : List R) → AllByRecursion (λ y. ident_eq i y ≡ false) (map id_of rows) → stands_so id_of i test rows ≡ false
  none_has i test [] all = refl
  none_has i test (r ∷ rows) all = (λ j. (all.0 j && test r) || stands_so id_of i test rows) ∙ none_has i test rows all.1

  pub found_so : (i : Ident) (test : R → Bool) (rows : List R) (r : R) → HaveOwnIds id_of rows → row_of id_of i rows ≡ Some r → test r ≡ stands_so id_of i test rows
  unfolding IsDistinct
  found_so i test [] r own h = cc
  found_so i test (x ∷ rows) r own h = by (ident_eq i (id_of x)) refl h (found_so i test rows r own.1)
    where
      by : (b : Bool) → ident_eq i (id_of x) ≡ b → cond b (Some x) (row_of id_of i rows) ≡ Some r → (row_of id_of i rows ≡ Some r → test r ≡ stands_so id_of i test rows)
          → test r ≡ (ident_eq i (id_of x) && test x) || stands_so id_of i test rows
      by true e h rest =
          let none : stands_so id_of i test rows ≡ false = ap (λ k. stands_so id_of k test rows) (ident_same i (id_of x) e) ∙ none_has (id_of x) test rows own.0 in
          ap test (sym (some_equal x r h)) ∙ (sym (or_false (test x)) ∙ sym (λ j. (e j && test x) || none j))
      by false e h rest = rest h ∙ sym (λ j. (e j && test x) || stands_so id_of i test rows)

  pub not_found_so : (i : Ident) (test : R → Bool) (rows : List R) → row_of id_of i rows ≡ None → false ≡ stands_so id_of i test rows
  not_found_so i test [] h = refl
  not_found_so i test (x ∷ rows) h = by (ident_eq i (id_of x)) refl h (not_found_so i test rows)
    where
      by : (b : Bool) → ident_eq i (id_of x) ≡ b → cond b (Some x) (row_of id_of i rows) ≡ None → (row_of id_of i rows ≡ None → false ≡ stands_so id_of i test rows)
          → false ≡ (ident_eq i (id_of x) && test x) || stands_so id_of i test rows
      by true e h rest = cc
      by false e h rest = rest h ∙ sym (λ j. (e j && test x) || stands_so id_of i test rows)

  -- a row that is found is one of the list's, and has the id
  pub found_any : (i : Ident) (test : R → Bool) (rows : List R) (r : R) → row_of id_of i rows ≡ Some r → test r ≡ true → list_any test rows ≡ true
  found_any i test [] r h t = cc
  found_any i test (x ∷ rows) r h t = by (ident_eq i (id_of x)) h (found_any i test rows r)
    where
      by : (b : Bool) → cond b (Some x) (row_of id_of i rows) ≡ Some r → (row_of id_of i rows ≡ Some r → test r ≡ true → list_any test rows ≡ true) → test x || list_any test rows ≡ true
      by true h rest = ap (λ b. b || list_any test rows) (ap test (some_equal x r h) ∙ t)
      by false h rest = by_test (test x) (test x || list_any test rows ≡ true)
          (λ passes. ap (λ b. b || list_any test rows) passes)
          (λ fails. ap (λ b. b || list_any test rows) fails ∙ rest h t)

  -- a row with this id is there, or none

  pub is_there : (i : Ident) (rows : List R) (r : R) → row_of id_of i rows ≡ Some r → stands id_of i rows ≡ true
  is_there i [] r h = cc
  is_there i (x ∷ rows) r h = by (ident_eq i (id_of x)) h (is_there i rows r)
    where
      by : (b : Bool) → cond b (Some x) (row_of id_of i rows) ≡ Some r → (row_of id_of i rows ≡ Some r → stands id_of i rows ≡ true) → b || stands id_of i rows ≡ true
      by true h rest = refl
      by false h rest = rest h

  pub not_there : (i : Ident) (rows : List R) → row_of id_of i rows ≡ None → stands id_of i rows ≡ false
  not_there i [] h = refl
  not_there i (x ∷ rows) h = by (ident_eq i (id_of x)) h (not_there i rows)
    where
      by : (b : Bool) → cond b (Some x) (row_of id_of i rows) ≡ None → (row_of id_of i rows ≡ None → stands id_of i rows ≡ false) → b || stands id_of i rows ≡ false
      by true h rest = cc
      by false h rest = rest h

-- the second of two tests decides, where it is known
pub or_true : (a b : Bool) → b ≡ true → true ≡ a || b
or_true true b h = refl
or_true false b h = sym h

pub or_none : (a b : Bool) → b ≡ false → a ≡ a || b
or_none true b h = refl
or_none false b h = sym h

-- what is looked for first, and then everywhere, is found as everywhere
pub first_or : (first all : Bool) → (first ≡ true → all ≡ true) → first || all ≡ all
first_or true all h = sym (h refl)
first_or false all h = refl

-- the project that an id was drawn for

turned : (a b : ℕ) → (a == b) && (0 == 0) ≡ (b == a)
turned a b = grind (arith, nat_tests)

drawn_alike : (i : Ident) (projects : List ProjectRow) → stands_so project_id (record { ordinal = i.ordinal; count = 0 }) (λ (p : ProjectRow). nat_le 1 i.count && nat_le i.count p.count) projects ≡ is_drawn projects i
drawn_alike i projects = any-agree
    (λ (p : ProjectRow). ident_eq (record { ordinal = i.ordinal; count = 0 }) (project_id p) && (nat_le 1 i.count && nat_le i.count p.count))
    (λ (p : ProjectRow). (p.ordinal == i.ordinal) && (nat_le 1 i.count && nat_le i.count p.count)) projects
    (λ p. ap (λ b. b && (nat_le 1 i.count && nat_le i.count p.count)) (turned i.ordinal p.ordinal))

pub drawer_found : (i : Ident) (projects : List ProjectRow) (p : ProjectRow) → HaveOwnIds project_id projects → row_of project_id (record { ordinal = i.ordinal; count = 0 }) projects ≡ Some p
    → nat_le 1 i.count && nat_le i.count p.count ≡ is_drawn projects i
drawer_found i projects p own h = found_so project_id (record { ordinal = i.ordinal; count = 0 }) (λ (p : ProjectRow). nat_le 1 i.count && nat_le i.count p.count) projects p own h ∙ drawn_alike i projects

pub drawer_not_found : (i : Ident) (projects : List ProjectRow) → row_of project_id (record { ordinal = i.ordinal; count = 0 }) projects ≡ None → false ≡ is_drawn projects i
drawer_not_found i projects h = not_found_so project_id (record { ordinal = i.ordinal; count = 0 }) (λ (p : ProjectRow). nat_le 1 i.count && nat_le i.count p.count) projects h ∙ drawn_alike i projects

-- a row at a place that passes is one of all
pub place_any : {R : Type 0} (test : R → Bool) (rows : List R) (k : ℕ) (r : R) → slice_get rows k ≡ Some r → test r ≡ true → list_any test rows ≡ true
place_any test rows k r at h = at-any test rows k r at h
