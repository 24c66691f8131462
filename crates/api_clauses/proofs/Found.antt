-- What a look-up by id tells of a list.
use Rattle.std.proofs.Common.{◌≡◌, ℕ, List, [], ◌∷◌, Bool, true, false, cond, Some, None, map, refl, ap, ◌∙◌, arith}
use Rattle.std.specs.Prelude.{◌||◌, find}
use Rattle.std.specs.List.{list_any, IsDistinct, AllByRecursion}
use Rattle.std.proofs.lemmas.List.Sums.{sum_by-cons}
use Rattle.api_types.specs.Ident.{Ident}
use Rattle.api_types.specs.Table.{ident_eq, row_of, HaveOwnIds}
use Rattle.api_types.specs.Lists.{stands, times}
use Rattle.api_types.proofs.NameLemmas.{ident_same}

-- a row is found exactly where one passes
found_any : {R : Type 0} (test : R → Bool) (rows : List R) (r : R) → find test rows ≡ Some r → list_any test rows ≡ true
found_any test [] r h = cc
found_any test (x ∷ rows) r h = by (test x) h (found_any test rows r)
  where
    by : (b : Bool) → cond b (Some x) (find test rows) ≡ Some r → (find test rows ≡ Some r → list_any test rows ≡ true) → b || list_any test rows ≡ true
    by true h rest = refl
    by false h rest = rest h

unfound_any : {R : Type 0} (test : R → Bool) (rows : List R) → find test rows ≡ None → list_any test rows ≡ false
unfound_any test [] h = refl
unfound_any test (x ∷ rows) h = by (test x) h (unfound_any test rows)
  where
    by : (b : Bool) → cond b (Some x) (find test rows) ≡ None → (find test rows ≡ None → list_any test rows ≡ false) → b || list_any test rows ≡ false
    by true h rest = cc
    by false h rest = rest h

pub found : {R : Type 0} (id_of : R → Ident) (i : Ident) (rows : List R) (r : R) → row_of id_of i rows ≡ Some r → stands id_of i rows ≡ true
found id_of i rows r = found_any (λ r. ident_eq i (id_of r)) rows r

pub not_found : {R : Type 0} (id_of : R → Ident) (i : Ident) (rows : List R) → row_of id_of i rows ≡ None → stands id_of i rows ≡ false
not_found id_of i rows = unfound_any (λ r. ident_eq i (id_of r)) rows

-- where ids differ, one that is found is there once
pub found_never : {R : Type 0} (id_of : R → Ident) (i : Ident) (rows : List R) → row_of id_of i rows ≡ None → times id_of i rows ≡ 0
found_never id_of i [] h = refl
found_never id_of i (x ∷ rows) h = by (ident_eq i (id_of x)) refl h (found_never id_of i rows)
  where
    by : (b : Bool) → ident_eq i (id_of x) ≡ b → cond b (Some x) (row_of id_of i rows) ≡ None → (row_of id_of i rows ≡ None → times id_of i rows ≡ 0) → times id_of i (x ∷ rows) ≡ 0
    by true e h later = cc
    by false e h later =
        let none : cond {A = ℕ} (ident_eq i (id_of x)) 1 0 ≡ 0 = ap (λ (b : Bool). cond {A = ℕ} b 1 0) e in
        let rest = later h in
        omega (arith, sum_by-cons (λ r. cond {A = ℕ} (ident_eq i (id_of r)) 1 0) x rows, none, rest)

-- an id that differs from those of all rows is there never
differs_never : {R : Type 0} (id_of : R → Ident) (i : Ident) (rows : List R) → AllByRecursion (λ y. ident_eq i y ≡ false) (map id_of rows) → times id_of i rows ≡ 0
differs_never id_of i [] all = refl
differs_never id_of i (x ∷ rows) all =
    let none : cond {A = ℕ} (ident_eq i (id_of x)) 1 0 ≡ 0 = ap (λ (b : Bool). cond {A = ℕ} b 1 0) all.0 in
    let rest = differs_never id_of i rows all.1 in
    omega (arith, sum_by-cons (λ r. cond {A = ℕ} (ident_eq i (id_of r)) 1 0) x rows, none, rest)

pub found_once : {R : Type 0} (id_of : R → Ident) (i : Ident) (rows : List R) (r : R) → HaveOwnIds id_of rows → row_of id_of i rows ≡ Some r → times id_of i rows ≡ 1
unfolding IsDistinct
found_once id_of i [] r own h = cc
found_once id_of i (x ∷ rows) r own h = by (ident_eq i (id_of x)) refl h own.0 (found_once id_of i rows r own.1)
  where
    by : (b : Bool) → ident_eq i (id_of x) ≡ b → cond b (Some x) (row_of id_of i rows) ≡ Some r → AllByRecursion (λ y. ident_eq (id_of x) y ≡ false) (map id_of rows)
        → (row_of id_of i rows ≡ Some r → times id_of i rows ≡ 1) → times id_of i (x ∷ rows) ≡ 1
    by true e h differ later =
        let one : cond {A = ℕ} (ident_eq i (id_of x)) 1 0 ≡ 1 = ap (λ (b : Bool). cond {A = ℕ} b 1 0) e in
        let rest : times id_of i rows ≡ 0 = ap (λ k. times id_of k rows) (ident_same i (id_of x) e) ∙ differs_never id_of (id_of x) rows differ in
        omega (arith, sum_by-cons (λ r. cond {A = ℕ} (ident_eq i (id_of r)) 1 0) x rows, one, rest)
    by false e h differ later =
        let none : cond {A = ℕ} (ident_eq i (id_of x)) 1 0 ≡ 0 = ap (λ (b : Bool). cond {A = ℕ} b 1 0) e in
        let rest = later h in
        omega (arith, sum_by-cons (λ r. cond {A = ℕ} (ident_eq i (id_of r)) 1 0) x rows, none, rest)
