-- Ids that no row has, and how often an id is there.
use Rattle.std.proofs.Common.{◌≡◌, ℕ, ◌+◌, ◌≤◌, ◌<◌, suc, slice_get, List, [], ◌∷◌, Bool, true, false, cond, Some, None, map, refl, ap, sym, ◌∙◌, arith}
use Rattle.std.specs.Prelude.{◌==◌, ◌&&◌, find}
use Rattle.std.proofs.lemmas.Bool.Decides.{nat_tests}
use Rattle.std.specs.List.{list_any, IsDistinct, AllByRecursion}
use Rattle.std.proofs.lemmas.List.Sums.{sum_by-cons}
use Rattle.api_types.specs.Ident.{Ident}
use Rattle.api_types.specs.Table.{ident_eq, HaveOwnIds}
use Rattle.api_types.specs.Lists.{Each, times}
use Rattle.api_types.specs.RowLists.{RowLists}
use Rattle.api_types.specs.Rows.{project_id, AreTables}
use Rattle.api_types.specs.Consistent.Numbered.{times_in, is_drawn, IdsDiffer, AreDrawn}
use Rattle.api_types.specs.Consistent.{IsConsistent}
use Rattle.api_types.specs.declared.project.ProjectRow.{ProjectRow}
use Rattle.api_types.proofs.ListLemmas.{count-none, none-any, or_none, none-counted, uncounted}
use Rattle.api_types.proofs.NameLemmas.{ident_same, ident_itself, by_test}

-- ids still differ with one more row of a new id
pub ids-push : (rows more : RowLists) (new : Ident) → ((i : Ident) → times_in more i ≡ times_in rows i + cond {A = ℕ} (ident_eq i new) 1 0)
    → times_in rows new ≡ 0 → IdsDiffer rows → IdsDiffer more
ids-push rows more new push fresh once i =
    by_test (ident_eq i new) (times_in more i ≤ 1)
    (λ is. let one : cond {A = ℕ} (ident_eq i new) 1 0 ≡ 1 = ap (λ (b : Bool). cond {A = ℕ} b 1 0) is in
    let zeros : times_in rows i ≡ 0 = ap (times_in rows) (ident_same i new is) ∙ fresh in
    omega (arith, push i, one, zeros))
    (λ fails. let zero : cond {A = ℕ} (ident_eq i new) 1 0 ≡ 0 = ap (λ (b : Bool). cond {A = ℕ} b 1 0) fails in
    let before : times_in rows i ≤ 1 = once i in
    omega (arith, push i, zero, before))

-- another id is as absent as before
pub fresh-push : (rows more : RowLists) (new i : Ident) → ((j : Ident) → times_in more j ≡ times_in rows j + cond {A = ℕ} (ident_eq j new) 1 0)
    → ident_eq i new ≡ false → times_in rows i ≡ 0 → times_in more i ≡ 0
fresh-push rows more new i push other none =
    let zero : cond {A = ℕ} (ident_eq i new) 1 0 ≡ 0 = ap (λ (b : Bool). cond {A = ℕ} b 1 0) other in omega (arith, push i, zero, none)

-- an id that wasn't drawn differs from one that was
pub undrawn_differs : (projects : List ProjectRow) (i j : Ident) → is_drawn projects i ≡ false → is_drawn projects j ≡ true → ident_eq i j ≡ false
undrawn_differs projects i j none drawn =
    by_test (ident_eq i j) (ident_eq i j ≡ false)
    (λ is. let clash : true ≡ false = sym drawn ∙ (ap (is_drawn projects) (sym (ident_same i j is)) ∙ none) in cc)
    (λ fails. fails)

-- an id that no project drew is no row's
pub undrawn_absent : (rows : RowLists) (i : Ident) → AreDrawn rows → is_drawn rows.projects i ≡ false → times_in rows i ≡ 0
undrawn_absent rows i c none =
    let new = undrawn_differs rows.projects i in
    let a = count-none (λ r. ident_eq i r.id) rows.networks (λ k r h. new r.id none (c.networks k r h)) in
    let b = count-none (λ r. ident_eq i r.id) rows.subnets (λ k r h. new r.id none (c.subnets k r h)) in
    let d = count-none (λ r. ident_eq i r.id) rows.ports (λ k r h. new r.id none (c.ports k r h)) in
    let e = count-none (λ r. ident_eq i r.id) rows.groups (λ k r h. new r.id none (c.groups k r h)) in
    let f = count-none (λ r. ident_eq i r.id) rows.rules (λ k r h. new r.id none (c.rules k r h)) in
    let g = count-none (λ r. ident_eq i r.id) rows.routers (λ k r h. new r.id none (c.routers k r h)) in
    let l = count-none (λ r. ident_eq i r.id) rows.floatings (λ k r h. new r.id none (c.floatings k r h)) in
    let m = count-none (λ r. ident_eq i r.id) rows.policies (λ k r h. new r.id none (c.policies k r h)) in
    omega (arith, a, b, d, e, f, g, l, m)

pub none_found : {R : Type 0} (test : R → Bool) (xs : List R) → list_any test xs ≡ false → find test xs ≡ None
none_found test [] h = refl
none_found test (x ∷ xs) h =
    let both = or_none (test x) (list_any test xs) h in
    ap (λ b. cond b (Some x) (find test xs)) both.0 ∙ none_found test xs both.1

-- consistent rows are tables: in each list no two rows have the same id

unlike_all : {R : Type 0} (id_of : R → Ident) (i : Ident) (xs : List R) → Each (λ r. ident_eq i (id_of r) ≡ false) xs → AllByRecursion (λ y. ident_eq i y ≡ false) (map id_of xs)
unlike_all id_of i [] all = tt
unlike_all id_of i (x ∷ xs) all = (all 0 x refl, unlike_all id_of i xs (λ k r at. all (suc k) r at))

own_ids : {R : Type 0} (id_of : R → Ident) (xs : List R) → ((i : Ident) → times id_of i xs ≤ 1) → HaveOwnIds id_of xs
unfolding IsDistinct
own_ids id_of [] once = tt
own_ids id_of (x ∷ xs) once =
    let alone = uncounted (λ r. ident_eq (id_of x) (id_of r)) x xs (once (id_of x)) (ident_itself (id_of x)) in (
      unlike_all id_of (id_of x) xs (none-any (λ r. ident_eq (id_of x) (id_of r)) xs (none-counted (λ r. ident_eq (id_of x) (id_of r)) xs alone)),
      own_ids id_of xs (λ i. omega (arith, once i, sum_by-cons (λ r. cond {A = ℕ} (ident_eq i (id_of r)) 1 0) x xs)),
    )

-- the ordinals rise by one from row to row
own_ordinals : (first : ℕ) (xs : List ProjectRow) → ((k : ℕ) (p : ProjectRow) → slice_get xs k ≡ Some p → p.ordinal ≡ k + first) → HaveOwnIds project_id xs
unfolding IsDistinct
own_ordinals first [] rises = tt
own_ordinals first (x ∷ xs) rises = (
  unlike_all project_id (project_id x) xs (λ k r at. later k r (rises 0 x refl) (rises (suc k) r at)),
  own_ordinals (first + 1) xs (λ k p at. let e = rises (suc k) p at in omega arith),
)
  where
    unequal : (a b : ℕ) → a < b → (a == b) ≡ false
    unequal a b h = grind (arith, nat_tests)

    later : (k : ℕ) (r : ProjectRow) → x.ordinal ≡ 0 + first → r.ordinal ≡ suc k + first → ident_eq (project_id x) (project_id r) ≡ false
    later k r a b = ap (λ t. t && (0 == 0)) (unequal x.ordinal r.ordinal (omega arith))

pub are_tables : (rows : RowLists) → IsConsistent rows → AreTables rows
are_tables rows c = record {
  projects = own_ordinals 1 rows.projects (λ k p at. (c.numbered.projects.ordered k p at).0);
  networks = own_ids (λ r. r.id) rows.networks (λ i. omega (arith, ids i));
  subnets = own_ids (λ r. r.id) rows.subnets (λ i. omega (arith, ids i));
  ports = own_ids (λ r. r.id) rows.ports (λ i. omega (arith, ids i));
  groups = own_ids (λ r. r.id) rows.groups (λ i. omega (arith, ids i));
  rules = own_ids (λ r. r.id) rows.rules (λ i. omega (arith, ids i));
  routers = own_ids (λ r. r.id) rows.routers (λ i. omega (arith, ids i));
  floatings = own_ids (λ r. r.id) rows.floatings (λ i. omega (arith, ids i));
  policies = own_ids (λ r. r.id) rows.policies (λ i. omega (arith, ids i));
}
  where
    ids : (i : Ident) → times_in rows i ≤ 1
    ids = c.numbered.ids
