-- Rows that are added one after the other are those of the list, and each is new where no two rows
-- of the whole have one id.
use Rattle.std.proofs.Common.{◌≡◌, ◌∙◌, ◌≤◌, ◌<◌, ◌+◌, ◌==◌, ◌++◌, ℕ, suc, Bool, true, false, true≢false, not, cond, List, [], ◌∷◌, length, drop, get_or, Some, is_some, slice_get, ap, sym, subst, append-nil, refl, arith}
use Rattle.std.proofs.lemmas.Bool.Decides.{nat_tests}
use Rattle.std.specs.Prelude.{◌&&◌}
use Rattle.std.proofs.lemmas.List.{append_assoc, drop_all, drop_more}
use Rattle.std.proofs.lemmas.List.Sums.{sum_by-cons}
use Rattle.api_types.specs.Consistent.{IsConsistent}
use Rattle.api_types.specs.Consistent.Numbered.{AreOrdered, IdsDiffer}
use Rattle.api_types.specs.Ident.{Ident}
use Rattle.api_types.specs.Lists.{times}
use Rattle.api_types.specs.RowLists.{RowLists}
use Rattle.api_types.specs.Rows.{no_rows, project_id}
use Rattle.api_types.specs.Table.{ident_eq, is_new, row_of}
use Rattle.api_types.specs.declared.kind.Row.{Row}
use Rattle.api_types.specs.declared.kind.Row.TheVariants.{Project, Network, Subnet, Port, Group, Rule, Router, Floating, Policy}
use Rattle.api_types.specs.declared.page.PageRow.{PageRow}
use Rattle.api_types.specs.declared.project.ProjectRow.{ProjectRow}
use Rattle.api_types.proofs.ListLemmas.{both_and}
use Rattle.api_types.proofs.NameLemmas.{ident_itself}
use Rattle.wire_types.specs.Pages.{put_before, rows_from}
use Rattle.agent_wire.specs.Snapshots.{are_new, is_new_row, put_all, put_last}

-- the rows of both, kind by kind
abbrev joined : RowLists → RowLists → RowLists
joined a b = record {
  projects = a.projects ++ b.projects;
  networks = a.networks ++ b.networks;
  subnets = a.subnets ++ b.subnets;
  ports = a.ports ++ b.ports;
  groups = a.groups ++ b.groups;
  rules = a.rules ++ b.rules;
  routers = a.routers ++ b.routers;
  floatings = a.floatings ++ b.floatings;
  policies = a.policies ++ b.policies;
}

put_joined : (r : Row) (a b : RowLists) → joined (put_last r a) b ≡ joined a (put_before r b)
put_joined (Project row) a b = ap (λ xs. record (joined a b) { projects = xs }) (append_assoc a.projects (row ∷ []) b.projects)
put_joined (Network row) a b = ap (λ xs. record (joined a b) { networks = xs }) (append_assoc a.networks (row ∷ []) b.networks)
put_joined (Subnet row) a b = ap (λ xs. record (joined a b) { subnets = xs }) (append_assoc a.subnets (row ∷ []) b.subnets)
put_joined (Port row) a b = ap (λ xs. record (joined a b) { ports = xs }) (append_assoc a.ports (row ∷ []) b.ports)
put_joined (Group row) a b = ap (λ xs. record (joined a b) { groups = xs }) (append_assoc a.groups (row ∷ []) b.groups)
put_joined (Rule row) a b = ap (λ xs. record (joined a b) { rules = xs }) (append_assoc a.rules (row ∷ []) b.rules)
put_joined (Router row) a b = ap (λ xs. record (joined a b) { routers = xs }) (append_assoc a.routers (row ∷ []) b.routers)
put_joined (Floating row) a b = ap (λ xs. record (joined a b) { floatings = xs }) (append_assoc a.floatings (row ∷ []) b.floatings)
put_joined (Policy row) a b = ap (λ xs. record (joined a b) { policies = xs }) (append_assoc a.policies (row ∷ []) b.policies)

joined_none : (a : RowLists) → joined a no_rows ≡ a
joined_none a =
    ap (λ xs. record (joined a no_rows) { projects = xs }) (append-nil a.projects)
    ∙ ap (λ xs. record (joined a no_rows) { projects = a.projects; networks = xs }) (append-nil a.networks)
    ∙ ap (λ xs. record (joined a no_rows) { projects = a.projects; networks = a.networks; subnets = xs }) (append-nil a.subnets)
    ∙ ap (λ xs. record a { ports = xs; groups = a.groups ++ []; rules = a.rules ++ []; routers = a.routers ++ []; floatings = a.floatings ++ []; policies = a.policies ++ [] }) (append-nil a.ports)
    ∙ ap (λ xs. record a { groups = xs; rules = a.rules ++ []; routers = a.routers ++ []; floatings = a.floatings ++ []; policies = a.policies ++ [] }) (append-nil a.groups)
    ∙ ap (λ xs. record a { rules = xs; routers = a.routers ++ []; floatings = a.floatings ++ []; policies = a.policies ++ [] }) (append-nil a.rules)
    ∙ ap (λ xs. record a { routers = xs; floatings = a.floatings ++ []; policies = a.policies ++ [] }) (append-nil a.routers)
    ∙ ap (λ xs. record a { floatings = xs; policies = a.policies ++ [] }) (append-nil a.floatings)
    ∙ ap (λ xs. record a { policies = xs }) (append-nil a.policies)

pub all_put : (ps : List PageRow) (a : RowLists) → put_all ps a ≡ joined a (rows_from ps)
unfolding put_all rows_from
all_put [] a = sym (joined_none a)
all_put (p ∷ ps) a = all_put ps (put_last p.row a) ∙ put_joined p.row a (rows_from ps)

none_joined : (a : RowLists) → joined no_rows a ≡ a
none_joined a = refl

pub put_from_none : (ps : List PageRow) → put_all ps no_rows ≡ rows_from ps
put_from_none ps = all_put ps no_rows ∙ none_joined (rows_from ps)

pub put_split : (ps qs : List PageRow) (a : RowLists) → put_all (ps ++ qs) a ≡ put_all qs (put_all ps a)
unfolding put_all
put_split [] qs a = refl
put_split (p ∷ ps) qs a = put_split ps qs (put_last p.row a)

pub new_split : (ps qs : List PageRow) (a : RowLists) → are_new (ps ++ qs) a ≡ are_new ps a && are_new qs (put_all ps a)
unfolding are_new put_all
new_split [] qs a = refl
new_split (p ∷ ps) qs a = by (is_new_row p.row a) (new_split ps qs (put_last p.row a))
  where
    by : (t : Bool) → are_new (ps ++ qs) (put_last p.row a) ≡ are_new ps (put_last p.row a) && are_new qs (put_all ps (put_last p.row a))
        → t && are_new (ps ++ qs) (put_last p.row a) ≡ (t && are_new ps (put_last p.row a)) && are_new qs (put_all ps (put_last p.row a))
    by true h = h
    by false h = refl

-- ---- each is new

there : {R : Type 0} (id_of : R → Ident) (i : Ident) (xs ys : List R) (row : R) → ident_eq i (id_of row) ≡ true → 1 ≤ times id_of i (xs ++ row ∷ ys)
there id_of i [] ys row is =
    let one : cond {A = ℕ} (ident_eq i (id_of row)) 1 0 ≡ 1 = ap (λ (b : Bool). cond {A = ℕ} b 1 0) is in
    omega (arith, sum_by-cons (λ r. cond {A = ℕ} (ident_eq i (id_of r)) 1 0) row ys, one)
there id_of i (x ∷ xs) ys row is =
    let rest = there id_of i xs ys row is in
    omega (arith, sum_by-cons (λ r. cond {A = ℕ} (ident_eq i (id_of r)) 1 0) x (xs ++ row ∷ ys), rest)

-- a row is new among those before it where its id is there once
new_before : {R : Type 0} (id_of : R → Ident) (xs ys : List R) (row : R) → times id_of (id_of row) (xs ++ row ∷ ys) ≤ 1 → is_new id_of row xs ≡ true
new_before id_of [] ys row h = refl
new_before id_of (x ∷ xs) ys row h = by (ident_eq (id_of row) (id_of x)) refl (new_before id_of xs ys row)
  where
    by : (t : Bool) → ident_eq (id_of row) (id_of x) ≡ t → (times id_of (id_of row) (xs ++ row ∷ ys) ≤ 1 → is_new id_of row xs ≡ true) → not (is_some (cond t (Some x) (row_of id_of (id_of row) xs))) ≡ true
    by true e later =
        let one : cond {A = ℕ} (ident_eq (id_of row) (id_of x)) 1 0 ≡ 1 = ap (λ (b : Bool). cond {A = ℕ} b 1 0) e in
        let again = there id_of (id_of row) xs ys row (ident_itself (id_of row)) in
        absurd (omega (arith, sum_by-cons (λ r. cond {A = ℕ} (ident_eq (id_of row) (id_of r)) 1 0) x (xs ++ row ∷ ys), one, again, h))
    by false e later =
        later (omega (arith, sum_by-cons (λ r. cond {A = ℕ} (ident_eq (id_of row) (id_of r)) 1 0) x (xs ++ row ∷ ys), h))

-- projects are numbered after k
abbrev FollowOn : ℕ → List ProjectRow → Type 0
FollowOn k ps = (j : ℕ) (p : ProjectRow) → slice_get ps j ≡ Some p → p.ordinal ≡ k + j + 1

last_of : (xs ys : List ProjectRow) (row : ProjectRow) → slice_get (xs ++ row ∷ ys) (length xs) ≡ Some row
last_of [] ys row = refl
last_of (x ∷ xs) ys row = last_of xs ys row

equal_to : (a b : ℕ) → (a == b) ≡ true → a ≡ b
equal_to a b h = grind (arith, nat_tests)

other_number : (a b : ProjectRow) → (a.ordinal ≡ b.ordinal → ⊥) → ident_eq (project_id a) (project_id b) ≡ false
other_number a b differ = by (a.ordinal == b.ordinal) refl
  where
    by : (t : Bool) → (a.ordinal == b.ordinal) ≡ t → (t && (0 == 0)) ≡ false
    by true e = absurd (differ (equal_to a.ordinal b.ordinal e))
    by false e = refl

new_project : (k : ℕ) (xs ys : List ProjectRow) (row : ProjectRow) → FollowOn k (xs ++ row ∷ ys) → is_new project_id row xs ≡ true
new_project k [] ys row h = refl
new_project k (x ∷ xs) ys row h =
    let first = h 0 x refl in
    let own = h (suc (length xs)) row (last_of xs ys row) in
    let other = other_number row x (λ e. omega (arith, first, own, e)) in
    ap (λ (t : Bool). not (is_some (cond t (Some x) (row_of project_id (project_id row) xs)))) other
    ∙ new_project (k + 1) xs ys row (λ j p at. let e = h (suc j) p at in omega (arith, e))

-- no two rows have one id
pub record OwnIds (rows : RowLists) : Type 0 where
  pub ordered : AreOrdered rows.projects
  pub ids : IdsDiffer rows

new_row : (r : Row) (a b : RowLists) → OwnIds (joined a (put_before r b)) → is_new_row r a ≡ true
new_row (Project row) a b own = new_project 0 a.projects b.projects row (λ j p at. let e = (own.ordered j p at).0 in omega (arith, e))
new_row (Network row) a b own = let h = own.ids row.id in new_before (λ r. r.id) a.networks b.networks row (omega (arith, h))
new_row (Subnet row) a b own = let h = own.ids row.id in new_before (λ r. r.id) a.subnets b.subnets row (omega (arith, h))
new_row (Port row) a b own = let h = own.ids row.id in new_before (λ r. r.id) a.ports b.ports row (omega (arith, h))
new_row (Group row) a b own = let h = own.ids row.id in new_before (λ r. r.id) a.groups b.groups row (omega (arith, h))
new_row (Rule row) a b own = let h = own.ids row.id in new_before (λ r. r.id) a.rules b.rules row (omega (arith, h))
new_row (Router row) a b own = let h = own.ids row.id in new_before (λ r. r.id) a.routers b.routers row (omega (arith, h))
new_row (Floating row) a b own = let h = own.ids row.id in new_before (λ r. r.id) a.floatings b.floatings row (omega (arith, h))
new_row (Policy row) a b own = let h = own.ids row.id in new_before (λ r. r.id) a.policies b.policies row (omega (arith, h))

all_new : (ps : List PageRow) (a : RowLists) → OwnIds (joined a (rows_from ps)) → are_new ps a ≡ true
unfolding are_new rows_from
all_new [] a own = refl
all_new (p ∷ ps) a own =
    both_and (is_new_row p.row a) (are_new ps (put_last p.row a)) (new_row p.row a (rows_from ps) own)
    (all_new ps (put_last p.row a) (subst OwnIds (sym (put_joined p.row a (rows_from ps))) own))

-- the rows of pages in which two have one id aren't consistent
pub not_consistent : (ps : List PageRow) → are_new ps no_rows ≡ false → IsConsistent (rows_from ps) → ⊥
not_consistent ps none c =
    true≢false (sym (all_new ps no_rows (record { ordered = c.numbered.projects.ordered; ids = c.numbered.ids })) ∙ none)

-- ---- row after row

-- the rest of the rows is added, and comes to what all come to
module _ (page : List PageRow) (i : ℕ) (p : PageRow) (there : i < length page) (is : p ≡ get_or page i p) (a : RowLists) where
  next : drop i page ≡ p ∷ drop (i + 1) page
  next = drop_more page i p there ∙ ap (λ x. x ∷ drop (i + 1) page) (sym is)

  next_new : are_new (drop i page) a ≡ is_new_row p.row a && are_new (drop (i + 1) page) (put_last p.row a)
  unfolding are_new
  next_new = ap (λ l. are_new l a) next

  next_put : put_all (drop i page) a ≡ put_all (drop (i + 1) page) (put_last p.row a)
  unfolding put_all
  next_put = ap (λ l. put_all l a) next

  -- a row whose id is there
  pub old_row : (all : Bool) → are_new (drop i page) a ≡ all → is_new_row p.row a ≡ false → false ≡ all
  old_row all so_far isnt = sym (ap (λ (t : Bool). t && are_new (drop (i + 1) page) (put_last p.row a)) isnt) ∙ sym next_new ∙ so_far

  -- a row whose id is new
  pub new_still : (all : Bool) (b : RowLists) → are_new (drop i page) a ≡ all → is_new_row p.row a ≡ true → b ≡ put_last p.row a → are_new (drop (i + 1) page) b ≡ all
  new_still all b so_far new put = ap (are_new (drop (i + 1) page)) put ∙ sym (ap (λ (t : Bool). t && are_new (drop (i + 1) page) (put_last p.row a)) new) ∙ sym next_new ∙ so_far

  pub put_still : (all b : RowLists) → put_all (drop i page) a ≡ all → b ≡ put_last p.row a → put_all (drop (i + 1) page) b ≡ all
  put_still all b so_far put = ap (put_all (drop (i + 1) page)) put ∙ sym next_put ∙ so_far

pub all_added : (page : List PageRow) (i : ℕ) (a all : RowLists) (new : Bool) → length page ≤ i → are_new (drop i page) a ≡ new → put_all (drop i page) a ≡ all → (true ≡ new) × (a ≡ all)
unfolding are_new put_all
all_added page i a all new over so_new so_put =
    (ap (λ l. are_new l a) (sym (drop_all i page over)) ∙ so_new, ap (λ l. put_all l a) (sym (drop_all i page over)) ∙ so_put)

-- ---- two lists of pages

pub both_new : (ps qs : List PageRow) (a : RowLists) → are_new ps no_rows ≡ true → a ≡ put_all ps no_rows → are_new qs a ≡ true → put_all qs a ≡ rows_from (ps ++ qs)
both_new ps qs a first mid second = ap (put_all qs) mid ∙ sym (put_split ps qs no_rows) ∙ put_from_none (ps ++ qs)

pub first_old : (ps qs : List PageRow) → are_new ps no_rows ≡ false → are_new (ps ++ qs) no_rows ≡ false
first_old ps qs old = new_split ps qs no_rows ∙ ap (λ (t : Bool). t && are_new qs (put_all ps no_rows)) old

pub second_old : (ps qs : List PageRow) (a : RowLists) → are_new ps no_rows ≡ true → a ≡ put_all ps no_rows → are_new qs a ≡ false → are_new (ps ++ qs) no_rows ≡ false
second_old ps qs a first mid old =
    new_split ps qs no_rows ∙ ap (λ (t : Bool). t && are_new qs (put_all ps no_rows)) first ∙ ap (are_new qs) (sym mid) ∙ old
