-- Rows that are migrated one by one are each new, since old rows have ids of their own.
use Rattle.std.proofs.Common.{◌≡◌, ◌∙◌, ℕ, ◌+◌, zero, suc, List, [], ◌∷◌, ◌++◌, Bool, true, false, cond, not, Option, None, Some, map, take, slice_get, refl, ap, sym, arith}
use Rattle.std.specs.Prelude.{find, is_some, if◌then◌else◌}
use Rattle.api_types.specs.Ident.{Ident}
use Rattle.api_types.specs.RowLists.{RowLists}
use Rattle.api_types.specs.Table.{row_of, ident_eq, is_new, HaveOwnIds}
use Rattle.api_types.proofs.TableLemmas.{new_here}

module _ {X Y : Type 0} (f : X → Y) (id_of : X → Ident) (new_id : Y → Ident) (same : (x : X) → new_id (f x) ≡ id_of x) where
  none-map : (i : Ident) (xs : List X) → row_of id_of i xs ≡ None → row_of new_id i (map f xs) ≡ None
  none-map i [] none = refl
  none-map i (x ∷ xs) none = by (ident_eq i (id_of x)) refl (none-map i xs)
    where
      by : (b : Bool) → ident_eq i (id_of x) ≡ b → (row_of id_of i xs ≡ None → row_of new_id i (map f xs) ≡ None) → row_of new_id i (map f (x ∷ xs)) ≡ None
      by true e more = let found : Some x ≡ None = sym (ap (λ b. cond b (Some x) (row_of id_of i xs)) e) ∙ none in cc
      by false e more =
          let rest : row_of id_of i xs ≡ None = sym (ap (λ b. cond b (Some x) (row_of id_of i xs)) e) ∙ none in
          ap (λ b. cond b (Some (f x)) (row_of new_id i (map f xs))) (ap (ident_eq i) (same x) ∙ e) ∙ more rest

  pub new_migrated : (xs : List X) (k : ℕ) (x : X) → HaveOwnIds id_of xs → slice_get xs k ≡ Some x → is_new new_id (f x) (map f (take k xs)) ≡ true
  new_migrated xs k x own at =
      ap (λ o. not (is_some o)) (ap (λ i. row_of new_id i (map f (take k xs))) (same x) ∙ none-map (id_of x) (take k xs) (new_here id_of k x xs own at))

pub one_more : {X Y : Type 0} (f : X → Y) (xs : List X) (k : ℕ) (x : X) → slice_get xs k ≡ Some x → map f (take k xs) ++ f x ∷ [] ≡ map f (take (suc k) xs)
one_more f [] k x at = cc
one_more f (y ∷ xs) zero x at = let same : x ≡ y = cc in ap (λ z. f z ∷ []) same
one_more f (y ∷ xs) (suc k) x at = ap (λ zs. f y ∷ zs) (one_more f xs k x at)

-- one row more is migrated: `get` and `put` are a kind's list among the rows
pub next_rows : {X Y : Type 0} (f : X → Y) (id_of : X → Ident) (new_id : Y → Ident) (same : (x : X) → new_id (f x) ≡ id_of x)
    (get : RowLists → List Y) (put : RowLists → List Y → RowLists)
    (got : (rows : RowLists) (ys : List Y) → get (put rows ys) ≡ ys) (again : (rows : RowLists) (ys zs : List Y) → put (put rows ys) zs ≡ put rows zs)
    (xs : List X) (k : ℕ) (x : X) → HaveOwnIds id_of xs → slice_get xs k ≡ Some x
    → (start before after : RowLists) (row : Y) (added : Bool)
    → before ≡ put start (map f (take k xs)) → row ≡ f x → added ≡ is_new new_id row (get before)
    → after ≡ (if added then put before (get before ++ row ∷ []) else before) → after ≡ put start (map f (take (k + 1) xs))
next_rows {X} {Y} f id_of new_id same get put got again xs k x own at start before after row added was is tells made =
    let front : List Y = map f (take k xs) in
    let new : added ≡ true = tells ∙ (λ j. is_new new_id (is j) ((ap get was ∙ got start front) j)) ∙ new_migrated f id_of new_id same xs k x own at in
    let more : suc k ≡ k + 1 = omega arith in
    made ∙ ap (λ (b : Bool). if b then put before (get before ++ row ∷ []) else before) new
    ∙ (λ j. put (was j) ((ap get was ∙ got start front) j ++ is j ∷ [])) ∙ again start front (front ++ f x ∷ [])
    ∙ ap (put start) (one_more f xs k x at ∙ ap (λ n. map f (take n xs)) more)
