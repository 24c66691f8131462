-- How many rows a project owns, in lists that are edited.
use Rattle.std.proofs.Common.{◌≡◌, ℕ, ◌+◌, ◌-◌, ◌≤◌, ◌<◌, zero, suc, List, [], ◌∷◌, ◌++◌, cond, Some, length, take, drop, slice_get, slice_set, insert, remove, ap, sym, ◌∙◌, arith}
use Rattle.std.specs.Prelude.{bytes_eq}
use Rattle.std.specs.List.{sum_by}
use Rattle.std.proofs.lemmas.List.Sums.{sum_by-append, sum_by-cons, sum_by-take-drop, sum_by_push}
use Rattle.api_types.specs.Counts.{one_at}
use Rattle.api_types.specs.Table.{owned_count}

module _ {R : Type 0} (project_of : R → List ℕ) (project : List ℕ) where
  -- one at a row of the project, and nothing at others
  abbrev own : R → ℕ
  own r = cond (bytes_eq (project_of r) project) 1 0

  pub owned_pushed :
      (rows : List R) (r : R)
      → owned_count project_of project (rows ++ r ∷ []) ≡ owned_count project_of project rows + one_at (project_of r) project
  owned_pushed rows r = sum_by_push own rows r

  pub owned_inserted :
      (rows : List R) (i : ℕ) (r : R)
      → owned_count project_of project (insert rows i r) ≡ owned_count project_of project rows + one_at (project_of r) project
  owned_inserted rows i r =
      let apart : sum_by own (insert rows i r) ≡ sum_by own (take i rows) + sum_by own (r ∷ drop i rows) = sum_by-append own (take i rows) (r ∷ drop i rows) in
      let first : sum_by own (r ∷ drop i rows) ≡ own r + sum_by own (drop i rows) = sum_by-cons own r (drop i rows) in
      let all : sum_by own (take i rows) + sum_by own (drop i rows) ≡ sum_by own rows = sum_by-take-drop own rows i in
      omega (arith, apart, first, all)

  -- the row at a place counts beside the others
  pub owned_beside :
      (rows : List R) (i : ℕ) (r : R) → slice_get rows i ≡ Some r
      → owned_count project_of project (remove rows i) + one_at (project_of r) project ≡ owned_count project_of project rows
  owned_beside [] i r at = cc
  owned_beside (x ∷ rows) zero r at =
      let same : x ≡ r = cc in
      let first : sum_by own (x ∷ rows) ≡ own x + sum_by own rows = sum_by-cons own x rows in
      let alike : own x ≡ own r = ap own same in
      omega (arith, first, alike)
  owned_beside (x ∷ rows) (suc i) r at =
      let left : sum_by own (x ∷ remove rows i) ≡ own x + sum_by own (remove rows i) = sum_by-cons own x (remove rows i) in
      let first : sum_by own (x ∷ rows) ≡ own x + sum_by own rows = sum_by-cons own x rows in
      let rest : sum_by own (remove rows i) + own r ≡ sum_by own rows = owned_beside rows i r at in
      omega (arith, left, first, rest)

  pub owned_removed :
      (rows : List R) (i : ℕ) (r : R) → slice_get rows i ≡ Some r
      → owned_count project_of project (remove rows i) ≡ owned_count project_of project rows - one_at (project_of r) project
  owned_removed rows i r at =
      let beside : sum_by own (remove rows i) + own r ≡ sum_by own rows = owned_beside rows i r at in
      omega (arith, beside)

  -- the row at a place is counted in place of the old one
  set_beside :
      (rows : List R) (i : ℕ) (old new : R) → slice_get rows i ≡ Some old
      → owned_count project_of project (slice_set rows i new) + one_at (project_of old) project
      ≡ owned_count project_of project rows + one_at (project_of new) project
  set_beside [] i old new at = cc
  set_beside (x ∷ rows) zero old new at =
      let same : x ≡ old = cc in
      let first : sum_by own (x ∷ rows) ≡ own x + sum_by own rows = sum_by-cons own x rows in
      let now : sum_by own (new ∷ rows) ≡ own new + sum_by own rows = sum_by-cons own new rows in
      let alike : own x ≡ own old = ap own same in
      omega (arith, first, now, alike)
  set_beside (x ∷ rows) (suc i) old new at =
      let first : sum_by own (x ∷ rows) ≡ own x + sum_by own rows = sum_by-cons own x rows in
      let now : sum_by own (x ∷ slice_set rows i new) ≡ own x + sum_by own (slice_set rows i new) = sum_by-cons own x (slice_set rows i new) in
      let rest : sum_by own (slice_set rows i new) + own old ≡ sum_by own rows + own new = set_beside rows i old new at in
      omega (arith, first, now, rest)

  pub owned_set :
      (rows : List R) (i : ℕ) (old new : R) → slice_get rows i ≡ Some old
      → owned_count project_of project (slice_set rows i new)
      ≡ owned_count project_of project rows + one_at (project_of new) project - one_at (project_of old) project
  owned_set rows i old new at =
      let beside : sum_by own (slice_set rows i new) + own old ≡ sum_by own rows + own new = set_beside rows i old new at in
      omega (arith, beside)
