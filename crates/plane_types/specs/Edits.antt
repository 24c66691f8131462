-- Edits of a list of rows, and how many rows they write: at a place a row is taken out, one is put
-- in, or both.
use Rattle.std.specs.Prelude.{◌≡◌, ◌≤◌, ⊤, ℕ, ◌+◌, Bool, List, [], ◌∷◌, map, Option, Some, None, is_some, if◌then◌else◌, insert, length, remove}
use Rattle.plane_types.specs.Keyed.{AreApart, row_at, below, put_at}
use Rattle.plane_types.specs.declared.delta.Edit.{Edit}

abbrev pub one_if : Bool → ℕ
one_if b = if b then 1 else 0

module _ {R : Type 0} where
  abbrev pub with_put : List R → ℕ → Option R → List R
  with_put rows place None = rows
  with_put rows place (Some row) = insert rows place row

  abbrev pub with_edit : List R → Edit R → List R
  with_edit rows e = with_put (if e.out then remove rows e.place else rows) e.place e.put

  -- one edit after the other
  abbrev pub with_edits : List R → List (Edit R) → List R
  with_edits rows [] = rows
  with_edits rows (e ∷ es) = with_edits (with_edit rows e) es

  -- how many rows are taken out and put in
  abbrev pub writes : Edit R → ℕ
  writes e = one_if e.out + one_if (is_some e.put)

  abbrev pub all_writes : List (Edit R) → ℕ
  all_writes [] = 0
  all_writes (e ∷ es) = writes e + all_writes es

  -- how many rows are put in
  abbrev pub all_puts : List (Edit R) → ℕ
  all_puts [] = 0
  all_puts (e ∷ es) = one_if (is_some e.put) + all_puts es

module _ {K R : Type 0} (before : K → K → Bool) where
  -- the edit that puts this at a key
  abbrev pub edit_at : List (K × R) → K × Option R → Edit R
  edit_at xs o = record {
    place = below before o.0 xs;
    out = is_some (row_at before o.0 xs);
    put = o.1;
  }

  abbrev pub edits_of : List (K × Option R) → List (K × R) → List (Edit R)
  edits_of [] xs = []
  edits_of (o ∷ os) xs = edit_at xs o ∷ edits_of os (put_at before o.0 o.1 xs)

  -- each of these rows stands in the table, under its key
  abbrev pub StandIn : List (K × R) → List (K × R) → Type 0
  StandIn xs [] = ⊤
  StandIn xs (b ∷ bs) = (row_at before b.0 xs ≡ Some b.1) × StandIn xs bs

  -- at each of these keys the two tables differ
  abbrev pub Differ : List (K × R) → List (K × R) → List (K × Option R) → Type 0
  Differ old new [] = ⊤
  Differ old new (o ∷ os) =
      (row_at before o.0 old ≡ row_at before o.0 new → ⊥) × Differ old new os

  -- the rows that are written are at most those that stand in one of the two tables alone: all
  -- rows of both, less any that stand in both
  abbrev pub AreFew : List (K × R) → List (K × R) → List (Edit R) → Type 0
  AreFew old new edits =
      (both : List (K × R))
      → AreApart before (map (λ (x : K × R). x.0) both)
      → StandIn old both
      → StandIn new both
      → all_writes edits + (length both + length both) ≤ length old + length new
