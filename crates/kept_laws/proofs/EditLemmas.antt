-- Edits in a row, and rows that go one by one.
use Rattle.std.proofs.Common.{◌≡◌, ℕ, ◌≤◌, List, [], ◌∷◌, Bool, true, false, cond, Some, slice_get, remove, refl, ap, sym, ◌∙◌, map, not}
use Rattle.std.specs.Prelude.{filter, ◌&&◌, ◌||◌, count_by}
use Rattle.std.specs.List.{list_any}
use Rattle.api_types.specs.Ident.{Ident}
use Rattle.api_types.specs.RowLists.{RowLists}
use Rattle.api_types.specs.Table.{ident_eq}
use Rattle.api_types.specs.declared.kind.Kind.TheVariants.{Subnet as SubnetKind}
use Rattle.api_types.specs.declared.kind.Row.TheVariants.{Floating, Port}
use Rattle.api_types.specs.declared.floating.FloatingRow.{FloatingRow}
use Rattle.api_types.specs.declared.port.PortRow.{PortRow}
use Rattle.api_types.specs.declared.subnet.SubnetRow.{SubnetRow}
use Rattle.api_types.proofs.ListLemmas.{remove-filter}
use Rattle.call_parts.specs.Edits.{Put, dropped, edited, made}
use Rattle.api_types.specs.WithRows.{gone_from, put_in}

module _ {R : Type 0} (id_of : R → Ident) where
  -- the row at a place goes
  pub gone-remove : (xs : List R) (k : ℕ) (x : R) → slice_get xs k ≡ Some x → (i : Ident) → ident_eq i (id_of x) ≡ true
      → count_by (λ y. ident_eq i (id_of y)) xs ≤ 1 → gone_from id_of i xs ≡ remove xs k
  gone-remove xs k x at i is once = sym (remove-filter (λ y. ident_eq i (id_of y)) xs k x at is once)

  -- one test after another keeps what passes both
  filter-filter : (p q : R → Bool) (xs : List R) → filter p (filter q xs) ≡ filter (λ x. q x && p x) xs
  filter-filter p q [] = refl
  filter-filter p q (x ∷ xs) = by (q x) (p x) (filter-filter p q xs)
    where
      by : (a b : Bool) → filter p (filter q xs) ≡ filter (λ x. q x && p x) xs
          → filter p (cond a (x ∷ filter q xs) (filter q xs)) ≡ cond (a && p x) (x ∷ filter (λ x. q x && p x) xs) (filter (λ x. q x && p x) xs)
      by true b rest = here (p x) rest
        where
          here : (c : Bool) → filter p (filter q xs) ≡ filter (λ x. q x && p x) xs
              → cond c (x ∷ filter p (filter q xs)) (filter p (filter q xs)) ≡ cond c (x ∷ filter (λ x. q x && p x) xs) (filter (λ x. q x && p x) xs)
          here true r = ap (λ ys. x ∷ ys) r
          here false r = r
      by false b rest = rest

  abbrev pub all_gone : List Ident → List R → List R
  all_gone [] xs = xs
  all_gone (i ∷ is) xs = all_gone is (gone_from id_of i xs)

  same_filter : (p q : R → Bool) (xs : List R) → ((x : R) → p x ≡ q x) → filter p xs ≡ filter q xs
  same_filter p q [] e = refl
  same_filter p q (x ∷ xs) e = λ j. cond (e x j) (x ∷ same_filter p q xs e j) (same_filter p q xs e j)

  not_or : (a b : Bool) → not a && not b ≡ not (a || b)
  not_or true b = refl
  not_or false b = refl

  -- rows that go one by one leave those that have none of the ids
  pub all_gone-filter : (is : List Ident) (xs : List R) → all_gone is xs ≡ filter (λ x. not (list_any (λ i. ident_eq i (id_of x)) is)) xs
  all_gone-filter [] xs = all xs
    where
      all : (ys : List R) → ys ≡ filter (λ x. not false) ys
      all [] = refl
      all (y ∷ ys) = ap (λ zs. y ∷ zs) (all ys)
  all_gone-filter (i ∷ is) xs =
      all_gone-filter is (gone_from id_of i xs)
      ∙ (filter-filter (λ x. not (list_any (λ j. ident_eq j (id_of x)) is)) (λ x. not (ident_eq i (id_of x))) xs
      ∙ same_filter _ _ xs (λ x. not_or (ident_eq i (id_of x)) (list_any (λ j. ident_eq j (id_of x)) is)))

-- of one kind, as of each
pub subnets_dropped : (rows : RowLists) (ss : List SubnetRow)
    → made rows (dropped SubnetKind (λ s. s.id) ss) ≡ record rows { subnets = all_gone (λ s. s.id) (map (λ (s : SubnetRow). s.id) ss) rows.subnets }
subnets_dropped rows [] = refl
subnets_dropped rows (s ∷ ss) = subnets_dropped (record rows { subnets = gone_from (λ (q : SubnetRow). q.id) s.id rows.subnets }) ss

-- rows that are put one by one
module _ {R : Type 0} (id_of : R → Ident) where
  abbrev pub all_put : List R → List R → List R
  all_put [] xs = xs
  all_put (r ∷ rs) xs = all_put rs (put_in id_of r xs)

pub floatings_put : (rows : RowLists) (fs : List FloatingRow) → made rows (map (λ f. Put (Floating f)) fs) ≡ record rows { floatings = all_put (λ f. f.id) fs rows.floatings }
floatings_put rows [] = refl
floatings_put rows (f ∷ fs) = floatings_put (record rows { floatings = put_in (λ (g : FloatingRow). g.id) f rows.floatings }) fs

-- a port that is put before floating addresses is put after them
pub port_last : (rows : RowLists) (p : PortRow) (fs : List FloatingRow)
    → made rows (Put (Port p) ∷ map (λ f. Put (Floating f)) fs) ≡ edited (made rows (map (λ f. Put (Floating f)) fs)) (Put (Port p))
port_last rows p fs = floatings_put (edited rows (Put (Port p))) fs ∙ sym (ap (λ r. edited r (Put (Port p))) (floatings_put rows fs))
