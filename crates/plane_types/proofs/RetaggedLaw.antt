-- The tags that are given realise the rows.
use Rattle.std.proofs.Common.{◌≡◌, ◌∙◌, ℕ, zero, suc, ◌+◌, ◌<◌, ◌≤◌, List, [], ◌∷◌, Bool, true, false, cond, Option, Some, None, length, map, refl, ap, subst, arith}
use Rattle.std.specs.Prelude.{count_by, ◌==◌, ◌||◌, is_none, slice_get}
use Rattle.std.specs.List.{cons_option, filter, filter_map, list_any, AllByRecursion, IsDistinct}
use Rattle.std.proofs.lemmas.Bool.{eqb-true}
use Rattle.std.proofs.lemmas.List.{length-map}
use Rattle.std.proofs.lemmas.List.Sums.{count_by-le-length, length-filter}
use Rattle.api_types.proofs.IdLemmas.{are_tables}
use Rattle.api_types.proofs.ListLemmas.{some_equal}
use Rattle.api_types.specs.Consistent.{IsConsistent}
use Rattle.api_types.specs.Ident.{Ident}
use Rattle.api_types.specs.Lists.{Each}
use Rattle.api_types.specs.RowLists.{RowLists}
use Rattle.api_types.specs.Table.{ident_eq}
use Rattle.api_types.specs.declared.network.NetworkRow.{NetworkRow}
use Rattle.plane_types.specs.Realises.{RealisesTags, TagStands}
use Rattle.plane_types.specs.TableRows.{is_tagged, tag_of}
use Rattle.plane_types.specs.declared.table.TagRow.{TagRow}
use Rattle.plane_types.specs.NewTags.{AreTags, free_tags, in_turn, is_free, kept_tags, next_tag, numbers, new_tags, tag_row, tagged_networks, with_tag}
use Rattle.plane_types.proofs.NumberLemmas.{count-cons, count-filter, enough-free, none-free, once-numbered, one_if}
use Rattle.plane_types.proofs.TagLemmas.{found, has_tag, kept-once, kept-or-new}

-- a fact on the first element and on each of the rest
each-cons : {R : Type 0} (P : R → Type 0) (x : R) (xs : List R) → P x → Each P xs → Each P (x ∷ xs)
each-cons P x xs h rest zero y at = subst P (some_equal x y at) h
each-cons P x xs h rest (suc k) y at = rest k y at

-- what holds of each tag holds of the one that is found
of-found : (P : ℕ → Type 0) (ts : List TagRow) → Each (λ (t : TagRow). P t.tag) ts → (n : Ident) (tag : ℕ) → tag_of ts n ≡ Some tag → P tag
of-found P [] h n tag e = cc
of-found P (t ∷ ts) h n tag e = go (ident_eq n t.network) e (of-found P ts (λ k r at. h (suc k) r at) n tag)
  where
    go : (b : Bool) → found n t ts b ≡ Some tag → (tag_of ts n ≡ Some tag → P tag) → P tag
    go true f rest = let same : t.tag ≡ tag = cc in subst P same (h zero t refl)
    go false f rest = rest f

-- a number from 1 to the last tag
abbrev in_range : ℕ → Type 0
in_range tag = (0 < tag) × (tag ≤ 4094)

numbers-within : (first many : ℕ) → 0 < first → first + many ≤ 4095 → AllByRecursion in_range (numbers first many)
unfolding numbers
numbers-within first zero h k = tt
numbers-within first (suc many) h k = ((h, omega (arith, k)), numbers-within (first + 1) many (omega arith) (omega (arith, k)))

all-filter : (P : ℕ → Type 0) (q : ℕ → Bool) (xs : List ℕ) → AllByRecursion P xs → AllByRecursion P (filter q xs)
all-filter P q [] h = tt
all-filter P q (x ∷ xs) h = go (q x) (all-filter P q xs h.1)
  where
    go : (b : Bool) → AllByRecursion P (filter q xs) → AllByRecursion P (cond b (x ∷ filter q xs) (filter q xs))
    go true rest = (h.0, rest)
    go false rest = rest

none-counted : (p : ℕ → Bool) (xs : List ℕ) → list_any p xs ≡ false → count_by p xs ≡ 0
none-counted p [] h = refl
none-counted p (x ∷ xs) h = go (p x) refl h (none-counted p xs)
  where
    go : (b : Bool) → p x ≡ b → (b || list_any p xs) ≡ false → (list_any p xs ≡ false → count_by p xs ≡ 0) → count_by p (x ∷ xs) ≡ 0
    go true e k rest = cc
    go false e k rest =
        let none = rest k in
        let one : one_if (p x) ≡ 0 = ap one_if e in
        omega (arith, count-cons p x xs, none, one)

-- ids that differ still do when some are left out
distinct-filter : (q : NetworkRow → Bool) (ns : List NetworkRow) → IsDistinct ident_eq (map (λ (n : NetworkRow). n.id) ns) → IsDistinct ident_eq (map (λ (n : NetworkRow). n.id) (filter q ns))
unfolding IsDistinct
distinct-filter q [] h = tt
distinct-filter q (n ∷ ns) h = go (q n) (distinct-filter q ns h.1)
  where
    others : (ms : List NetworkRow) → AllByRecursion (λ i. ident_eq n.id i ≡ false) (map (λ (m : NetworkRow). m.id) ms) → AllByRecursion (λ i. ident_eq n.id i ≡ false) (map (λ (m : NetworkRow). m.id) (filter q ms))
    others [] k = tt
    others (m ∷ ms) k = by (q m) (others ms k.1)
      where
        by : (b : Bool) → AllByRecursion (λ i. ident_eq n.id i ≡ false) (map (λ (m : NetworkRow). m.id) (filter q ms)) → AllByRecursion (λ i. ident_eq n.id i ≡ false) (map (λ (m : NetworkRow). m.id) (cond b (m ∷ filter q ms) (filter q ms)))
        by true rest = (k.0, rest)
        by false rest = rest

    go : (b : Bool) → IsDistinct ident_eq (map (λ (m : NetworkRow). m.id) (filter q ns)) → IsDistinct ident_eq (map (λ (m : NetworkRow). m.id) (cond b (n ∷ filter q ns) (filter q ns)))
    go true rest = (others ns h.0, rest)
    go false rest = rest

module _ (rows : RowLists) (old : List TagRow) where
  -- networks that had no tag
  abbrev is_new : Ident → Bool
  is_new n = is_none (tag_of old n)

  new-counts : (n : Ident) (ns : List Ident) (o : Option ℕ) → tag_of old n ≡ o → count_by is_new (n ∷ ns) ≡ one_if (is_none o) + count_by is_new ns
  new-counts n ns o e = count-cons is_new n ns ∙ ap (λ p. one_if (is_none p) + count_by is_new ns) e

  -- each network has a row, where the free tags suffice
  networks-all : (free : List ℕ) (ns : List Ident) → count_by is_new ns ≤ length free → map (λ (t : TagRow). t.network) (in_turn rows old free ns) ≡ ns
  unfolding in_turn
  networks-all free [] h = refl
  networks-all free (n ∷ ns) h = go (tag_of old n) refl free h (λ left. networks-all left ns)
    where
      go : (o : Option ℕ) → tag_of old n ≡ o → (fs : List ℕ) → count_by is_new (n ∷ ns) ≤ length fs → ((left : List ℕ) → count_by is_new ns ≤ length left → map (λ (t : TagRow). t.network) (in_turn rows old left ns) ≡ ns) → map (λ (t : TagRow). t.network) (with_tag rows n fs (λ left. in_turn rows old left ns) (next_tag o fs)) ≡ n ∷ ns
      go (Some tag) e fs k rest = let fit : count_by is_new ns ≤ length fs = omega (arith, new-counts n ns (Some tag) e, k) in ap (λ ms. n ∷ ms) (rest fs fit)
      go None e [] k rest = absurd (omega (arith, new-counts n ns None e, k))
      go None e (f ∷ fs) k rest = let fit : count_by is_new ns ≤ length fs = omega (arith, new-counts n ns None e, k) in ap (λ ms. n ∷ ms) (rest fs fit)

  -- a tag is given no more often than it was kept or is free
  tags-counted : (tag : ℕ) (free : List ℕ) (ns : List Ident) → count_by (has_tag tag) (in_turn rows old free ns) ≤ count_by (λ k. k == tag) (filter_map (tag_of old) ns) + count_by (λ k. k == tag) free
  unfolding in_turn
  tags-counted tag free [] = omega arith
  tags-counted tag free (n ∷ ns) = go (tag_of old n) free (λ left. tags-counted tag left ns)
    where
      go : (o : Option ℕ) (fs : List ℕ) → ((left : List ℕ) → count_by (has_tag tag) (in_turn rows old left ns) ≤ count_by (λ k. k == tag) (filter_map (tag_of old) ns) + count_by (λ k. k == tag) left) → count_by (has_tag tag) (with_tag rows n fs (λ left. in_turn rows old left ns) (next_tag o fs)) ≤ count_by (λ k. k == tag) (cons_option o (filter_map (tag_of old) ns)) + count_by (λ k. k == tag) fs
      go (Some own) fs rest = omega (arith, count-cons (has_tag tag) (tag_row rows n own) (in_turn rows old fs ns), count-cons (λ k. k == tag) own (filter_map (tag_of old) ns), rest fs)
      go None [] rest = rest []
      go None (f ∷ fs) rest = omega (arith, count-cons (has_tag tag) (tag_row rows n f) (in_turn rows old fs ns), count-cons (λ k. k == tag) f fs, rest fs)

  -- each row stands
  rows-stand : ((n : Ident) (tag : ℕ) → tag_of old n ≡ Some tag → in_range tag) → (free : List ℕ) → AllByRecursion in_range free → (ns : List Ident) → Each (TagStands rows) (in_turn rows old free ns)
  unfolding in_turn
  rows-stand was free within [] = λ k t at. none k t at
    where
      none : (k : ℕ) (t : TagRow) → slice_get {X = TagRow} [] k ≡ Some t → TagStands rows t
      none k t at = cc
  rows-stand was free within (n ∷ ns) = go (tag_of old n) refl free within (λ left all. rows-stand was left all ns)
    where
      stands : (tag : ℕ) → in_range tag → TagStands rows (tag_row rows n tag)
      stands tag range = record { wire = refl; first = range.0; last = range.1 }

      go : (o : Option ℕ) → tag_of old n ≡ o → (fs : List ℕ) → AllByRecursion in_range fs → ((left : List ℕ) → AllByRecursion in_range left → Each (TagStands rows) (in_turn rows old left ns)) → Each (TagStands rows) (with_tag rows n fs (λ left. in_turn rows old left ns) (next_tag o fs))
      go (Some tag) e fs all rest = each-cons (TagStands rows) (tag_row rows n tag) (in_turn rows old fs ns) (stands tag (was n tag e)) (rest fs all)
      go None e [] all rest = rest [] all
      go None e (f ∷ fs) all rest = each-cons (TagStands rows) (tag_row rows n f) (in_turn rows old fs ns) (stands f all.0) (rest fs all.1)

pub tags_stand : (rows : RowLists) (host : List ℕ) (old : List TagRow) → AreTags old → IsConsistent rows → RealisesTags rows host (new_tags rows host old)
unfolding new_tags tagged_networks kept_tags free_tags
tags_stand rows host old given good = record {
  networks = networks-all rows old free ids enough;
  stand = rows-stand rows old (λ n tag e. (of-found (λ k. 0 < k) old given.first n tag e, of-found (λ k. k ≤ 4094) old given.last n tag e)) free (all-filter in_range (is_free kept) (numbers 1 4094) (numbers-within 1 4094 (omega arith) (omega arith))) ids;
  differ = λ tag. once tag (list_any (λ k. k == tag) kept) refl;
}
  where
    ids : List Ident
    ids = map (λ (n : NetworkRow). n.id) (filter (is_tagged rows host) rows.networks)

    kept : List ℕ
    kept = filter_map (tag_of old) ids

    free : List ℕ
    free = filter (is_free kept) (numbers 1 4094)

    fit : length ids ≤ 4094
    fit = omega (arith, length-map (filter (is_tagged rows host) rows.networks) (λ (n : NetworkRow). n.id), length-filter (is_tagged rows host) rows.networks, count_by-le-length (is_tagged rows host) rows.networks, good.segments.few)

    enough : count_by (is_new rows old) ids ≤ length free
    enough = omega (arith, kept-or-new old ids, enough-free kept 1 4094, length-filter (is_free kept) (numbers 1 4094), fit)

    once : (tag : ℕ) (b : Bool) → list_any (λ k. k == tag) kept ≡ b → count_by (has_tag tag) (in_turn rows old free ids) ≤ 1
    once tag true e = omega (arith, tags-counted rows old tag free ids, none-free tag kept (numbers 1 4094) e, kept-once old tag (given.differ tag) ids (distinct-filter (is_tagged rows host) rows.networks (are_tables rows good).networks))
    once tag false e = omega (arith, tags-counted rows old tag free ids, none-counted (λ k. k == tag) kept e, count-filter (λ k. k == tag) (is_free kept) (numbers 1 4094), once-numbered (λ k. k == tag) tag (λ t f. eqb-true t tag f) 1 4094)
