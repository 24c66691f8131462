-- The numbers of rows that a change names or touches.
use Rattle.std.proofs.Common.{◌≡◌, ◌∙◌, ℕ, ◌+◌, ◌<◌, List, [], ◌∷◌, ◌++◌, true, false, Option, Some, None, drop, get_or, length, slice_get, refl, ap, subst, sym, arith}
use Rattle.std.specs.Prelude.{◌==◌, ◌||◌, nat_lt}
use Rattle.std.specs.List.{cons_option, filter_map, list_any}
use Rattle.std.proofs.lemmas.Bool.Decides.{nat_tests}
use Rattle.std.proofs.lemmas.List.{at_drop_more}
use Rattle.api_types.specs.Ident.{Ident}
use Rattle.api_types.specs.Table.{HaveOwnIds, ident_eq, place_of}
use Rattle.api_types.specs.declared.network.NetworkRow.{NetworkRow}
use Rattle.api_types.proofs.ListLemmas.{false_true, or_none}
use Rattle.api_types.proofs.NameLemmas.{by_test, ident_same}
use Rattle.plane_types.specs.Keyed.{are_one}
use Rattle.plane_types.proofs.KeyedLemmas.{one_itself}
use Rattle.plane_types.proofs.NumberedLemmas.{number_order}
use Rattle.table_edits.specs.EditsAt.{among}
use Rattle.table_edits.proofs.NumberPlaces.{own_place}
use Rattle.table_edits.proofs.OwnKeyLaw.{among_append}

is_number : (m k : ℕ) → (m == k) ≡ true → m ≡ k
is_number m k h = grind (arith, nat_tests, h)

-- what holds at each number but those that are left, and at the first of these, holds at each but
-- the later ones
pub at_next : (P : ℕ → Type 0) (numbers : List ℕ) (i : ℕ) → i < length numbers
    → ((k : ℕ) → list_any (λ m. m == k) (drop i numbers) ≡ false → P k)
    → P (get_or numbers i 0)
    → (k : ℕ) → list_any (λ m. m == k) (drop (i + 1) numbers) ≡ false → P k
at_next P numbers i less so_far here k none =
    let n = get_or numbers i 0 in
    by_test (n == k) (P k) (λ is. subst P (is_number n k is) here)
    (λ off. so_far k
    (at_drop_more (list_any (λ m. m == k)) numbers i 0 less ∙ (λ j. off j || none j)))

-- ---- numbers of networks

are_equal : (k m : ℕ) → are_one nat_lt k m ≡ (m == k)
are_equal k m = grind (arith, nat_tests)

among_any : (k : ℕ) (ns : List ℕ) → among nat_lt k ns ≡ list_any (λ m. m == k) ns
among_any k [] = refl
among_any k (m ∷ ns) = λ j. are_equal k m j || among_any k ns j

-- what is none of two lists of numbers, one after the other, is in neither
pub none_of_both : {all : List ℕ} (named placed : List ℕ) → all ≡ named ++ placed → (k : ℕ)
    → among nat_lt k all ≡ false
    → (list_any (λ m. m == k) named ≡ false) × (among nat_lt k placed ≡ false)
none_of_both named placed is k away =
    let both =
    or_none (among nat_lt k named) (among nat_lt k placed)
    (sym (among_append nat_lt k named placed) ∙ ap (among nat_lt k) (sym is) ∙ away) in
    (sym (among_any k named) ∙ both.0, both.1)

module _ (rows : List NetworkRow) (own : HaveOwnIds (λ (n : NetworkRow). n.id) rows) (k : ℕ)
    (w : NetworkRow) (at : slice_get rows k ≡ Some w) where
  abbrev place : Ident → Option ℕ
  place i = place_of (λ (n : NetworkRow). n.id) i rows

  -- what isn't among the numbers of these networks is the number of none of them
  pub none_placed : (is : List Ident) → among nat_lt k (filter_map place is) ≡ false
      → list_any (ident_eq w.id) is ≡ false
  none_placed [] away = refl
  none_placed (i ∷ is) away =
      by_test (ident_eq w.id i) (list_any (ident_eq w.id) (i ∷ is) ≡ false) here
      (there (none_placed is (later (place i) away)))
    where
      here : ident_eq w.id i ≡ true → list_any (ident_eq w.id) (i ∷ is) ≡ false
      here e =
          let number : place i ≡ Some k =
          ap place (sym (ident_same w.id i e))
          ∙ own_place (λ (n : NetworkRow). n.id) rows k w own at in
          false_true _
          (sym away ∙ ap (λ o. among nat_lt k (cons_option o (filter_map place is))) number
          ∙ ap (λ b. b || among nat_lt k (filter_map place is)) (one_itself nat_lt number_order k))

      later : (o : Option ℕ) → among nat_lt k (cons_option o (filter_map place is)) ≡ false
          → among nat_lt k (filter_map place is) ≡ false
      later None h = h
      later (Some m) h = (or_none (are_one nat_lt k m) (among nat_lt k (filter_map place is)) h).1

      there : list_any (ident_eq w.id) is ≡ false → ident_eq w.id i ≡ false
          → list_any (ident_eq w.id) (i ∷ is) ≡ false
      there rest e = λ j. e j || rest j
