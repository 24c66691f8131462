-- The places of groups that ids name are those of the groups with these ids.
use Rattle.std.proofs.Common.{◌≡◌, ◌∙◌, ℕ, zero, suc, ◌+◌, ◌<◌, ◌≤◌, List, [], ◌∷◌, ◌++◌, map, length, drop, get_or, slice_get, drop-cons, Bool, true, false, cond, Option, Some, None, refl, ap, sym, arith}
use Rattle.std.specs.Prelude.{◌==◌, ◌&&◌, ◌||◌, flat_map, if◌then◌else◌, nat_lt}
use Rattle.std.specs.List.{IsDistinct, AllByRecursion}
use Rattle.std.proofs.lemmas.Bool.Decides.{nat_tests}
use Rattle.api_types.specs.Ident.{Ident}
use Rattle.api_types.specs.Table.{ident_eq, HaveOwnIds}
use Rattle.api_types.specs.Members.{names_group}
use Rattle.api_types.specs.declared.group.GroupRow.{GroupRow}
use Rattle.l2_agent.specs.Indices.{id_of, is_index, is_named, is_named_at, names_at, index_from}

eqb_turned : (a b : ℕ) → (a == b) ≡ (b == a)
eqb_turned a b = grind (arith, nat_tests)

ident_turned : (a b : Ident) → ident_eq a b ≡ ident_eq b a
ident_turned a b = λ j. eqb_turned a.ordinal b.ordinal j && eqb_turned a.count b.count j

same_numbers : (a b x y z w : ℕ) → ((a == b) && (x == y)) ≡ true → ((b == z) && (y == w)) ≡ false → ((a == z) && (x == w)) ≡ false
same_numbers a b x y z w h k = grind (arith, nat_tests)

-- what isn't an id isn't one that is the same
apart_alike : (i a b : Ident) → ident_eq i a ≡ true → ident_eq a b ≡ false → ident_eq i b ≡ false
apart_alike i a b h k = same_numbers i.ordinal a.ordinal i.count a.count b.ordinal b.count h k

-- the place of an id from one place on, by that from the next
pub from_here : (gs : List GroupRow) (k : ℕ) (g : GroupRow) (n : Ident) (found : Option ℕ) → k < length gs → g ≡ get_or gs k g
    → found ≡ index_from (k + 1) (drop (k + 1) gs) n → cond (ident_eq g.id n) (Some k) found ≡ index_from k (drop k gs) n
from_here gs k g n found within is rest =
    let next : k + 1 ≡ suc k = omega arith in
    let step : index_from k (drop k gs) n ≡ index_from k (get_or gs k g ∷ drop (suc k) gs) n = ap (λ xs. index_from k xs n) (drop-cons gs k g within) in
    (λ j. cond (ident_turned g.id n j) (Some k) (rest j))
    ∙ (λ j. cond (ident_eq n (is j).id) (Some k) (index_from (k + 1) (drop (next j) gs) n))
    ∙ sym step

-- whether a place is named by ids from one on, by those from the next
pub named_here : (gs : List GroupRow) (ids : List Ident) (k : ℕ) (i : Ident) (p : ℕ) → k < length ids → i ≡ get_or ids k i
    → (is_index p (index_from 0 gs i) || is_named gs (drop (k + 1) ids) p) ≡ is_named gs (drop k ids) p
named_here gs ids k i p within is =
    let next : k + 1 ≡ suc k = omega arith in
    (λ j. is_index p (index_from 0 gs (is j)) || is_named gs (drop (next j) ids) p)
    ∙ sym (ap (λ xs. is_named gs xs p) (drop-cons ids k i within))

-- no place that is sought from one on is in front of it
not_before : (b p : ℕ) (gs : List GroupRow) (i : Ident) → p < b → is_index p (index_from b gs i) ≡ false
not_before b p [] i h = refl
not_before b p (g ∷ gs) i h = go (ident_eq i g.id) (not_before (b + 1) p gs i (omega (arith, h)))
  where
    differ : (b == p) ≡ false
    differ = grind (arith, nat_tests)

    go : (t : Bool) → is_index p (index_from (b + 1) gs i) ≡ false → is_index p (cond t (Some b) (index_from (b + 1) gs i)) ≡ false
    go true rest = differ
    go false rest = rest

abbrev has_id : Ident → Option GroupRow → Bool
has_id i None = false
has_id i (Some g) = ident_eq g.id i

-- none of groups with other ids has this one
others : (g : GroupRow) (i : Ident) (gs : List GroupRow) (p : ℕ) → AllByRecursion (λ y. ident_eq g.id y ≡ false) (map id_of gs) → ident_eq i g.id ≡ true → has_id i (slice_get gs p) ≡ false
others g i [] p apart same = refl
others g i (x ∷ gs) zero apart same = ident_turned x.id i ∙ apart_alike i g.id x.id same apart.0
others g i (x ∷ gs) (suc p) apart same = others g i gs p apart.1 same

-- where each group has an id of its own, the place of an id is that of the one group that has it
own_place : (b : ℕ) (gs : List GroupRow) (i : Ident) (p : ℕ) → HaveOwnIds id_of gs → is_index (b + p) (index_from b gs i) ≡ has_id i (slice_get gs p)
unfolding IsDistinct
own_place b [] i p own = refl
own_place b (g ∷ gs) i zero own = go (ident_eq i g.id) refl
  where
    here : (b == b + 0) ≡ true
    here = grind (arith, nat_tests)

    go : (t : Bool) → ident_eq i g.id ≡ t → is_index (b + 0) (cond t (Some b) (index_from (b + 1) gs i)) ≡ ident_eq g.id i
    go true e = here ∙ sym e ∙ ident_turned i g.id
    go false e = not_before (b + 1) (b + 0) gs i (omega arith) ∙ sym e ∙ ident_turned i g.id
own_place b (g ∷ gs) i (suc p) own = go (ident_eq i g.id) refl (own_place (b + 1) gs i p own.1)
  where
    differ : (b == b + suc p) ≡ false
    differ = grind (arith, nat_tests)

    next : b + suc p ≡ (b + 1) + p
    next = omega arith

    go : (t : Bool) → ident_eq i g.id ≡ t → is_index ((b + 1) + p) (index_from (b + 1) gs i) ≡ has_id i (slice_get gs p) → is_index (b + suc p) (cond t (Some b) (index_from (b + 1) gs i)) ≡ has_id i (slice_get gs p)
    go true e rest = differ ∙ sym (others g i gs p own.0 e)
    go false e rest = ap (λ m. is_index m (index_from (b + 1) gs i)) next ∙ rest

either : (i : Ident) (ids : List Ident) (o : Option GroupRow) → (has_id i o || names_at ids o) ≡ names_at (i ∷ ids) o
either i ids None = refl
either i ids (Some g) = refl

-- the places of ids are those of the groups that they name
pub named_is : (gs : List GroupRow) (ids : List Ident) (p : ℕ) → HaveOwnIds id_of gs → is_named gs ids p ≡ is_named_at gs ids p
named_is gs [] p own = none (slice_get gs p)
  where
    none : (o : Option GroupRow) → false ≡ names_at [] o
    none None = refl
    none (Some g) = refl
named_is gs (i ∷ ids) p own =
    let start : p ≡ 0 + p = omega arith in
    (λ j. (ap (λ m. is_index m (index_from 0 gs i)) start ∙ own_place 0 gs i p own) j || named_is gs ids p own j) ∙ either i ids (slice_get gs p)

-- where a test fails in front of a place, it passes from there on alone
pub at_from : (from k : ℕ) (f : ℕ → Bool) → ((p : ℕ) → p < from → f p ≡ false) → f k ≡ true → from ≤ k
at_from from k f none h = go (nat_lt k from) refl
  where
    go : (b : Bool) → nat_lt k from ≡ b → from ≤ k
    go true e =
        let before : k < from = grind (arith, nat_tests) in
        absurd (cc (none k before))
    go false e = grind (arith, nat_tests)

-- a place that is named is one of a group
pub within_groups : (gs : List GroupRow) (ids : List Ident) (k : ℕ) → is_named_at gs ids k ≡ true → k < length gs
within_groups [] ids k h = cc
within_groups (g ∷ gs) ids zero h = omega arith
within_groups (g ∷ gs) ids (suc k) h = omega (arith, within_groups gs ids k h)

module _ {X : Type 0} (given : GroupRow → List X) (ids : List Ident) where
  -- what a group gives, where it is named
  abbrev pub of_named : GroupRow → List X
  of_named g = if names_group g.id ids then given g else []

  drop_none : (n : ℕ) → drop {A = GroupRow} n [] ≡ []
  drop_none zero = refl
  drop_none (suc n) = refl

  -- groups that aren't named give nothing
  pub skipped : (gs : List GroupRow) (from k : ℕ) → from ≤ k → ((p : ℕ) → from ≤ p → p < k → is_named_at gs ids p ≡ false) → flat_map of_named (drop from gs) ≡ flat_map of_named (drop k gs)
  skipped [] from k le none = ap (flat_map of_named) (drop_none from ∙ sym (drop_none k))
  skipped (g ∷ gs) zero zero le none = refl
  skipped (g ∷ gs) zero (suc k) le none =
      let rest = skipped gs zero k (omega arith) (λ p a b. none (suc p) (omega arith) (omega (arith, b))) in
      ap (λ t. cond t (given g) [] ++ flat_map of_named gs) (none 0 (omega arith) (omega arith)) ∙ rest
  skipped (g ∷ gs) (suc from) zero le none = absurd (omega arith)
  skipped (g ∷ gs) (suc from) (suc k) le none = skipped gs from k (omega arith) (λ p a b. none (suc p) (omega (arith, a)) (omega (arith, b)))

  -- one that is gives first
  pub given_here : (gs : List GroupRow) (k : ℕ) (d : GroupRow) → is_named_at gs ids k ≡ true → flat_map of_named (drop k gs) ≡ given (get_or gs k d) ++ flat_map of_named (drop (k + 1) gs)
  given_here gs k d h =
      let next : k + 1 ≡ suc k = omega arith in
      go gs k h ∙ ap (λ m. given (get_or gs k d) ++ flat_map of_named (drop m gs)) (sym next)
    where
      go : (gs : List GroupRow) (k : ℕ) → is_named_at gs ids k ≡ true → flat_map of_named (drop k gs) ≡ given (get_or gs k d) ++ flat_map of_named (drop (suc k) gs)
      go [] k h = cc
      go (g ∷ gs) zero h = ap (λ t. cond t (given g) [] ++ flat_map of_named gs) h
      go (g ∷ gs) (suc k) h = go gs k h

  -- behind the last one that is named nothing is given
  pub nothing_left : (gs : List GroupRow) (from : ℕ) → ((p : ℕ) → from ≤ p → is_named_at gs ids p ≡ false) → flat_map of_named (drop from gs) ≡ []
  nothing_left [] from none = ap (flat_map of_named) (drop_none from)
  nothing_left (g ∷ gs) zero none =
      ap (λ t. cond t (given g) [] ++ flat_map of_named gs) (none 0 (omega arith)) ∙ nothing_left gs zero (λ p a. none (suc p) (omega arith))
  nothing_left (g ∷ gs) (suc from) none = nothing_left gs from (λ p a. none (suc p) (omega (arith, a)))
