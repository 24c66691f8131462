-- Numbers that cover the groups of a port, and the rules of a group.
use Rattle.std.proofs.Common.{◌≡◌, ◌∙◌, ℕ, zero, suc, ◌+◌, List, [], ◌∷◌, ◌++◌, Option, Some, None, Bool, true, false, cond, length, slice_get, refl, sym, ap, subst, arith}
use Rattle.std.specs.Prelude.{IfOk, Result, Ok, Err, ◌==◌, ◌||◌, if◌then◌else◌, nat_lt, option_map}
use Rattle.std.specs.List.{cons_option, filter_map, list_any}
use Rattle.std.proofs.lemmas.Bool.Decides.{nat_tests}
use Rattle.api_types.specs.Ident.{Ident}
use Rattle.api_types.specs.Members.{names_group}
use Rattle.api_types.specs.Table.{HaveOwnIds, ident_eq, place_of}
use Rattle.api_types.specs.declared.group.GroupRow.{GroupRow}
use Rattle.api_types.specs.declared.group.RuleRow.{RuleRow}
use Rattle.api_types.proofs.ListLemmas.{false_true, none_some, or_none, or_true, some_equal}
use Rattle.api_types.proofs.NameLemmas.{by_test, ident_same}
use Rattle.plane_types.specs.Keyed.{are_one, row_at}
use Rattle.plane_types.specs.Numbered.{with_numbers}
use Rattle.table_edits.specs.EditsAt.{KeysDescend, among}
use Rattle.table_edits.specs.NumbersSeen.{OthersStay, Renumbered, at_before}
use Rattle.table_edits.proofs.NumberPlaces.{own_place}
use Rattle.table_edits.proofs.NumberSteps.{place_row}
use Rattle.touched_rows.specs.TouchedNumbers.{numbers_from}
use Rattle.l2_delta.specs.Covers.{Covers, Looked}

pub ok_by_both : {X E : Type 0} (P Q S : X → Type 0) (r : Result X E) → ((x : X) → P x → Q x → S x) → IfOk r P → IfOk r Q → IfOk r S
ok_by_both P Q S (Ok x) f p q = f x p q
ok_by_both P Q S (Err e) f p q = tt

-- ---- numbers among others

one_itself : (k m : ℕ) → k ≡ m → are_one nat_lt k m ≡ true
one_itself k m h = grind (arith, nat_tests, h)

are_equal : (k m : ℕ) → are_one nat_lt k m ≡ (m == k)
are_equal k m = grind (arith, nat_tests)

pub among_any : (k : ℕ) (ns : List ℕ) → among nat_lt k ns ≡ list_any (λ m. m == k) ns
among_any k [] = refl
among_any k (m ∷ ns) = λ j. are_equal k m j || among_any k ns j

pub among_neither : (k : ℕ) (ms ns : List ℕ) → among nat_lt k (ms ++ ns) ≡ false → (among nat_lt k ms ≡ false) × (among nat_lt k ns ≡ false)
among_neither k [] ns h = (refl, h)
among_neither k (m ∷ ms) ns h =
    let first = or_none (are_one nat_lt k m) (among nat_lt k (ms ++ ns)) h in
    let rest = among_neither k ms ns first.1 in
    (ap (λ b. b || among nat_lt k ms) first.0 ∙ rest.0, rest.1)

-- before a change the number of a row is its place
pub at_place : {R : Type 0} (rows : List R) (k : ℕ) → row_at nat_lt k (with_numbers 0 rows) ≡ slice_get rows k
at_place rows k =
    let start : k ≡ 0 + k = omega arith in ap (λ m. row_at nat_lt m (with_numbers 0 rows)) start ∙ place_row 0 rows k

module _ {R : Type 0} (test : R → Bool) where
  from_first : (n : ℕ) (rows : List R) (k : ℕ) (r : R) → slice_get rows k ≡ Some r → test r ≡ true → among nat_lt (n + k) (numbers_from test n rows) ≡ true
  from_first n [] k r at h = none_some r _ at
  from_first n (x ∷ rows) zero r at h =
      let passes : test x ≡ true = ap test (some_equal x r at) ∙ h in
      let here : n + 0 ≡ n = omega arith in
      ap (λ b. among nat_lt (n + 0) (if b then n ∷ numbers_from test (n + 1) rows else numbers_from test (n + 1) rows)) passes
      ∙ ap (λ b. b || among nat_lt (n + 0) (numbers_from test (n + 1) rows)) (one_itself (n + 0) n here)
  from_first n (x ∷ rows) (suc k) r at h =
      let next : n + 1 + k ≡ n + suc k = omega arith in
      let rest : among nat_lt (n + suc k) (numbers_from test (n + 1) rows) ≡ true = subst (λ m. among nat_lt m (numbers_from test (n + 1) rows) ≡ true) next (from_first (n + 1) rows k r at h) in
      go (test x) rest
    where
      go : (b : Bool) → among nat_lt (n + suc k) (numbers_from test (n + 1) rows) ≡ true → among nat_lt (n + suc k) (if b then n ∷ numbers_from test (n + 1) rows else numbers_from test (n + 1) rows) ≡ true
      go true rest = ap (λ b. are_one nat_lt (n + suc k) n || b) rest ∙ or_true (are_one nat_lt (n + suc k) n)
      go false rest = rest

  -- a row whose number isn't among those of the rows that pass fails
  pub not_among : (rows : List R) (k : ℕ) (r : R) → slice_get rows k ≡ Some r → among nat_lt k (numbers_from test 0 rows) ≡ false → test r ≡ false
  not_among rows k r at away = by_test (test r) (test r ≡ false)
      (λ passes.
      let start : 0 + k ≡ k = omega arith in
      false_true _ (sym away ∙ subst (λ m. among nat_lt m (numbers_from test 0 rows) ≡ true) start (from_first 0 rows k r at passes)))
      (λ fails. fails)

  -- none, where none passes
  pub no_numbers : ((r : R) → test r ≡ false) → (n : ℕ) (rows : List R) → numbers_from test n rows ≡ []
  no_numbers none n [] = refl
  no_numbers none n (r ∷ rows) = ap (λ b. if b then n ∷ numbers_from test (n + 1) rows else numbers_from test (n + 1) rows) (none r) ∙ no_numbers none (n + 1) rows

-- ---- the numbers that a change names, and others before it

module _ {R : Type 0} (test : R → Bool) (n : Renumbered R) (named found : List ℕ) (others : OthersStay n named) where
  pub covers : (all ks : List ℕ) → all ≡ named ++ found → KeysDescend nat_lt ks → ((k : ℕ) → among nat_lt k ks ≡ among nat_lt k all)
      → ((k : ℕ) (r : R) → among nat_lt k found ≡ false → at_before n k ≡ Some r → test r ≡ false) → Covers test n ks
  covers all ks is down same none = record {
    down = down;
    before = λ k r away at. none k r (parts k away).1 at;
    after = λ k r away at. none k r (parts k away).1 (others k (sym (among_any k named) ∙ (parts k away).0) ∙ at);
  }
    where
      parts : (k : ℕ) → among nat_lt k ks ≡ false → (among nat_lt k named ≡ false) × (among nat_lt k found ≡ false)
      parts k away = among_neither k named found (ap (among nat_lt k) (sym is) ∙ sym (same k) ∙ away)

-- a group whose number isn't among those of the groups with some ids has none of these
module _ (rows : List GroupRow) (own : HaveOwnIds (λ (g : GroupRow). g.id) rows) where
  abbrev pub placed : Ident → Option ℕ
  placed i = place_of (λ (g : GroupRow). g.id) i rows

  pub unnamed : (ids : List Ident) (k : ℕ) (g : GroupRow) → among nat_lt k (filter_map placed ids) ≡ false → row_at nat_lt k (with_numbers 0 rows) ≡ Some g → names_group g.id ids ≡ false
  unnamed [] k g away at = refl
  unnamed (i ∷ ids) k g away at = by_test (ident_eq g.id i) (names_group g.id (i ∷ ids) ≡ false)
      (λ is.
      let here : placed i ≡ Some k = ap placed (sym (ident_same g.id i is)) ∙ own_place (λ (g : GroupRow). g.id) rows k g own (sym (at_place rows k) ∙ at) in
      false_true _ (sym (ap (λ o. among nat_lt k (cons_option o (filter_map placed ids))) (sym here) ∙ away)
      ∙ ap (λ b. b || among nat_lt k (filter_map placed ids)) (one_itself k k refl)))
      (λ off. ap (λ b. b || names_group g.id ids) off ∙ unnamed ids k g (rest (placed i) away) at)
    where
      rest : (o : Option ℕ) → among nat_lt k (cons_option o (filter_map placed ids)) ≡ false → among nat_lt k (filter_map placed ids) ≡ false
      rest None h = h
      rest (Some m) h = (or_none (are_one nat_lt k m) (among nat_lt k (filter_map placed ids)) h).1

-- nothing is in a list of length 0
pub none_of_none : {X : Type 0} (test : X → Bool) (xs : List X) → length xs ≡ 0 → list_any test xs ≡ false
none_of_none test [] h = refl
none_of_none test (x ∷ xs) h = absurd (omega (arith, h))

-- what was looked up for one group more
module _ {V : Type 0} (items : V → List ℕ) (n : Renumbered RuleRow) where
  pub looked_more : (g i : Ident) (v : V) (had now : Option V) → now ≡ cond (ident_eq g i) (Some v) had → Covers (λ (r : RuleRow). ident_eq r.group g) n (items v) → Looked n i (option_map items had) → Looked n i (option_map items now)
  looked_more g i v had now is covers before = by_test (ident_eq g i) (Looked n i (option_map items now))
      (λ one.
      let here : now ≡ Some v = is ∙ ap (λ b. cond b (Some v) had) one in
      subst (λ o. Looked n i (option_map items o)) (sym here)
      (subst (λ j. Covers (λ (r : RuleRow). ident_eq r.group j) n (items v)) (ident_same g i one) covers))
      (λ other.
      let there : now ≡ had = is ∙ ap (λ b. cond b (Some v) had) other in
      subst (λ o. Looked n i (option_map items o)) (sym there) before)
