-- Whether ports give a prefix to a group: by tests, and that it stays if no port of a change gives it,
-- neither before nor after.
use Rattle.std.proofs.Common.{◌≡◌, ◌∙◌, ℕ, ◌+◌, List, [], ◌∷◌, ◌++◌, map, slice_get, Option, Some, None, Bool, true, false, not, refl, sym, ap, arith}
use Rattle.std.specs.Prelude.{◌&&◌, ◌||◌, ◌==◌, if◌then◌else◌, flat_map, nat_lt}
use Rattle.std.specs.List.{cons_option, filter_map, list_any}
use Rattle.std.proofs.lemmas.Bool.{eqb-true}
use Rattle.net_addr.specs.Ordered.{whole_prefix}
use Rattle.net_addr.specs.Prefixes.{Prefix}
use Rattle.api_types.specs.Ascending.{prefix_before}
use Rattle.api_types.specs.Consistent.Groups.{prefix_eq}
use Rattle.api_types.specs.Ident.{Ident}
use Rattle.api_types.specs.Members.{names_group, prefixes_of}
use Rattle.api_types.specs.declared.port.Fixed.{Fixed}
use Rattle.api_types.specs.declared.port.Pair.{Pair}
use Rattle.api_types.specs.declared.port.PortRow.{PortRow}
use Rattle.api_types.proofs.ListLemmas.{false_true, none_some, or_none, or_true, some_equal}
use Rattle.api_types.proofs.NameLemmas.{by_test}
use Rattle.plane_types.specs.Keyed.{Rises, are_one, row_at}
use Rattle.plane_types.specs.Numbered.{RowItem, numbered_after, rows_after, with_numbers}
use Rattle.plane_types.proofs.KeyedLemmas.{none_after, one_itself}
use Rattle.plane_types.proofs.KeyedTablesLemmas.{unkeyed}
use Rattle.plane_types.proofs.NumberedLemmas.{after_plain, after_rises, number_order, numbered_rises, plain_numbered}
use Rattle.table_edits.specs.EditsAt.{among}
use Rattle.table_edits.specs.NumbersSeen.{OthersStay, Renumbered, at_after}
use Rattle.table_edits.proofs.NumberSteps.{place_row}
use Rattle.l2_delta.specs.SetKeys.{gives_prefix, is_given}
use Rattle.l2_delta.proofs.SetRows.{prefix_is}
use Rattle.l2_delta.proofs.SourceLaw.{one_is}

-- before a change a row's number is its place
pub place_at : {X : Type 0} (rows : List X) (k : ℕ) → row_at nat_lt k (with_numbers 0 rows) ≡ slice_get rows k
place_at rows k = let start : k ≡ 0 + k = omega arith in ap (λ n. row_at nat_lt n (with_numbers 0 rows)) start ∙ place_row 0 rows k

both_ways : (a b : Bool) → (a ≡ true → b ≡ true) → (b ≡ true → a ≡ true) → a ≡ b
both_ways true b f g = sym (f refl)
both_ways false true f g = g refl
both_ways false false f g = refl

module _ {X : Type 0} (test : X → Bool) where
  -- a row with a number is among the rows
  at_any : (xs : List (ℕ × X)) (k : ℕ) (x : X) → row_at nat_lt k xs ≡ Some x → test x ≡ true → list_any test (unkeyed xs) ≡ true
  at_any [] k x at h = none_some _ _ at
  at_any (y ∷ ys) k x at h = go (are_one nat_lt k y.0) at (at_any ys k x)
    where
      go : (b : Bool) → (if b then Some y.1 else row_at nat_lt k ys) ≡ Some x → (row_at nat_lt k ys ≡ Some x → test x ≡ true → list_any test (unkeyed ys) ≡ true) → test y.1 || list_any test (unkeyed ys) ≡ true
      go true at rest = ap (λ b. b || list_any test (unkeyed ys)) (ap test (some_equal y.1 x at) ∙ h)
      go false at rest = ap (λ b. test y.1 || b) (rest at h) ∙ or_true (test y.1)

  abbrev HasOne : List (ℕ × X) → Type 0
  HasOne xs = (k : ℕ) × (x : X) × (row_at nat_lt k xs ≡ Some x) × (test x ≡ true)

  any_at : (xs : List (ℕ × X)) → Rises nat_lt xs → list_any test (unkeyed xs) ≡ true → HasOne xs
  any_at [] up h = false_true _ h
  any_at (y ∷ ys) up h = go (test y.1) refl h (any_at ys up.1)
    where
      past : (k : ℕ) (x : X) → row_at nat_lt k ys ≡ Some x → row_at nat_lt k (y ∷ ys) ≡ row_at nat_lt k ys
      past k x at = by_test (are_one nat_lt k y.0) (row_at nat_lt k (y ∷ ys) ≡ row_at nat_lt k ys)
          (λ one.
          let none : row_at nat_lt k ys ≡ None = ap (λ n. row_at nat_lt n ys) (one_is nat_lt number_order k y.0 one) ∙ none_after nat_lt number_order y.0 ys up.0 in
          none_some x _ (sym none ∙ at))
          (λ off. ap (λ b. if b then Some y.1 else row_at nat_lt k ys) off)

      go : (b : Bool) → test y.1 ≡ b → b || list_any test (unkeyed ys) ≡ true → (list_any test (unkeyed ys) ≡ true → HasOne ys) → HasOne (y ∷ ys)
      go true e h rest = (y.0, y.1, ap (λ b. if b then Some y.1 else row_at nat_lt y.0 ys) (one_itself nat_lt number_order y.0), e)
      go false e h rest = let r = rest h in (r.0, r.1, past r.0 r.1 r.2 ∙ r.2, r.3)

  -- where rows with other numbers stay, and none with these passes
  abbrev Fails : List ℕ → List (ℕ × X) → Type 0
  Fails named xs = (k : ℕ) (x : X) → list_any (λ m. m == k) named ≡ true → row_at nat_lt k xs ≡ Some x → test x ≡ false

  any_stays : (named : List ℕ) (xs ys : List (ℕ × X)) → Rises nat_lt xs → ((k : ℕ) → list_any (λ m. m == k) named ≡ false → row_at nat_lt k xs ≡ row_at nat_lt k ys) → Fails named xs
      → list_any test (unkeyed xs) ≡ true → list_any test (unkeyed ys) ≡ true
  any_stays named xs ys up same fails h =
      let one = any_at xs up h in
      by_test (list_any (λ m. m == one.0) named) (list_any test (unkeyed ys) ≡ true)
      (λ there. false_true _ (sym (fails one.0 one.1 there one.2) ∙ one.3))
      (λ away. at_any ys one.0 one.1 (sym (same one.0 away) ∙ one.2) one.3)

  -- what fails for the rows at these numbers fails for each
  fails_at : (f : ℕ → Option X) (named : List ℕ) → list_any test (filter_map f named) ≡ false → (k : ℕ) (x : X) → list_any (λ m. m == k) named ≡ true → f k ≡ Some x → test x ≡ false
  fails_at f [] none k x there at = false_true _ there
  fails_at f (m ∷ ms) none k x there at = by_test (m == k) (test x ≡ false)
      (λ is.
      let given : f m ≡ Some x = ap f (eqb-true m k is) ∙ at in
      (or_none (test x) (list_any test (filter_map f ms)) (ap (λ o. list_any test (cons_option o (filter_map f ms))) (sym given) ∙ none)).0)
      (λ off. fails_at f ms (later (f m) none) k x (sym (ap (λ b. b || list_any (λ n. n == k) ms) off) ∙ there) at)
    where
      later : (o : Option X) → list_any test (cons_option o (filter_map f ms)) ≡ false → list_any test (filter_map f ms) ≡ false
      later None h = h
      later (Some y) h = (or_none (test y) (list_any test (filter_map f ms)) h).1

  -- what passes for them one of them passes
  abbrev GivesOne : (ℕ → Option X) → Type 0
  GivesOne f = (k : ℕ) × (x : X) × (f k ≡ Some x) × (test x ≡ true)

  passes_at : (f : ℕ → Option X) (named : List ℕ) → list_any test (filter_map f named) ≡ true → GivesOne f
  passes_at f [] h = false_true _ h
  passes_at f (m ∷ ms) h = go (f m) refl h (passes_at f ms)
    where
      go : (o : Option X) → f m ≡ o → list_any test (cons_option o (filter_map f ms)) ≡ true → (list_any test (filter_map f ms) ≡ true → GivesOne f) → GivesOne f
      go None e h rest = rest h
      go (Some y) e h rest = by_test (test y) (GivesOne f)
          (λ passes. (m, y, e, passes))
          (λ fails. rest (sym (ap (λ b. b || list_any test (filter_map f ms)) fails) ∙ h))

-- ---- keys of lists

module _ {K : Type 0} (before : K → K → Bool) (q : K) where
  pub among_append : (xs ys : List K) → among before q (xs ++ ys) ≡ among before q xs || among before q ys
  among_append [] ys = refl
  among_append (x ∷ xs) ys = ap (λ b. are_one before q x || b) (among_append xs ys) ∙ turned (are_one before q x) (among before q xs) (among before q ys)
    where
      turned : (a b c : Bool) → a || (b || c) ≡ (a || b) || c
      turned true b c = refl
      turned false b c = refl

  among_flat : {X : Type 0} (f : X → List K) (xs : List X) → among before q (flat_map f xs) ≡ list_any (λ x. among before q (f x)) xs
  among_flat f [] = refl
  among_flat f (x ∷ xs) = among_append (f x) (flat_map f xs) ∙ ap (λ b. among before q (f x) || b) (among_flat f xs)

-- ---- what ports give, by tests

pub given_is : (g : Ident) (p : Prefix) (ports : List PortRow) → is_given ports (Some g) p ≡ list_any (gives_prefix g p) ports
given_is g p ports = among_flat prefix_before p (prefixes_of g) ports

module _ (p : Prefix) where
  turned : (q : Prefix) → prefix_eq q p ≡ are_one prefix_before p q
  turned q = prefix_is q p ∙ swapped (prefix_before q p) (prefix_before p q)
    where
      swapped : (a b : Bool) → not a && not b ≡ not b && not a
      swapped true true = refl
      swapped true false = refl
      swapped false true = refl
      swapped false false = refl

  among_map : {X : Type 0} (f : X → Prefix) (xs : List X) → list_any (λ x. prefix_eq (f x) p) xs ≡ among prefix_before p (map f xs)
  among_map f [] = refl
  among_map f (x ∷ xs) = λ j. turned (f x) j || among_map f xs j

  abbrev pub holds_prefix : PortRow → Bool
  holds_prefix x = list_any (λ (f : Fixed). prefix_eq (whole_prefix f.address) p) x.fixed

  abbrev pub pairs_prefix : PortRow → Bool
  pairs_prefix x = list_any (λ (y : Pair). prefix_eq y.prefix p) x.pairs

  pub gives_is : (g : Ident) (x : PortRow) → names_group g x.groups ≡ true → holds_prefix x || pairs_prefix x ≡ gives_prefix g p x
  gives_is g x named =
      let held = map (λ (f : Fixed). whole_prefix f.address) x.fixed in
      let paired = map (λ (y : Pair). y.prefix) x.pairs in
      (λ j. among_map (λ (f : Fixed). whole_prefix f.address) x.fixed j || among_map (λ (y : Pair). y.prefix) x.pairs j)
      ∙ sym (among_append prefix_before p held paired)
      ∙ ap (λ b. among prefix_before p (if b then held ++ paired else [])) (sym named)

  pub gives_nothing : (g : Ident) (x : PortRow) → names_group g x.groups ≡ false → gives_prefix g p x ≡ false
  gives_nothing g x off =
      let held = map (λ (f : Fixed). whole_prefix f.address) x.fixed in
      let paired = map (λ (y : Pair). y.prefix) x.pairs in
      ap (λ b. among prefix_before p (if b then held ++ paired else [])) off

-- ---- ports of a change, as they were and as they are to be

pub record AreChanged (ports : Renumbered PortRow) (were are : List PortRow) : Type 0 where
  pub named : List ℕ
  pub others : OthersStay ports named
  pub were_at : were ≡ filter_map (λ k. slice_get ports.rows k) named
  pub are_at : are ≡ filter_map (at_after ports) named

module _ (rows : List PortRow) (items : List (RowItem PortRow)) (were are : List PortRow) (changed : AreChanged (record { rows = rows; items = items }) were are) (g : Ident) (p : Prefix) where
  abbrev gives : PortRow → Bool
  gives x = among prefix_before p (prefixes_of g x)

  abbrev old : List (ℕ × PortRow)
  old = with_numbers 0 rows

  abbrev new : List (ℕ × PortRow)
  new = numbered_after rows items

  abbrev given : List PortRow → Bool
  given ports = among prefix_before p (flat_map (prefixes_of g) ports)

  pub given_stays : given were ≡ false → given are ≡ false → given rows ≡ given (rows_after rows items)
  given_stays none none_now =
      let named = changed.named in
      let off : list_any gives (filter_map (λ k. slice_get rows k) named) ≡ false = ap (list_any gives) (sym changed.were_at) ∙ (sym (given_is g p were) ∙ none) in
      let off_now : list_any gives (filter_map (λ k. row_at nat_lt k new) named) ≡ false = ap (list_any gives) (sym changed.are_at) ∙ (sym (given_is g p are) ∙ none_now) in
      let fails : Fails gives named old = λ k x there at. fails_at gives (λ k. slice_get rows k) named off k x there (sym (place_at rows k) ∙ at) in
      let fails_now : Fails gives named new = λ k x there at. fails_at gives (λ k. row_at nat_lt k new) named off_now k x there at in
      given_is g p rows
      ∙ (ap (list_any gives) (sym (plain_numbered 0 rows))
      ∙ (both_ways (list_any gives (unkeyed old)) (list_any gives (unkeyed new))
      (any_stays gives named old new (numbered_rises 0 rows) changed.others fails)
      (any_stays gives named new old (after_rises rows items) (λ k away. sym (changed.others k away)) fails_now)
      ∙ (ap (list_any gives) (after_plain rows items)
      ∙ sym (given_is g p (rows_after rows items)))))

  -- what a port of the change gives after it is given
  pub given_after : given are ≡ true → given (rows_after rows items) ≡ true
  given_after h =
      let one = passes_at gives (λ k. row_at nat_lt k new) changed.named (ap (list_any gives) (sym changed.are_at) ∙ (sym (given_is g p are) ∙ h)) in
      given_is g p (rows_after rows items) ∙ (ap (list_any gives) (sym (after_plain rows items)) ∙ at_any gives new one.0 one.1 one.2 one.3)
