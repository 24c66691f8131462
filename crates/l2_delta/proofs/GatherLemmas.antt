-- What is gathered by numbers from which none is left out that comes to anything is all.
use Rattle.std.proofs.Common.{◌≡◌, ◌∙◌, ℕ, ◌+◌, ◌-◌, ◌<◌, ◌≤◌, List, [], ◌∷◌, ◌++◌, drop, get_or, length, map, Option, Some, None, Bool, true, false, refl, sym, ap, subst, append_assoc, arith}
use Rattle.std.specs.Prelude.{◌||◌, ⊤, flat_map, if◌then◌else◌, nat_lt}
use Rattle.std.proofs.lemmas.List.{append-nil, drop_more}
use Rattle.plane_types.specs.Keyed.{AllAfter, Rises, are_one, chunks, cons_at, row_at, rows_by_key, under}
use Rattle.plane_types.proofs.KeyedLemmas.{apart_first, apart_second, none_after, one_both, one_itself, same_entries, three_ways}
use Rattle.plane_types.proofs.NumberedLemmas.{number_order}
use Rattle.table_edits.specs.EditsAt.{KeysBefore, KeysDescend, among}
use Rattle.l2_delta.specs.Gathered.{gathered, piece_at}

-- ---- rows whose numbers pass a test
module _ {X : Type 0} (test : ℕ → Bool) where
  abbrev those : List (ℕ × X) → List (ℕ × X)
  those [] = []
  those (x ∷ xs) = if test x.0 then x ∷ those xs else those xs

  those_after : (k : ℕ) (xs : List (ℕ × X)) → AllAfter nat_lt k xs → AllAfter nat_lt k (those xs)
  those_after k [] h = tt
  those_after k (x ∷ xs) h = go (test x.0) (those_after k xs h.1)
    where
      go : (b : Bool) → AllAfter nat_lt k (those xs) → AllAfter nat_lt k (if b then x ∷ those xs else those xs)
      go true rest = (h.0, rest)
      go false rest = rest

  those_rise : (xs : List (ℕ × X)) → Rises nat_lt xs → Rises nat_lt (those xs)
  those_rise [] up = tt
  those_rise (x ∷ xs) up = go (test x.0) (those_rise xs up.1)
    where
      go : (b : Bool) → Rises nat_lt (those xs) → Rises nat_lt (if b then x ∷ those xs else those xs)
      go true rest = (those_after x.0 xs up.0, rest)
      go false rest = rest

  if_none : (b : Bool) → ◌≡◌ {A = Option X} (if b then None else None) None
  if_none true = refl
  if_none false = refl

  at_those : (q : ℕ) (xs : List (ℕ × X)) → Rises nat_lt xs → row_at nat_lt q (those xs) ≡ (if test q then row_at nat_lt q xs else None)
  at_those q [] up = sym (if_none (test q))
  at_those q (x ∷ xs) up = three_ways nat_lt number_order q x.0 (row_at nat_lt q (those (x ∷ xs)) ≡ (if test q then row_at nat_lt q (x ∷ xs) else None))
      (λ e. apart (at_those q xs up.1) (apart_first nat_lt number_order q x.0 e))
      (λ e. apart (at_those q xs up.1) (apart_second nat_lt number_order q x.0 e))
      (λ e f. here (number_order.same q x.0 e f) (one_both nat_lt number_order q x.0 e f) (test q) refl)
    where
      step : are_one nat_lt q x.0 ≡ false → (b : Bool) → row_at nat_lt q (if b then x ∷ those xs else those xs) ≡ row_at nat_lt q (those xs)
      step e true = ap (λ b. if b then Some x.1 else row_at nat_lt q (those xs)) e
      step e false = refl

      apart : row_at nat_lt q (those xs) ≡ (if test q then row_at nat_lt q xs else None) → are_one nat_lt q x.0 ≡ false
          → row_at nat_lt q (those (x ∷ xs)) ≡ (if test q then row_at nat_lt q (x ∷ xs) else None)
      apart rest e =
          step e (test x.0) ∙ rest ∙ ap (λ r. if test q then r else None) (sym (ap (λ b. if b then Some x.1 else row_at nat_lt q xs) e))

      here : q ≡ x.0 → are_one nat_lt q x.0 ≡ true → (b : Bool) → test q ≡ b → row_at nat_lt q (those (x ∷ xs)) ≡ (if b then row_at nat_lt q (x ∷ xs) else None)
      here is one true e =
          ap (λ c. row_at nat_lt q (if c then x ∷ those xs else those xs)) (ap test (sym is) ∙ e)
          ∙ ap (λ c. if c then Some x.1 else row_at nat_lt q (those xs)) one
          ∙ sym (ap (λ c. if c then Some x.1 else row_at nat_lt q xs) one)
      here is one false e =
          ap (λ c. row_at nat_lt q (if c then x ∷ those xs else those xs)) (ap test (sym is) ∙ e)
          ∙ ap (λ k. row_at nat_lt k (those xs)) is
          ∙ none_after nat_lt number_order x.0 (those xs) (those_after x.0 xs up.0)

-- ---- what is found in two lists, one after the other
module _ {X : Type 0} (q : ℕ) where
  at_second : (ys zs : List (ℕ × X)) → row_at nat_lt q ys ≡ None → row_at nat_lt q (ys ++ zs) ≡ row_at nat_lt q zs
  at_second [] zs h = refl
  at_second (y ∷ ys) zs h = go (are_one nat_lt q y.0) h (at_second ys zs)
    where
      go : (b : Bool) → (if b then Some y.1 else row_at nat_lt q ys) ≡ None → (row_at nat_lt q ys ≡ None → row_at nat_lt q (ys ++ zs) ≡ row_at nat_lt q zs)
          → (if b then Some y.1 else row_at nat_lt q (ys ++ zs)) ≡ row_at nat_lt q zs
      go true h rest = let bad : Some y.1 ≡ None = h in cc
      go false h rest = rest h

  at_first : (ys zs : List (ℕ × X)) → row_at nat_lt q zs ≡ None → row_at nat_lt q (ys ++ zs) ≡ row_at nat_lt q ys
  at_first [] zs h = h
  at_first (y ∷ ys) zs h = ap (λ r. if are_one nat_lt q y.0 then Some y.1 else r) (at_first ys zs h)

-- ---- the rows with some numbers, each with its own
module _ {X : Type 0} (xs : List (ℕ × X)) where
  abbrev entry : ℕ → X → List (ℕ × X)
  entry k x = (k, x) ∷ []

  abbrev found : ℕ → Option X
  found k = row_at nat_lt k xs

  abbrev entries : List ℕ → List (ℕ × X)
  entries ks = gathered found entry ks

  abbrev AllUnder : ℕ → List (ℕ × X) → Type 0
  AllUnder k [] = ⊤
  AllUnder k (y ∷ ys) = (nat_lt y.0 k ≡ true) × AllUnder k ys

  under_append : (k : ℕ) (ys zs : List (ℕ × X)) → AllUnder k ys → AllUnder k zs → AllUnder k (ys ++ zs)
  under_append k [] zs h low = low
  under_append k (y ∷ ys) zs h low = (h.0, under_append k ys zs h.1 low)

  entries_under : (k : ℕ) (ks : List ℕ) → KeysBefore nat_lt k ks → AllUnder k (entries ks)
  entries_under k [] h = tt
  entries_under k (q ∷ ks) h = under_append k (entries ks) (piece_at entry q (found q)) (entries_under k ks h.1) (go (found q))
    where
      go : (o : Option X) → AllUnder k (piece_at entry q o)
      go None = tt
      go (Some x) = (h.0, tt)

  after_end : (a k : ℕ) (x : X) (ys : List (ℕ × X)) → AllAfter nat_lt a ys → nat_lt a k ≡ true → AllAfter nat_lt a (ys ++ (k, x) ∷ [])
  after_end a k x [] h less = (less, tt)
  after_end a k x (y ∷ ys) h less = (h.0, after_end a k x ys h.1 less)

  rises_end : (k : ℕ) (x : X) (ys : List (ℕ × X)) → Rises nat_lt ys → AllUnder k ys → Rises nat_lt (ys ++ (k, x) ∷ [])
  rises_end k x [] up low = (tt, tt)
  rises_end k x (y ∷ ys) up low = (after_end y.0 k x ys up.0 low.0, rises_end k x ys up.1 low.1)

  entries_rise : (ks : List ℕ) → KeysDescend nat_lt ks → Rises nat_lt (entries ks)
  entries_rise [] down = tt
  entries_rise (k ∷ ks) down = go (found k) (entries_rise ks down.1)
    where
      go : (o : Option X) → Rises nat_lt (entries ks) → Rises nat_lt (entries ks ++ piece_at entry k o)
      go None rest = subst (Rises nat_lt) (sym (append-nil (entries ks))) rest
      go (Some x) rest = rises_end k x (entries ks) rest (entries_under k ks down.0)

  not_before : (k : ℕ) (ks : List ℕ) → KeysBefore nat_lt k ks → among nat_lt k ks ≡ false
  not_before k [] h = refl
  not_before k (q ∷ ks) h = ap (λ b. b || among nat_lt k ks) (apart_second nat_lt number_order k q h.0) ∙ not_before k ks h.1

  at_entries : (q : ℕ) (ks : List ℕ) → KeysDescend nat_lt ks → row_at nat_lt q (entries ks) ≡ (if among nat_lt q ks then found q else None)
  at_entries q [] down = refl
  at_entries q (k ∷ ks) down = three_ways nat_lt number_order q k (row_at nat_lt q (entries (k ∷ ks)) ≡ (if among nat_lt q (k ∷ ks) then found q else None))
      (λ e. apart (at_entries q ks down.1) (apart_first nat_lt number_order q k e))
      (λ e. apart (at_entries q ks down.1) (apart_second nat_lt number_order q k e))
      (λ e f. here (at_entries q ks down.1) (number_order.same q k e f) (one_both nat_lt number_order q k e f))
    where
      other : are_one nat_lt q k ≡ false → (o : Option X) → row_at nat_lt q (piece_at entry k o) ≡ None
      other e None = refl
      other e (Some x) = ap (λ b. if b then Some x else None) e

      apart : row_at nat_lt q (entries ks) ≡ (if among nat_lt q ks then found q else None) → are_one nat_lt q k ≡ false
          → row_at nat_lt q (entries (k ∷ ks)) ≡ (if among nat_lt q (k ∷ ks) then found q else None)
      apart rest e =
          at_first q (entries ks) (piece_at entry k (found k)) (other e (found k))
          ∙ rest ∙ ap (λ b. if b || among nat_lt q ks then found q else None) (sym e)

      own : are_one nat_lt q k ≡ true → (o : Option X) → row_at nat_lt q (piece_at entry k o) ≡ o
      own e None = refl
      own e (Some x) = ap (λ b. if b then Some x else None) e

      here : row_at nat_lt q (entries ks) ≡ (if among nat_lt q ks then found q else None) → q ≡ k → are_one nat_lt q k ≡ true
          → row_at nat_lt q (entries (k ∷ ks)) ≡ (if among nat_lt q (k ∷ ks) then found q else None)
      here rest is e =
          let away : among nat_lt q ks ≡ false = ap (λ n. among nat_lt n ks) is ∙ not_before k ks down.0 in
          let none : row_at nat_lt q (entries ks) ≡ None = rest ∙ ap (λ b. if b then found q else None) away in
          at_second q (entries ks) (piece_at entry k (found k)) none
          ∙ own e (found k) ∙ ap found (sym is)
          ∙ ap (λ b. if b || among nat_lt q ks then found q else None) (sym e)

  entries_all : (ks : List ℕ) → Rises nat_lt xs → KeysDescend nat_lt ks → entries ks ≡ those (λ k. among nat_lt k ks) xs
  entries_all ks up down =
      same_entries nat_lt number_order (entries ks) (those (λ k. among nat_lt k ks) xs) (entries_rise ks down) (those_rise (λ k. among nat_lt k ks) xs up)
      (λ q. at_entries q ks down ∙ sym (at_those (λ k. among nat_lt k ks) q xs up))

-- ---- what they come to
module _ {X E : Type 0} (piece : ℕ → X → List E) where
  abbrev pieces : List (ℕ × X) → List E
  pieces xs = flat_map (λ x. piece x.0 x.1) xs

  pieces_append : (xs ys : List (ℕ × X)) → pieces (xs ++ ys) ≡ pieces xs ++ pieces ys
  pieces_append [] ys = refl
  pieces_append (x ∷ xs) ys = ap (λ es. piece x.0 x.1 ++ es) (pieces_append xs ys) ∙ sym (append_assoc (piece x.0 x.1) (pieces xs) (pieces ys))

  by_entries : (at : ℕ → Option X) (ks : List ℕ) → gathered at piece ks ≡ pieces (gathered at (λ k x. (k, x) ∷ []) ks)
  by_entries at [] = refl
  by_entries at (k ∷ ks) =
      (λ j. by_entries at ks j ++ one (at k) j)
      ∙ sym (pieces_append (gathered at (λ k x. (k, x) ∷ []) ks) (piece_at (λ k x. (k, x) ∷ []) k (at k)))
    where
      one : (o : Option X) → piece_at piece k o ≡ pieces (piece_at (λ k x. (k, x) ∷ []) k o)
      one None = refl
      one (Some x) = sym (append-nil (piece k x))

  none_left : (test : ℕ → Bool) (xs : List (ℕ × X)) → Rises nat_lt xs → ((k : ℕ) (x : X) → row_at nat_lt k xs ≡ Some x → test k ≡ false → piece k x ≡ []) → pieces (those test xs) ≡ pieces xs
  none_left test [] up empty = refl
  none_left test (x ∷ xs) up empty = go (test x.0) refl (none_left test xs up.1 (λ k y at off. empty k y (later k y at) off))
    where
      later : (k : ℕ) (y : X) → row_at nat_lt k xs ≡ Some y → row_at nat_lt k (x ∷ xs) ≡ Some y
      later k y at = three_ways nat_lt number_order k x.0 (row_at nat_lt k (x ∷ xs) ≡ Some y)
          (λ e. ap (λ b. if b then Some x.1 else row_at nat_lt k xs) (apart_first nat_lt number_order k x.0 e) ∙ at)
          (λ e. ap (λ b. if b then Some x.1 else row_at nat_lt k xs) (apart_second nat_lt number_order k x.0 e) ∙ at)
          (λ e f.
          let bad : None ≡ Some y =
          sym (none_after nat_lt number_order x.0 xs up.0) ∙ ap (λ n. row_at nat_lt n xs) (sym (number_order.same k x.0 e f)) ∙ at in
          cc)

      itself : row_at nat_lt x.0 (x ∷ xs) ≡ Some x.1
      itself = ap (λ b. if b then Some x.1 else row_at nat_lt x.0 xs) (one_itself nat_lt number_order x.0)

      go : (b : Bool) → test x.0 ≡ b → pieces (those test xs) ≡ pieces xs → pieces (if b then x ∷ those test xs else those test xs) ≡ piece x.0 x.1 ++ pieces xs
      go true e rest = ap (λ es. piece x.0 x.1 ++ es) rest
      go false e rest = rest ∙ ap (λ es. es ++ pieces xs) (sym (empty x.0 x.1 itself e))

  pub gathered_all : (xs : List (ℕ × X)) (ks : List ℕ) → Rises nat_lt xs → KeysDescend nat_lt ks
      → ((k : ℕ) (x : X) → row_at nat_lt k xs ≡ Some x → among nat_lt k ks ≡ false → piece k x ≡ [])
      → gathered (λ k. row_at nat_lt k xs) piece ks ≡ flat_map (λ x. piece x.0 x.1) xs
  gathered_all xs ks up down empty =
      by_entries (λ k. row_at nat_lt k xs) ks ∙ ap pieces (entries_all xs ks up down) ∙ none_left (λ k. among nat_lt k ks) xs up empty

-- ---- chunks, and rows under their numbers
module _ {X J R : Type 0} (chunk : X → List (J × R)) where
  as_pieces : (xs : List (ℕ × X)) → flat_map (λ x. under x.0 (chunk x.1)) xs ≡ chunks chunk xs
  as_pieces [] = refl
  as_pieces (x ∷ xs) = ap (λ ys. under x.0 (chunk x.1) ++ ys) (as_pieces xs)

  pub chunks_gathered : (xs : List (ℕ × X)) (ks : List ℕ) → Rises nat_lt xs → KeysDescend nat_lt ks
      → ((k : ℕ) (x : X) → row_at nat_lt k xs ≡ Some x → among nat_lt k ks ≡ false → chunk x ≡ [])
      → gathered (λ k. row_at nat_lt k xs) (λ k x. under k (chunk x)) ks ≡ chunks chunk xs
  chunks_gathered xs ks up down empty =
      gathered_all (λ k x. under k (chunk x)) xs ks up down (λ k x at away. ap (under k) (empty k x at away)) ∙ as_pieces xs

module _ {X R : Type 0} (h : X → Option R) where
  by_number : (xs : List (ℕ × X)) → flat_map (λ x. cons_at nat_lt x.0 (h x.1) []) xs ≡ rows_by_key nat_lt h xs
  by_number [] = refl
  by_number (x ∷ xs) = go (h x.1) ∙ ap (cons_at nat_lt x.0 (h x.1)) (by_number xs)
    where
      go : (o : Option R) → cons_at nat_lt x.0 o [] ++ flat_map (λ y. cons_at nat_lt y.0 (h y.1) []) xs ≡ cons_at nat_lt x.0 o (flat_map (λ y. cons_at nat_lt y.0 (h y.1) []) xs)
      go None = refl
      go (Some r) = refl

  pub keyed_gathered : (xs : List (ℕ × X)) (ks : List ℕ) → Rises nat_lt xs → KeysDescend nat_lt ks
      → ((k : ℕ) (x : X) → row_at nat_lt k xs ≡ Some x → among nat_lt k ks ≡ false → h x ≡ None)
      → gathered (λ k. row_at nat_lt k xs) (λ k x. cons_at nat_lt k (h x) []) ks ≡ rows_by_key nat_lt h xs
  keyed_gathered xs ks up down empty =
      gathered_all (λ k x. cons_at nat_lt k (h x) []) xs ks up down (λ k x at away. ap (λ o. cons_at nat_lt k o []) (empty k x at away)) ∙ by_number xs

-- ---- loops from the back

-- one more number, and what it comes to
pub one_more : {E : Type 0} (f : List ℕ → List E) (numbers : List ℕ) (left : ℕ) (start so_far now piece : List E) → 0 < left → left ≤ length numbers
    → so_far ≡ start ++ f (drop left numbers) → now ≡ so_far ++ piece → f (drop left numbers) ++ piece ≡ f (get_or numbers (left - 1) 0 ∷ drop left numbers) → now ≡ start ++ f (drop (left - 1) numbers)
one_more f numbers left start so_far now piece some within had added next =
    let less : left - 1 < length numbers = omega (arith, some, within) in
    let past : (left - 1) + 1 ≡ left = omega (arith, some) in
    let step : drop (left - 1) numbers ≡ get_or numbers (left - 1) 0 ∷ drop left numbers = drop_more numbers (left - 1) 0 less ∙ ap (λ n. get_or numbers (left - 1) 0 ∷ drop n numbers) past in
    added ∙ ap (λ es. es ++ piece) had ∙ append_assoc start (f (drop left numbers)) piece ∙ ap (λ es. start ++ es) (next ∙ ap f (sym step))

module _ {J R : Type 0} (k : ℕ) where
  pub under_more : (xs ys : List (J × R)) → under k xs ++ under k ys ≡ under k (xs ++ ys)
  under_more [] ys = refl
  under_more (x ∷ xs) ys = ap (λ zs. ((k, x.0), x.1) ∷ zs) (under_more xs ys)

pub map_more : {X Y : Type 0} (f : X → Y) (xs ys : List X) → map f xs ++ map f ys ≡ map f (xs ++ ys)
map_more f [] ys = refl
map_more f (x ∷ xs) ys = ap (λ zs. f x ∷ zs) (map_more f xs ys)

-- nothing is added
pub none_more : {X : Type 0} (ys xs : List X) → xs ≡ [] → ys ≡ ys ++ xs
none_more ys xs none = sym (ap (λ zs. ys ++ zs) none ∙ append-nil ys)
