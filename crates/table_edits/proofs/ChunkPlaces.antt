-- Where the chunk of a source begins in a table, and what stands there.
use Rattle.std.proofs.Common.{◌≡◌, ◌∙◌, ◌⊎◌, inl, inr, ℕ, zero, suc, ◌+◌, ◌<◌, ◌≤◌, List, [], ◌∷◌, ◌++◌, drop, get_or, length, map, slice_get, take, take_all, Option, Some, None, Bool, true, false, true≢false, not, refl, sym, ap, subst, arith}
use Rattle.std.specs.Prelude.{⊤, if◌then◌else◌, nat_lt, option_map}
use Rattle.std.specs.List.Sorted.{IsPartitionPoint, IsPartitionedBy}
use Rattle.std.proofs.lemmas.Bool.Decides.{nat_tests}
use Rattle.std.proofs.lemmas.List.{length-append}
use Rattle.api_types.specs.Ident.{Ident}
use Rattle.api_types.specs.Table.{HaveOwnIds, place_of}
use Rattle.plane_types.specs.Keyed.{AllAfter, IsTotal, Rises, are_one, below, chunks, pair_order, row_at, under, with_keys}
use Rattle.plane_types.specs.Numbered.{with_numbers}
use Rattle.plane_types.proofs.KeyedTablesLemmas.{with_keys-rows}
use Rattle.plane_types.proofs.NumberedLemmas.{number_order}
use Rattle.plane_types.proofs.PairLemmas.{pair_first, pair_one, pair_total}
use Rattle.plane_types.proofs.KeyedLemmas.{after_chain, apart_second, never, none_after, one_both, three_ways}
use Rattle.table_edits.specs.ChunksSeen.{chunk_at, chunk_rows, chunk_start}
use Rattle.table_edits.specs.Places.{passes}
use Rattle.table_edits.proofs.NumberPlaces.{own_place}
use Rattle.table_edits.proofs.PlaceLemmas.{halved, have_own, is_under, own_row, row_here}

-- ---- a list of two parts, by a test that holds in the first alone
module _ {R : Type 0} (test : R → Bool) where
  abbrev pub AllSay : Bool → List R → Type 0
  AllSay b [] = ⊤
  AllSay b (x ∷ xs) = (test x ≡ b) × AllSay b xs

  pub say_append : (b : Bool) (xs ys : List R) → AllSay b xs → AllSay b ys → AllSay b (xs ++ ys)
  say_append b [] ys h k = k
  say_append b (x ∷ xs) ys h k = (h.0, say_append b xs ys h.1 k)

  said : (b : Bool) (xs : List R) → AllSay b xs → (i : ℕ) (d : R) → i < length xs → test (get_or xs i d) ≡ b
  said b [] h i d less = absurd (omega (arith, less))
  said b (x ∷ xs) h zero d less = h.0
  said b (x ∷ xs) h (suc i) d less = said b xs h.1 i d (omega (arith, less))

  front : (xs ys : List R) → AllSay true xs → (i : ℕ) (d : R) → i < length xs → test (get_or (xs ++ ys) i d) ≡ true
  front [] ys h i d less = absurd (omega (arith, less))
  front (x ∷ xs) ys h zero d less = h.0
  front (x ∷ xs) ys h (suc i) d less = front xs ys h.1 i d (omega (arith, less))

  back : (xs ys : List R) → AllSay false ys → (i : ℕ) (d : R) → length xs ≤ i → i < length (xs ++ ys) → test (get_or (xs ++ ys) i d) ≡ false
  back [] ys h i d past less = said false ys h i d less
  back (x ∷ xs) ys h zero d past less = absurd (omega (arith, past))
  back (x ∷ xs) ys h (suc i) d past less = back xs ys h i d (omega (arith, past)) (omega (arith, less))

  either : (m n : ℕ) → (m < n) ⊎ (n ≤ m)
  either m n = grind arith

  pub parted : (xs ys : List R) → AllSay true xs → AllSay false ys → IsPartitionedBy test (xs ++ ys)
  parted xs ys h k i j d low within there = go (either j (length xs))
    where
      go : (j < length xs) ⊎ (length xs ≤ j) → test (get_or (xs ++ ys) i d) ≡ true
      go (inl less) = front xs ys h i d (omega (arith, low, less))
      go (inr more) = absurd (true≢false (sym there ∙ back xs ys k j d more within))

  pub part_is : (xs ys : List R) → AllSay true xs → AllSay false ys → (n : ℕ) → IsPartitionPoint (λ r. test r ≡ true) (λ r. test r ≡ false) (xs ++ ys) n → n ≤ length (xs ++ ys) → n ≡ length xs
  part_is xs ys h k n point most = by (xs ++ ys) refl
    where
      all : length (xs ++ ys) ≡ length xs + length ys
      all = length-append xs ys

      by : (zs : List R) → zs ≡ xs ++ ys → n ≡ length xs
      by [] e = let none : length (xs ++ ys) ≡ 0 = ap length (sym e) in omega (arith, none, all, most)
      by (z ∷ zs) e = go (either n (length xs)) (either (length xs) n)
        where
          go : (n < length xs) ⊎ (length xs ≤ n) → (length xs < n) ⊎ (n ≤ length xs) → n ≡ length xs
          go (inl less) o = absurd (true≢false (sym (front xs ys h n z less) ∙ point.1 n z (omega arith) (omega (arith, less, all))))
          go (inr more) (inl past) = absurd (true≢false (sym (point.0 (length xs) z (omega arith) past) ∙ back xs ys k (length xs) z (omega arith) (omega (arith, past, most))))
          go (inr more) (inr less) = omega (arith, more, less)

-- ---- the rows of chunks say of which source they are
module _ {X J R : Type 0} (id_of : X → Ident) (came : X → List (J × R)) (source : R → Ident) (all : List X)
    (says : (s : X) → map (λ (x : J × R). source x.1) (came s) ≡ map (λ (x : J × R). id_of s) (came s)) where
  abbrev number : R → Option ℕ
  number r = place_of id_of (source r) all

  head_same : {A : Type 0} (a b : A) (xs ys : List A) → a ∷ xs ≡ b ∷ ys → a ≡ b
  head_same a b xs ys e = ap (first a) e
    where
      first : {A : Type 0} → A → List A → A
      first d [] = d
      first d (x ∷ xs) = x

  tail_same : {A : Type 0} (a b : A) (xs ys : List A) → a ∷ xs ≡ b ∷ ys → xs ≡ ys
  tail_same a b xs ys e = ap rest e
    where
      rest : {A : Type 0} → List A → List A
      rest [] = []
      rest (x ∷ xs) = xs

  rows_say : (q m : ℕ) (i : Ident) (ys : List (J × R)) → map (λ (x : J × R). source x.1) ys ≡ map (λ (x : J × R). i) ys → place_of id_of i all ≡ Some m
      → (b : Bool) → nat_lt m q ≡ b → AllSay (λ r. passes (λ k. nat_lt k q) (number r)) b (map (λ (x : J × R). x.1) ys)
  rows_say q m i [] e at b is = tt
  rows_say q m i (y ∷ ys) e at b is = (
    ap (λ j. passes (λ k. nat_lt k q) (place_of id_of j all)) (head_same (source y.1) i (map (λ (x : J × R). source x.1) ys) (map (λ (x : J × R). i) ys) e) ∙ ap (passes (λ k. nat_lt k q)) at ∙ is,
    rows_say q m i ys (tail_same (source y.1) i (map (λ (x : J × R). source x.1) ys) (map (λ (x : J × R). i) ys) e) at b is,
  )

  chunks_say : (q n : ℕ) (b : Bool) (xs : List X) → ((i : ℕ) (s : X) → slice_get xs i ≡ Some s → place_of id_of (id_of s) all ≡ Some (n + i)) → ((i : ℕ) → i < length xs → nat_lt (n + i) q ≡ b)
      → AllSay (λ r. passes (λ k. nat_lt k q) (number r)) b (chunk_rows came xs)
  chunks_say q n b [] at is = tt
  chunks_say q n b (x ∷ xs) at is =
      say_append (λ r. passes (λ k. nat_lt k q) (number r)) b (map (λ (y : J × R). y.1) (came x)) (chunk_rows came xs)
      (rows_say q (n + 0) (id_of x) (came x) (says x) (at 0 x refl) b (is 0 (omega arith)))
      (chunks_say q (suc n) b xs (λ i s got. let next : n + suc i ≡ suc n + i = omega arith in at (suc i) s got ∙ ap Some next)
      (λ i less. let next : suc n + i ≡ n + suc i = omega arith in ap (λ m. nat_lt m q) next ∙ is (suc i) (omega (arith, less))))

-- ---- chunks of the first sources, and of the others
rows_parted : {X J R : Type 0} (came : X → List (J × R)) (k : ℕ) (xs : List X) → chunk_rows came xs ≡ chunk_rows came (take k xs) ++ chunk_rows came (drop k xs)
rows_parted came zero xs = refl
rows_parted came (suc k) [] = refl
rows_parted came (suc k) (x ∷ xs) = ap (λ l. map (λ y. y.1) (came x) ++ l) (rows_parted came k xs) ∙ sym (joined (map (λ y. y.1) (came x)) (chunk_rows came (take k xs)) (chunk_rows came (drop k xs)))
  where
    joined : {R : Type 0} (a b c : List R) → (a ++ b) ++ c ≡ a ++ (b ++ c)
    joined [] b c = refl
    joined (x ∷ a) b c = ap (λ l. x ∷ l) (joined a b c)

taken_at : {X : Type 0} (k : ℕ) (xs : List X) (i : ℕ) (s : X) → slice_get (take k xs) i ≡ Some s → slice_get xs i ≡ Some s
taken_at zero xs i s got = cc
taken_at (suc k) [] i s got = cc
taken_at (suc k) (x ∷ xs) zero s got = got
taken_at (suc k) (x ∷ xs) (suc i) s got = taken_at k xs i s got

taken_few : {X : Type 0} (k : ℕ) (xs : List X) → length (take k xs) ≤ k
taken_few zero xs = omega arith
taken_few (suc k) [] = omega arith
taken_few (suc k) (x ∷ xs) = let rest = taken_few k xs in omega (arith, rest)

dropped_at : {X : Type 0} (k : ℕ) (xs : List X) (i : ℕ) (s : X) → slice_get (drop k xs) i ≡ Some s → slice_get xs (k + i) ≡ Some s
dropped_at zero xs i s got = let same : 0 + i ≡ i = omega arith in ap (slice_get xs) same ∙ got
dropped_at (suc k) [] i s got = cc
dropped_at (suc k) (x ∷ xs) i s got = let next : suc k + i ≡ suc (k + i) = omega arith in ap (slice_get (x ∷ xs)) next ∙ dropped_at k xs i s got

-- so halving finds where a chunk begins
module _ {X J R : Type 0} (id_of : X → Ident) (came : X → List (J × R)) (source : R → Ident) (xs : List X) (own : HaveOwnIds id_of xs)
    (says : (s : X) → map (λ (x : J × R). source x.1) (came s) ≡ map (λ (x : J × R). id_of s) (came s)) (rows : List R) (are : rows ≡ chunk_rows came xs) (q : ℕ) where
  abbrev pub is_first : R → Bool
  is_first r = passes (λ k. nat_lt k q) (place_of id_of (source r) xs)

  firsts : AllSay is_first true (chunk_rows came (take q xs))
  firsts = chunks_say id_of came source xs says q 0 true (take q xs)
      (λ i s got. own_place id_of xs i s own (taken_at q xs i s got) ∙ ap Some (omega arith))
      (λ i less. let few = taken_few q xs in grind (arith, nat_tests, less, few))

  others : AllSay is_first false (chunk_rows came (drop q xs))
  others = chunks_say id_of came source xs says q q false (drop q xs)
      (λ i s got. own_place id_of xs (q + i) s own (dropped_at q xs i s got))
      (λ i less. grind (arith, nat_tests))

  parts : rows ≡ chunk_rows came (take q xs) ++ chunk_rows came (drop q xs)
  parts = are ∙ rows_parted came q xs

  pub start_found : (n : ℕ) → (IsPartitionedBy is_first rows → IsPartitionPoint (λ r. is_first r ≡ true) (λ r. is_first r ≡ false) rows n) → n ≤ length rows → n ≡ chunk_start came xs q
  start_found n finds most =
      part_is is_first (chunk_rows came (take q xs)) (chunk_rows came (drop q xs)) firsts others n
      (subst (λ l. IsPartitionPoint (λ r. is_first r ≡ true) (λ r. is_first r ≡ false) l n) parts
      (finds (subst (IsPartitionedBy is_first) (sym parts) (parted is_first (chunk_rows came (take q xs)) (chunk_rows came (drop q xs)) firsts others))))
      (subst (λ l. n ≤ length l) parts most)

-- what has no number yet begins at the end
pub start_past : {X J R : Type 0} (came : X → List (J × R)) (xs : List X) (q : ℕ) → length xs ≤ q → chunk_start came xs q ≡ length (chunk_rows came xs)
start_past came xs q past = ap (λ l. length (chunk_rows came l)) (take_all q xs past)

-- ---- what stands in a chunk
module _ {X J R : Type 0} (came : X → List (J × R)) where
  past_front : (a b : List R) (i : ℕ) → slice_get (a ++ b) (length a + i) ≡ slice_get b i
  past_front [] b i = let same : 0 + i ≡ i = omega arith in ap (slice_get b) same
  past_front (x ∷ a) b i = let next : suc (length a) + i ≡ suc (length a + i) = omega arith in ap (slice_get (x ∷ (a ++ b))) next ∙ past_front a b i

  in_front : (a b : List R) (i : ℕ) → i < length a → slice_get (a ++ b) i ≡ slice_get a i
  in_front [] b i less = absurd (omega (arith, less))
  in_front (x ∷ a) b zero less = refl
  in_front (x ∷ a) b (suc i) less = in_front a b i (omega (arith, less))

  -- the rest begins with the chunk
  abbrev HasChunk : List R → List R → Type 0
  HasChunk chunk rest = (more : List R) × (rest ≡ chunk ++ more)

  first_chunk : (k : ℕ) (xs : List X) → HasChunk (map (λ (y : J × R). y.1) (chunk_at came (slice_get xs k))) (chunk_rows came (drop k xs))
  first_chunk zero [] = ([], refl)
  first_chunk zero (x ∷ xs) = (chunk_rows came xs, refl)
  first_chunk (suc k) [] = ([], refl)
  first_chunk (suc k) (x ∷ xs) = first_chunk k xs

  pub chunk_stands : (rows : List R) (k : ℕ) (xs : List X) → rows ≡ chunk_rows came xs → (i : ℕ) → i < length (map (λ (y : J × R). y.1) (chunk_at came (slice_get xs k)))
      → slice_get rows (chunk_start came xs k + i) ≡ slice_get (map (λ (y : J × R). y.1) (chunk_at came (slice_get xs k))) i
  chunk_stands rows k xs are i less =
      let f = first_chunk k xs in
      let chunk = map (λ (y : J × R). y.1) (chunk_at came (slice_get xs k)) in
      ap (λ l. slice_get l (chunk_start came xs k + i)) (are ∙ rows_parted came k xs)
      ∙ past_front (chunk_rows came (take k xs)) (chunk_rows came (drop k xs)) i
      ∙ ap (λ l. slice_get l i) f.1
      ∙ in_front chunk f.0 i less

  pub chunk_within : (rows : List R) (k : ℕ) (xs : List X) → rows ≡ chunk_rows came xs → chunk_start came xs k + length (map (λ (y : J × R). y.1) (chunk_at came (slice_get xs k))) ≤ length rows
  chunk_within rows k xs are =
      let f = first_chunk k xs in
      let chunk = map (λ (y : J × R). y.1) (chunk_at came (slice_get xs k)) in
      let long : length rows ≡ chunk_start came xs k + length (chunk_rows came (drop k xs)) = ap length (are ∙ rows_parted came k xs) ∙ length-append (chunk_rows came (take k xs)) (chunk_rows came (drop k xs)) in
      let rest : length (chunk_rows came (drop k xs)) ≡ length chunk + length f.0 = ap length f.1 ∙ length-append chunk f.0 in
      omega (arith, long, rest)

  same_long : (xs : List (J × R)) → length (map (λ (x : J × R). x.0) xs) ≡ length (map (λ (x : J × R). x.1) xs)
  same_long [] = refl
  same_long (x ∷ xs) = ap (λ n. suc n) (same_long xs)

  -- so does the chunk of a source that was looked up
  pub chunk_holds : (rows : List R) (k : ℕ) (xs : List X) → rows ≡ chunk_rows came xs → (old : Option X) → old ≡ slice_get xs k → (start : ℕ) → start ≡ chunk_start came xs k
      → (keys : List J) → keys ≡ map (λ (x : J × R). x.0) (chunk_at came old)
      → (start + length keys ≤ length rows) × ((i : ℕ) → i < length keys → slice_get rows (start + i) ≡ slice_get (map (λ (x : J × R). x.1) (chunk_at came old)) i)
  chunk_holds rows k xs are old is start from keys keyed =
      let long : length keys ≡ length (map (λ (x : J × R). x.1) (chunk_at came (slice_get xs k))) = ap length keyed ∙ same_long (chunk_at came old) ∙ ap (λ o. length (map (λ (x : J × R). x.1) (chunk_at came o))) is in
      let within = chunk_within rows k xs are in (
        omega (arith, long, within, from),
        λ i less. (λ j. slice_get rows (from j + i)) ∙ chunk_stands rows k xs are i (omega (arith, long, less)) ∙ ap (λ o. slice_get (map (λ (x : J × R). x.1) (chunk_at came o)) i) (sym is),
      )

-- ---- keys of a chunk, as keys of the table
pub chunk_rise : {X J R : Type 0} (second : J → J → Bool) (chunk : X → List (J × R)) → ((s : X) → Rises second (chunk s)) → (o : Option X) → Rises second (chunk_at chunk o)
chunk_rise second chunk rise None = tt
chunk_rise second chunk rise (Some s) = rise s

module _ {X J R : Type 0} (second : J → J → Bool) (order : IsTotal second) (came : X → List (J × R)) where
  abbrev pub pairs : ℕ × J → ℕ × J → Bool
  pairs = pair_order nat_lt second

  below_past : (n : ℕ) (q : ℕ × J) → nat_lt n q.0 ≡ true → (ys : List (J × R)) (zs : List ((ℕ × J) × R)) → below pairs q (under n ys ++ zs) ≡ length (map (λ (y : J × R). y.1) ys) + below pairs q zs
  below_past n q less [] zs = omega arith
  below_past n q less (y ∷ ys) zs =
      ap (λ b. if b then suc (below pairs q (under n ys ++ zs)) else zero) (pair_first nat_lt second number_order order (n, y.0) q less)
      ∙ ap (λ m. suc m) (below_past n q less ys zs) ∙ omega arith

  below_here : (n : ℕ) (j : J) (ys : List (J × R)) (zs : List ((ℕ × J) × R)) → below pairs (n, j) zs ≡ zero → below pairs (n, j) (under n ys ++ zs) ≡ below second j ys
  below_here n j [] zs none = none
  below_here n j (y ∷ ys) zs none =
      ap (λ b. if b then suc (below pairs (n, j) (under n ys ++ zs)) else zero) (pair_one nat_lt second number_order order (n, y.0) (n, j) (never nat_lt number_order n) (never nat_lt number_order n))
      ∙ ap (λ m. if second y.0 j then suc m else zero) (below_here n j ys zs none)

  below_none : (n m : ℕ) (j : J) → nat_lt n m ≡ true → (xs : List X) → below pairs (n, j) (chunks came (with_numbers m xs)) ≡ zero
  below_none n m j less [] = refl
  below_none n m j less (x ∷ xs) = go (came x) (below_none n (suc m) j (grind (arith, nat_tests, less)) xs)
    where
      go : (ys : List (J × R)) → below pairs (n, j) (chunks came (with_numbers (suc m) xs)) ≡ zero → below pairs (n, j) (under m ys ++ chunks came (with_numbers (suc m) xs)) ≡ zero
      go [] rest = rest
      go (y ∷ ys) rest = ap (λ b. if b then suc (below pairs (n, j) (under m ys ++ chunks came (with_numbers (suc m) xs))) else zero) ((pair_total nat_lt second number_order order).one_way (n, j) (m, y.0) (pair_first nat_lt second number_order order (n, j) (m, y.0) less))

  below_from : (n k : ℕ) (j : J) (xs : List X) → below pairs (n + k, j) (chunks came (with_numbers n xs)) ≡ chunk_start came xs k + below second j (chunk_at came (slice_get xs k))
  below_from n zero j [] = refl
  below_from n (suc k) j [] = refl
  below_from n zero j (x ∷ xs) =
      let here : n + 0 ≡ n = omega arith in
      ap (λ m. below pairs (m, j) (chunks came (with_numbers n (x ∷ xs)))) here
      ∙ below_here n j (came x) (chunks came (with_numbers (suc n) xs)) (below_none n (suc n) j (grind (arith, nat_tests)) xs)
      ∙ omega arith
  below_from n (suc k) j (x ∷ xs) =
      let next : n + suc k ≡ suc n + k = omega arith in
      let rest = below_from (suc n) k j xs in
      let more = length-append (map (λ (y : J × R). y.1) (came x)) (chunk_rows came (take k xs)) in
      below_past n (n + suc k, j) (grind (arith, nat_tests)) (came x) (chunks came (with_numbers (suc n) xs))
      ∙ ap (λ m. length (map (λ (y : J × R). y.1) (came x)) + below pairs (m, j) (chunks came (with_numbers (suc n) xs))) next
      ∙ omega (arith, rest, more)

  pub below_chunk : (k : ℕ) (j : J) (xs : List X) → below pairs (k, j) (chunks came (with_numbers 0 xs)) ≡ chunk_start came xs k + below second j (chunk_at came (slice_get xs k))
  below_chunk k j xs = let start : k ≡ 0 + k = omega arith in ap (λ m. below pairs (m, j) (chunks came (with_numbers 0 xs))) start ∙ below_from 0 k j xs

-- ---- a key among those of a chunk
abbrev pub itself : {J : Type 0} → J → J
itself j = j

module _ {J R : Type 0} (second : J → J → Bool) (order : IsTotal second) where
  pub below_keys : (q : J) (xs : List (J × R)) → below second q xs ≡ below second q (with_keys itself (map (λ (x : J × R). x.0) xs))
  below_keys q [] = refl
  below_keys q (x ∷ xs) = ap (λ m. if second x.0 q then suc m else zero) (below_keys q xs)

  abbrev pub row_there : J → Option J → Option R → Option R
  row_there q None r = None
  row_there q (Some k) r = if not (second q k) then r else None

  -- at the place of a key
  pub chunk_found : (q : J) (xs : List (J × R)) → Rises second xs
      → row_at second q xs ≡ row_there q (slice_get (map (λ (x : J × R). x.0) xs) (below second q xs)) (slice_get (map (λ (x : J × R). x.1) xs) (below second q xs))
  chunk_found q [] up = refl
  chunk_found q (x ∷ xs) up =
      three_ways second order q x.0 (row_at second q (x ∷ xs) ≡ row_there q (slice_get (map (λ (y : J × R). y.0) (x ∷ xs)) (below second q (x ∷ xs))) (slice_get (map (λ (y : J × R). y.1) (x ∷ xs)) (below second q (x ∷ xs))))
      (λ e.
      none_after second order q (x ∷ xs) (e, after_chain second order q x.0 xs e up.0)
      ∙ sym (ap (λ n. row_there q (slice_get (map (λ (y : J × R). y.0) (x ∷ xs)) n) (slice_get (map (λ (y : J × R). y.1) (x ∷ xs)) n)) (here (order.one_way q x.0 e))
      ∙ ap (λ b. if not b then Some x.1 else None) e))
      (λ e.
      ap (λ b. if b then Some x.1 else row_at second q xs) (apart_second second order q x.0 e)
      ∙ chunk_found q xs up.1
      ∙ sym (ap (λ n. row_there q (slice_get (map (λ (y : J × R). y.0) (x ∷ xs)) n) (slice_get (map (λ (y : J × R). y.1) (x ∷ xs)) n)) (later e)))
      (λ e f.
      ap (λ b. if b then Some x.1 else row_at second q xs) (one_both second order q x.0 e f)
      ∙ sym (ap (λ n. row_there q (slice_get (map (λ (y : J × R). y.0) (x ∷ xs)) n) (slice_get (map (λ (y : J × R). y.1) (x ∷ xs)) n)) (here f)
      ∙ ap (λ b. if not b then Some x.1 else None) e))
    where
      here : second x.0 q ≡ false → below second q (x ∷ xs) ≡ zero
      here e = ap (λ b. if b then suc (below second q xs) else zero) e

      later : second x.0 q ≡ true → below second q (x ∷ xs) ≡ suc (below second q xs)
      later e = ap (λ b. if b then suc (below second q xs) else zero) e

  pub keys_rise : (xs : List (J × R)) → Rises second xs → Rises second (with_keys itself (map (λ (x : J × R). x.0) xs))
  keys_rise [] up = tt
  keys_rise (x ∷ xs) up = (all_after x.0 xs up.0, keys_rise xs up.1)
    where
      all_after : (k : J) (ys : List (J × R)) → AllAfter second k ys → AllAfter second k (with_keys itself (map (λ (x : J × R). x.0) ys))
      all_after k [] h = tt
      all_after k (y ∷ ys) h = (h.0, all_after k ys h.1)

-- rows that have their keys beside them
module _ {J R W : Type 0} (second : J → J → Bool) (order : IsTotal second) (key : W → J) (row : W → R) where
  abbrev pub paired : List W → List (J × R)
  paired ws = map (λ (w : W). (key w, row w)) ws

  paired_after : (k : J) (ws : List W) → AllAfter second k (paired ws) → AllAfter second k (with_keys key ws)
  paired_after k [] h = tt
  paired_after k (w ∷ ws) h = (h.0, paired_after k ws h.1)

  pub paired_rise : (ws : List W) → Rises second (paired ws) → Rises second (with_keys key ws)
  paired_rise [] up = tt
  paired_rise (w ∷ ws) up = (paired_after (key w) ws up.0, paired_rise ws up.1)

  paired_at : (q : J) (ws : List W) → row_at second q (paired ws) ≡ option_map row (row_at second q (with_keys key ws))
  paired_at q [] = refl
  paired_at q (w ∷ ws) = go (are_one second q (key w)) (paired_at q ws)
    where
      go : (b : Bool) → row_at second q (paired ws) ≡ option_map row (row_at second q (with_keys key ws)) → (if b then Some (row w) else row_at second q (paired ws)) ≡ option_map row (if b then Some w else row_at second q (with_keys key ws))
      go true rest = refl
      go false rest = rest

  pub paired_found : (q : J) (ws : List W) → Rises second (paired ws) → (n : ℕ)
      → (IsPartitionedBy (is_under second order (λ (w : W). Some (key w)) q) ws → IsPartitionPoint (λ w. is_under second order (λ (w : W). Some (key w)) q w ≡ true) (λ w. is_under second order (λ (w : W). Some (key w)) q w ≡ false) ws n) → n ≤ length ws
      → row_at second q (paired ws) ≡ option_map row (row_here second order key q (slice_get ws n))
  paired_found q ws up n finds most =
      let rise = paired_rise ws up in
      let place = halved second order (λ (w : W). Some (key w)) q (with_keys key ws) rise (have_own key ws) ws (with_keys-rows key ws) n finds most in
      paired_at q ws ∙ ap (option_map row) (own_row second order key q ws rise n place)
