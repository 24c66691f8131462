-- Rows with keys, in ascending order of the keys: a list of rows that is a partial function from
-- keys to rows.
use Rattle.std.specs.Prelude.{◌≡◌, ℕ, zero, suc, ◌&&◌, ◌||◌, Bool, true, false, not, List, [], ◌∷◌, ◌++◌, map, Option, Some, None, if◌then◌else◌, ⊤}

-- a strict order in which, of two keys, one comes first or they are one
pub record IsTotal {K : Type 0} (before : K → K → Bool) : Type 0 where
  pub one_way : (a b : K) → before a b ≡ true → before b a ≡ false
  pub chain : (a b c : K) → before a b ≡ true → before b c ≡ true → before a c ≡ true
  pub same : (a b : K) → before a b ≡ false → before b a ≡ false → a ≡ b

module _ {K : Type 0} (before : K → K → Bool) where
  abbrev pub are_one : K → K → Bool
  are_one a b = not (before a b) && not (before b a)

  -- none of these keys is the first one
  abbrev pub Others : K → List K → Type 0
  Others k [] = ⊤
  Others k (q ∷ qs) = (are_one q k ≡ false) × Others k qs

  -- no two of these keys are one
  abbrev pub AreApart : List K → Type 0
  AreApart [] = ⊤
  AreApart (k ∷ ks) = Others k ks × AreApart ks

-- keys of two parts: by the first part, then by the second
abbrev pub pair_order : {K J : Type 0} → (K → K → Bool) → (J → J → Bool) → K × J → K × J → Bool
pair_order first second a b =
    if first a.0 b.0 then true else (if first b.0 a.0 then false else second a.1 b.1)

module _ {K R : Type 0} (before : K → K → Bool) where
  -- all keys come after this one
  abbrev pub AllAfter : K → List (K × R) → Type 0
  AllAfter k [] = ⊤
  AllAfter k (x ∷ xs) = (before k x.0 ≡ true) × AllAfter k xs

  -- each key comes after those before it in the list
  abbrev pub Rises : List (K × R) → Type 0
  Rises [] = ⊤
  Rises (x ∷ xs) = AllAfter x.0 xs × Rises xs

  -- the row at a key
  abbrev pub row_at : K → List (K × R) → Option R
  row_at k [] = None
  row_at k (x ∷ xs) = if are_one before k x.0 then Some x.1 else row_at k xs

  -- how many keys come before this one
  abbrev pub below : K → List (K × R) → ℕ
  below k [] = zero
  below k (x ∷ xs) = if before x.0 k then suc (below k xs) else zero

  -- the rows are those of a partial function, by ascending keys
  pub record Enumerates (at : K → Option R) (rows : List R) : Type 0 where
    pub entries : List (K × R)
    pub rows_are : map (λ (x : K × R). x.1) entries ≡ rows
    pub rises : Rises entries
    pub at_is : (k : K) → row_at k entries ≡ at k

  -- a row at a key, or none there, before rows with later keys
  abbrev pub cons_at : K → Option R → List (K × R) → List (K × R)
  cons_at k None xs = xs
  cons_at k (Some r) xs = (k, r) ∷ xs

  -- what is made of each source, under the source's key
  abbrev pub rows_by_key : {X : Type 0} → (X → Option R) → List (K × X) → List (K × R)
  rows_by_key h [] = []
  rows_by_key h (x ∷ xs) = cons_at x.0 (h x.1) (rows_by_key h xs)

  -- the rows with this at a key: a row, or none
  abbrev pub put_at : K → Option R → List (K × R) → List (K × R)
  put_at k o [] = cons_at k o []
  put_at k o (x ∷ xs) =
      if before x.0 k then x ∷ put_at k o xs
      else (if before k x.0 then cons_at k o (x ∷ xs) else cons_at k o xs)

  abbrev pub put_all : List (K × Option R) → List (K × R) → List (K × R)
  put_all [] xs = xs
  put_all (o ∷ os) xs = put_all os (put_at o.0 o.1 xs)

  -- whether a key is among those of these puts
  abbrev pub names_key : K → List (K × Option R) → Bool
  names_key k [] = false
  names_key k (o ∷ os) = are_one before k o.0 || names_key k os

  -- each puts what a partial function has at its key
  abbrev pub Say : (K → Option R) → List (K × Option R) → Type 0
  Say at [] = ⊤
  Say at (o ∷ os) = (o.1 ≡ at o.0) × Say at os

  -- all keys come before this one
  abbrev pub AllBefore : K → List (K × Option R) → Type 0
  AllBefore k [] = ⊤
  AllBefore k (o ∷ os) = (before o.0 k ≡ true) × AllBefore k os

  -- from the greatest key to the least
  abbrev pub Descends : List (K × Option R) → Type 0
  Descends [] = ⊤
  Descends (o ∷ os) = AllBefore o.0 os × Descends os

-- rows under their own keys
abbrev pub with_keys : {K R : Type 0} → (R → K) → List R → List (K × R)
with_keys key rows = map (λ r. (key r, r)) rows

-- rows under keys whose first part is this
abbrev pub under : {K J R : Type 0} → K → List (J × R) → List ((K × J) × R)
under k [] = []
under k (y ∷ ys) = ((k, y.0), y.1) ∷ under k ys

-- the chunk of rows of each source, under the source's key
abbrev pub chunks : {K J X R : Type 0} → (X → List (J × R)) → List (K × X) → List ((K × J) × R)
chunks chunk [] = []
chunks chunk (x ∷ xs) = under x.0 (chunk x.1) ++ chunks chunk xs
