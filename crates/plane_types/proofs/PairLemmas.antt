-- Keys of two parts: a table that is made chunk by chunk is a partial function from pairs to its
-- rows.
use Rattle.std.proofs.Common.{◌≡◌, ◌∙◌, List, [], ◌∷◌, ◌++◌, Some, None, Bool, true, false, true≢false, not, refl, sym, ap}
use Rattle.std.specs.Prelude.{◌&&◌, ⊤, if◌then◌else◌, option_and_then, flat_map}
use Rattle.plane_types.specs.Keyed.{IsTotal, are_one, AllAfter, Rises, row_at, Enumerates, pair_order, chunks, under}
use Rattle.plane_types.proofs.KeyedLemmas.{never, three_ways, one_both, apart_first, apart_second, none_after, rows_of}

module _ {K J : Type 0} (first : K → K → Bool) (second : J → J
    → Bool) (f : IsTotal first) (s : IsTotal second) where
  pub pair_first : (a b : K × J) → first a.0 b.0 ≡ true → pair_order first second a b ≡ true
  pair_first a b e =
      ap (λ c. if c then true else (if first b.0 a.0 then false else second a.1 b.1)) e

  pair_second : (a b : K × J) → first b.0 a.0 ≡ true → pair_order first second a b ≡ false
  pair_second a b e =
      ap (λ c. if c then true else (if first b.0 a.0 then false else second a.1 b.1))
      (f.one_way b.0 a.0 e)
      ∙ ap (λ c. if c then false else second a.1 b.1) e

  pub pair_one : (a b : K × J) → first a.0 b.0 ≡ false → first b.0 a.0 ≡ false
      → pair_order first second a b ≡ second a.1 b.1
  pair_one a b e g =
      ap (λ c. if c then true else (if first b.0 a.0 then false else second a.1 b.1)) e
      ∙ ap (λ c. if c then false else second a.1 b.1) g

  pair_one_way : (a b : K × J) → pair_order first second a b ≡ true
      → pair_order first second b a ≡ false
  pair_one_way a b h = three_ways first f a.0 b.0 (pair_order first second b a ≡ false)
      (λ e. pair_second b a e)
      (λ e. absurd (true≢false (sym h ∙ pair_second a b e)))
      (λ e g. pair_one b a g e ∙ s.one_way a.1 b.1 (sym (pair_one a b e g) ∙ h))

  pair_chain : (a b c : K × J) → pair_order first second a b ≡ true
      → pair_order first second b c ≡ true → pair_order first second a c ≡ true
  pair_chain a b c h k = three_ways first f a.0 b.0 (pair_order first second a c ≡ true)
      (λ e. three_ways first f b.0 c.0 (pair_order first second a c ≡ true)
      (λ g. pair_first a c (f.chain a.0 b.0 c.0 e g))
      (λ g. absurd (true≢false (sym k ∙ pair_second b c g)))
      (λ g i. pair_first a c (ap (first a.0) (sym (f.same b.0 c.0 g i)) ∙ e)))
      (λ e. absurd (true≢false (sym h ∙ pair_second a b e)))
      (λ e e'.
      let key : a.0 ≡ b.0 = f.same a.0 b.0 e e' in
      three_ways first f b.0 c.0 (pair_order first second a c ≡ true)
      (λ g. pair_first a c (ap (λ q. first q c.0) key ∙ g))
      (λ g. absurd (true≢false (sym k ∙ pair_second b c g)))
      (λ g i.
      pair_one a c (ap (λ q. first q c.0) key ∙ g) (ap (first c.0) key ∙ i)
      ∙ s.chain a.1 b.1 c.1 (sym (pair_one a b e e') ∙ h) (sym (pair_one b c g i) ∙ k)))

  pair_same : (a b : K × J) → pair_order first second a b ≡ false
      → pair_order first second b a ≡ false → a ≡ b
  pair_same a b h k = three_ways first f a.0 b.0 (a ≡ b)
      (λ e. absurd (true≢false (sym (pair_first a b e) ∙ h)))
      (λ e. absurd (true≢false (sym (pair_first b a e) ∙ k)))
      (λ e g. (λ j. (
        f.same a.0 b.0 e g j,
        s.same a.1 b.1 (sym (pair_one a b e g) ∙ h) (sym (pair_one b a g e) ∙ k) j,
      )))

  pub pair_total : IsTotal (pair_order first second)
  pair_total = record { one_way = pair_one_way; chain = pair_chain; same = pair_same }

  -- with one first part, the second parts decide
  pub alike : (a b : K × J) → first a.0 b.0 ≡ false → first b.0 a.0 ≡ false
      → are_one (pair_order first second) a b ≡ are_one second a.1 b.1
  alike a b e g = (λ j. not (pair_one a b e g j) && not (pair_one b a g e j))

module _ {K J X R : Type 0} (first : K → K → Bool) (second : J → J
    → Bool) (f : IsTotal first) (s : IsTotal second) (chunk : X → List (J × R)) where
  -- the rows
  abbrev pub rows_in : X → List R
  rows_in x = rows_of second s (chunk x)

  prefixed_rows : (k : K) (ys : List (J × R)) (zs : List ((K × J) × R))
      → rows_of (pair_order first second) (pair_total first second f s) (under k ys ++ zs)
      ≡ rows_of second s ys ++ rows_of (pair_order first second) (pair_total first second f s)
      zs
  prefixed_rows k [] zs = refl
  prefixed_rows k (y ∷ ys) zs = ap (λ l. y.1 ∷ l) (prefixed_rows k ys zs)

  pub flat_rows : (xs : List (K × X))
      → rows_of (pair_order first second) (pair_total first second f s) (chunks chunk xs)
      ≡ flat_map rows_in (rows_of first f xs)
  flat_rows [] = refl
  flat_rows (x ∷ xs) =
      prefixed_rows x.0 (chunk x.1) (chunks chunk xs) ∙ ap (λ l. rows_in x.1 ++ l) (flat_rows xs)

  -- they ascend
  abbrev FirstAfter : K → List ((K × J) × R) → Type 0
  FirstAfter k [] = ⊤
  FirstAfter k (z ∷ zs) = (first k z.0.0 ≡ true) × FirstAfter k zs

  all_after_prefixed : (k q : K) (ys : List (J × R)) (zs : List ((K × J) × R)) → first k q ≡ true
      → FirstAfter k zs → FirstAfter k (under q ys ++ zs)
  all_after_prefixed k q [] zs e h = h
  all_after_prefixed k q (y ∷ ys) zs e h = (e, all_after_prefixed k q ys zs e h)

  all_after_flat : (k : K) (xs : List (K × X)) → AllAfter first k xs
      → FirstAfter k (chunks chunk xs)
  all_after_flat k [] h = tt
  all_after_flat k (x ∷ xs) h =
      all_after_prefixed k x.0 (chunk x.1) (chunks chunk xs) h.0 (all_after_flat k xs h.1)

  after_all : (k : K) (j : J) (zs : List ((K × J) × R)) → FirstAfter k zs
      → AllAfter (pair_order first second) (k, j) zs
  after_all k j [] h = tt
  after_all k j (z ∷ zs) h = (pair_first first second f s (k, j) z.0 h.0, after_all k j zs h.1)

  after_prefixed : (k : K) (j : J) (ys : List (J × R)) (zs : List ((K × J) × R))
      → AllAfter second j ys → FirstAfter k zs
      → AllAfter (pair_order first second) (k, j) (under k ys ++ zs)
  after_prefixed k j [] zs h up = after_all k j zs up
  after_prefixed k j (y ∷ ys) zs h up = (
    pair_one first second f s (k, j) (k, y.0) (never first f k) (never first f k) ∙ h.0,
    after_prefixed k j ys zs h.1 up,
  )

  rises_prefixed : (k : K) (ys : List (J × R)) (zs : List ((K × J) × R)) → Rises second ys
      → FirstAfter k zs → Rises (pair_order first second) zs
      → Rises (pair_order first second) (under k ys ++ zs)
  rises_prefixed k [] zs h up more = more
  rises_prefixed k (y ∷ ys) zs h up more =
      (after_prefixed k y.0 ys zs h.0 up, rises_prefixed k ys zs h.1 up more)

  pub flat_rises : ((x : X) → Rises second (chunk x)) → (xs : List (K × X)) → Rises first xs
      → Rises (pair_order first second) (chunks chunk xs)
  flat_rises each [] h = tt
  flat_rises each (x ∷ xs) h =
      rises_prefixed x.0 (chunk x.1) (chunks chunk xs) (each x.1) (all_after_flat x.0 xs h.0)
      (flat_rises each xs h.1)

  -- what is found
  apart_prefixed : (q : K × J) (k : K) (ys : List (J × R)) (zs : List ((K × J) × R))
      → ((j : J) → are_one (pair_order first second) q (k, j) ≡ false)
      → row_at (pair_order first second) q (under k ys ++ zs)
      ≡ row_at (pair_order first second) q zs
  apart_prefixed q k [] zs e = refl
  apart_prefixed q k (y ∷ ys) zs e =
      ap (λ b. if b then Some y.1 else row_at (pair_order first second) q (under k ys ++ zs))
      (e y.0) ∙ apart_prefixed q k ys zs e

  here_prefixed : (k : K) (j : J) (ys : List (J × R)) (zs : List ((K × J) × R))
      → row_at (pair_order first second) (k, j) zs ≡ None
      → row_at (pair_order first second) (k, j) (under k ys ++ zs) ≡ row_at second j ys
  here_prefixed k j [] zs none = none
  here_prefixed k j (y ∷ ys) zs none =
      (λ i. if alike first second f s (k, j) (k, y.0) (never first f k) (never first f k) i
      then Some y.1 else here_prefixed k j ys zs none i)

  pub at_flat : (q : K × J) (xs : List (K × X)) → Rises first xs
      → row_at (pair_order first second) q (chunks chunk xs)
      ≡ option_and_then (λ x. row_at second q.1 (chunk x)) (row_at first q.0 xs)
  at_flat q [] up = refl
  at_flat q (x ∷ xs) up =
      let rest : row_at (pair_order first second) q (chunks chunk xs)
      ≡ option_and_then (λ x. row_at second q.1 (chunk x)) (row_at first q.0 xs) =
      at_flat q xs up.1 in
      three_ways first f q.0 x.0 (row_at (pair_order first second) q (chunks chunk (x ∷ xs))
      ≡ option_and_then (λ x. row_at second q.1 (chunk x)) (row_at first q.0 (x ∷ xs)))
      (λ e.
      apart_prefixed q x.0 (chunk x.1) (chunks chunk xs) (λ j.
      apart_first (pair_order first second) (pair_total first second f s) q (
        x.0,
        j,
      ) (pair_first first second f s q (x.0, j) e))
      ∙ (rest ∙ ap (λ b. option_and_then (λ x. row_at second q.1 (chunk x)) (if b
      then Some x.1 else row_at first q.0 xs)) (sym (apart_first first f q.0 x.0 e))))
      (λ e.
      apart_prefixed q x.0 (chunk x.1) (chunks chunk xs) (λ j.
      apart_second (pair_order first second) (pair_total first second f s) q (
        x.0,
        j,
      ) (pair_first first second f s (x.0, j) q e))
      ∙ (rest ∙ ap (λ b. option_and_then (λ x. row_at second q.1 (chunk x)) (if b
      then Some x.1 else row_at first q.0 xs)) (sym (apart_second first f q.0 x.0 e))))
      (λ e g.
      let key : q.0 ≡ x.0 = f.same q.0 x.0 e g in
      let none : row_at (pair_order first second) (x.0, q.1) (chunks chunk xs) ≡ None =
      none_after (pair_order first second) (pair_total first second f s) (
        x.0,
        q.1,
      ) (chunks chunk xs)
      (after_all x.0 q.1 (chunks chunk xs) (all_after_flat x.0 xs up.0)) in
      ap (λ k. row_at (pair_order first second) (k, q.1) (chunks chunk (x ∷ xs))) key
      ∙ (here_prefixed x.0 q.1 (chunk x.1) (chunks chunk xs) none
      ∙ ap (λ b. option_and_then (λ x. row_at second q.1 (chunk x)) (if b then Some x.1
      else row_at first q.0 xs)) (sym (one_both first f q.0 x.0 e g))))

  -- so: the rows of each keyed row's chunk, under keys of two parts
  pub enumerates_chunks : ((x : X) → Rises second (chunk x))
      → (xs : List (K × X)) (sources : List X) → rows_of first f xs ≡ sources → Rises first xs
      → Enumerates (pair_order first second) (λ q.
      option_and_then (λ x. row_at second q.1 (chunk x)) (row_at first q.0 xs))
      (flat_map rows_in sources)
  enumerates_chunks each xs sources same up = record {
    entries = chunks chunk xs;
    rows_are = flat_rows xs ∙ ap (flat_map rows_in) same;
    rises = flat_rises each xs up;
    at_is = λ q. at_flat q xs up;
  }
