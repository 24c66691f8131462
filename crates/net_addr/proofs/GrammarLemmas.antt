-- A text read by several grammars: a number, or else the longest start among them.
use Rattle.std.proofs.Common.{◌≡◌, ◌↔◌, ℕ, ◌+◌, ◌<◌, ◌≤◌, ◌⊎◌, inl, inr, List, ◌++◌, length, take, max, Result, Ok, Err, IfOk, IfErr, OnErr, refl, subst, arith}
use Rattle.std.proofs.lemmas.Bool.{cases_lt}
use Rattle.net_addr.specs.Reading.{IsRead, NoneSoFar, better_of}
use Rattle.net_addr.specs.Spelling.{Begins, IsLongestStart, IsTextOf, Spells}
use Rattle.net_addr.specs.declared.spelling.BadAddress.{BadAddress}
use Rattle.net_addr.specs.declared.spelling.Part.{Part}
use Rattle.net_addr.proofs.ReadingLemmas.{starts_along}

-- the longest start in either of two grammars
pub longer_start : (P Q : List ℕ → Type 0) (text : List ℕ) (a b : ℕ) → IsLongestStart P text a
    → IsLongestStart Q text b → IsLongestStart (λ t. P t ⊎ Q t) text (max a b)
longer_start P Q text a b p q = record {
  within = omega (arith, p.within, q.within);
  begins = go (cases_lt a b);
  longest = λ k below inside w. none k below inside w.0 w.1;
}
  where
    go : (a < b) ⊎ (b ≤ a) → Begins (λ t. P t ⊎ Q t) (take (max a b) text)
    go (inl l) = let e : b ≡ max a b = omega (arith, l) in (q.begins.0, inr (subst (λ (k : ℕ). Q (take k text ++ q.begins.0)) e q.begins.1))
    go (inr l) = let e : a ≡ max a b = omega (arith, l) in (p.begins.0, inl (subst (λ (k : ℕ). P (take k text ++ p.begins.0)) e p.begins.1))

    none : (k : ℕ) → max a b < k → k ≤ length text → (rest : List ℕ)
        → P (take k text ++ rest) ⊎ Q (take k text ++ rest) → ⊥
    none k below inside rest (inl h) = p.longest k (omega (arith, below)) inside (rest, h)
    none k below inside rest (inr h) = q.longest k (omega (arith, below)) inside (rest, h)

-- a reading by parts
pub read_by_parts : (parts : List Part) (text : List ℕ) (r : Result ℕ BadAddress)
    → IfOk r (λ v. (n : ℕ) → Spells parts 0 text n ↔ (n ≡ v))
    → OnErr r (IsTextOf parts text → ⊥) → IfErr r (λ e. IsLongestStart (IsTextOf parts) text e.at)
    → IsRead (Spells parts 0) text r
read_by_parts parts text (Ok v) ok none at = (ok v).1 refl
read_by_parts parts text (Err e) ok none at = (λ n s. none (n, s), at)

-- a reading by one grammar is one by another with the same texts
pub read_along : (P Q : List ℕ → ℕ → Type 0) (text : List ℕ) (r : Result ℕ BadAddress)
    → ((t : List ℕ) (n : ℕ) → P t n → Q t n) → ((t : List ℕ) (n : ℕ) → Q t n → P t n)
    → IsRead P text r → IsRead Q text r
read_along P Q text (Ok v) to from p = to text v p
read_along P Q text (Err e) to from p = (
  λ n q. p.0 n (from text n q),
  starts_along (λ t. (n : ℕ) × P t n) (λ t. (n : ℕ) × Q t n) text e.at (λ t w. (w.0, to t w.0 w.1)) (λ t w. (w.0, from t w.0 w.1)) p.1,
)

-- the better of two readings is one by either grammar
pub read_by_either : (P Q : List ℕ → ℕ → Type 0) (text : List ℕ) (a b : Result ℕ BadAddress) → IsRead P text a
    → IsRead Q text b → IsRead (λ t n. P t n ⊎ Q t n) text (better_of a b)
read_by_either P Q text (Ok v) b p q = inl p
read_by_either P Q text (Err x) (Ok v) p q = inr q
read_by_either P Q text (Err x) (Err y) p q = (
  λ n s. none n s,
  starts_along (λ t. ((n : ℕ) × P t n) ⊎ ((n : ℕ) × Q t n)) (λ t. (n : ℕ) × (P t n ⊎ Q t n)) text (max x.at y.at) (λ t w. to t w) (λ t w. from t w)
      (longer_start (λ t. (n : ℕ) × P t n) (λ t. (n : ℕ) × Q t n) text x.at y.at p.1 q.1),
)
  where
    none : (n : ℕ) → P text n ⊎ Q text n → ⊥
    none n (inl s) = p.0 n s
    none n (inr s) = q.0 n s

    to : (t : List ℕ) → ((n : ℕ) × P t n) ⊎ ((n : ℕ) × Q t n) → (n : ℕ) × (P t n ⊎ Q t n)
    to t (inl w) = (w.0, inl w.1)
    to t (inr w) = (w.0, inr w.1)

    from : (t : List ℕ) → (n : ℕ) × (P t n ⊎ Q t n) → ((n : ℕ) × P t n) ⊎ ((n : ℕ) × Q t n)
    from t (n, inl s) = inl (n, s)
    from t (n, inr s) = inr (n, s)

-- grammars in a row, of which G has the texts of all
pub none_yet : (P : ℕ → List ℕ → ℕ → Type 0) (G : List ℕ → Type 0) (text t : List ℕ) → G t → NoneSoFar P G 0 text 0
none_yet P G text t g = record {
  within = omega arith;
  begins = (t, g);
  none = λ i l. absurd (omega (arith, l));
  longest = λ i l. absurd (omega (arith, l));
}

pub one_more : (P : ℕ → List ℕ → ℕ → Type 0) (G : List ℕ → Type 0) (i : ℕ) (text : List ℕ) (at : ℕ) (r : Result ℕ BadAddress) (e : BadAddress) → r ≡ Err e
    → ((t : List ℕ) (n : ℕ) → P i t n → G t) → NoneSoFar P G i text at → IsRead (P i) text r
    → NoneSoFar P G (i + 1) text (max at e.at)
one_more P G i text at r e same into s read = record {
  within = omega (arith, s.within, q.1.within);
  begins = go (cases_lt at e.at);
  none = λ j l. none j (cases_lt j i) l;
  longest = λ j l. longest j (cases_lt j i) l;
}
  where
    q : IsRead (P i) text (Err e)
    q = subst (λ (x : Result ℕ BadAddress). IsRead (P i) text x) same read

    go : (at < e.at) ⊎ (e.at ≤ at) → Begins G (take (max at e.at) text)
    go (inl l) = let m : e.at ≡ max at e.at = omega (arith, l) in let b = q.1.begins in subst (λ (k : ℕ). Begins G (take k text)) m (b.0, into _ b.1.0 b.1.1)
    go (inr l) = let m : at ≡ max at e.at = omega (arith, l) in subst (λ (k : ℕ). Begins G (take k text)) m s.begins

    none : (j : ℕ) → (j < i) ⊎ (i ≤ j) → j < i + 1 → (n : ℕ) → P j text n → ⊥
    none j (inl l) m = s.none j l
    none j (inr l) m = let same : i ≡ j = omega (arith, l, m) in subst (λ (k : ℕ). (n : ℕ) → P k text n → ⊥) same q.0

    longest : (j : ℕ) → (j < i) ⊎ (i ≤ j) → j < i + 1 → (k : ℕ) → max at e.at < k → k ≤ length text
        → Begins (λ t. (n : ℕ) × P j t n) (take k text) → ⊥
    longest j (inl l) m k below inside b = s.longest j l k (omega (arith, below)) inside b
    longest j (inr l) m k below inside b =
        let same : j ≡ i = omega (arith, l, m) in
        q.1.longest k (omega (arith, below)) inside (subst (λ (h : ℕ). Begins (λ t. (n : ℕ) × P h t n) (take k text)) same b)

pub none_at_all : (P : ℕ → List ℕ → ℕ → Type 0) (Q : List ℕ → ℕ → Type 0) (count : ℕ) (text : List ℕ) (e : BadAddress)
    → ((t : List ℕ) (n : ℕ) → Q t n → (i : ℕ) × (i < count) × P i t n)
    → NoneSoFar P (λ t. (n : ℕ) × Q t n) count text e.at → IsRead Q text (Err e)
none_at_all P Q count text e out s = (
  λ n q. let w = out text n q in s.none w.0 w.1 n w.2,
  record {
    within = s.within;
    begins = s.begins;
    longest = λ k below inside b. let w = out (take k text ++ b.0) b.1.0 b.1.1 in s.longest w.0 w.1 k below inside (b.0, (b.1.0, w.2));
  },
)
