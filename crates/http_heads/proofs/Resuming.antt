-- Bytes of which a front decides nothing.
use Rattle.std.proofs.Common.{[], ◌≡◌, ◌≢◌, ℕ, zero, suc, ◌+◌, ◌≤◌, ◌<◌, ◌⊎◌, inl, inr, List, ◌++◌, length, drop, take, sym, subst, arith, slice_index_or}
use Rattle.std.proofs.lemmas.List.{take-append-drop, take-take, take_all, length-take}
use Rattle.http_heads.specs.Lines.{line_feeds, behind_blank}
use Rattle.http_heads.specs.Heads.{IsOpen, IsJudged, IsUndecided}
use Rattle.http_heads.proofs.Extends.{IsJudged-front}
use Rattle.http_heads.proofs.Unique.{undecided_short}
use Rattle.http_heads.proofs.Prefixes.{judged_here, few_same}

-- no bytes decide nothing
pub none_undecided : IsUndecided []
none_undecided k j = absurd (elim j.ends [ inl e ↦ omega (arith, e, j.fits) | inr e ↦ omega (arith, e.1, j.fits) ])

-- where the first bytes decide nothing, a prefix of them that is judged is open
pub opens_front : (b : List ℕ) (from : ℕ) → IsUndecided (take from b) → (k : ℕ) → k ≤ from → IsJudged b k → IsOpen (take k b)
opens_front b from u k le j =
    let parts : b ≡ take from b ++ drop from b = sym (take-append-drop from b) in
    let size : k ≤ length (take from b) = omega (arith, length-take from b, j.fits, le) in
    subst IsOpen (take-take k from b le) (u k (IsJudged-front (take from b) (drop from b) k size (subst (λ l. IsJudged l k) parts j)))

-- they have few lines
few_next_to : (p : List ℕ) → IsUndecided p → (n : ℕ) → n < length p → line_feeds (behind_blank (take n p)) ≤ 65 → line_feeds (behind_blank (take (n + 1) p)) ≤ 65
few_next_to p u n lt few = elim (cases (slice_index_or p n 0)) [
  | inl feed ↦ at_most (line_feeds (behind_blank (take (n + 1) p))) (λ more. (u (n + 1) (judged_here p n lt short (inr feed))).small (inr more))
  | inr other ↦ few_same p n lt short few other
]
  where
    short : n < 16384
    short = omega (arith, undecided_short p u, lt)

    at_most : (m : ℕ) → (65 < m → ⊥) → m ≤ 65
    at_most m h = omega (arith, h)

    cases : (x : ℕ) → (x ≡ 10) ⊎ (x ≢ 10)
    cases x = grind arith

few_to : (p : List ℕ) → IsUndecided p → (n : ℕ) → n ≤ length p → line_feeds (behind_blank (take n p)) ≤ 65
few_to p u zero le = omega arith
few_to p u (suc n) le =
    let e : suc n ≡ n + 1 = omega arith in
    subst (λ m. line_feeds (behind_blank (take m p)) ≤ 65) (sym e) (few_next_to p u n (omega (arith, le)) (few_to p u n (omega (arith, le))))

pub few_front : (b : List ℕ) (from : ℕ) → IsUndecided (take from b) → line_feeds (behind_blank (take from b)) ≤ 65
few_front b from u =
    let p = take from b in
    subst (λ l. line_feeds (behind_blank l) ≤ 65) (take_all_of p) (few_to p u (length p) (omega arith))
  where
    take_all_of : (l : List ℕ) → take (length l) l ≡ l
    take_all_of l = take_all (length l) l (omega arith)
