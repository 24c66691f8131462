-- Prefixes of a buffer.
use Rattle.std.proofs.Common.{[], ◌≡◌, ◌≢◌, ℕ, ◌+◌, ◌≤◌, ◌<◌, ◌⊎◌, ◌==◌, inl, inr, Bool, true, false, List, ◌∷◌, ◌++◌, length, drop, take, refl, sym, ap, subst, ◌∙◌, arith, slice_index_or}
use Rattle.std.proofs.lemmas.List.{take-append-le, take_more, take-append-drop, length-take-le}
use Rattle.http_heads.specs.Lines.{chosen, lf_one, line_feeds, behind_blank}
use Rattle.http_heads.specs.Heads.{IsOpen, IsJudged, Judgement, Judges, Decides}
use Rattle.http_heads.proofs.Extends.{IsJudged-append}
use Rattle.http_heads.specs.Read.{EndsLine, IsJudgedAs, IsJudgedAt}
use Rattle.http_heads.specs.declared.judging.Judged.{Judged}
use Rattle.http_heads.specs.declared.judging.Judged.TheVariants.{Open, Wrong, Large, Whole}
use Rattle.http_heads.proofs.LineFeeds.{lf-other}
use Rattle.http_heads.proofs.Blanks.{behind_more}

module _ (b : List ℕ) (at : ℕ) (within : at < length b) (short : at < 16384) where
  pub judged_here : (at + 1 ≡ 16384) ⊎ (slice_index_or b at 0 ≡ 10) → IsJudged b (at + 1)
  judged_here h = record { fits = omega (arith, within); short = omega (arith, short); ends = elim h [ inl e ↦ inl e | inr e ↦ inr (at, refl, e) ] }

  pub judged_only : IsJudged b (at + 1) → (at + 1 ≡ 16384) ⊎ (slice_index_or b at 0 ≡ 10)
  judged_only j = elim j.ends [ inl e ↦ inl e | inr e ↦ inr (let same : at ≡ e.0 = omega (arith, e.1) in ap (λ k. slice_index_or b k 0) same ∙ e.2) ]

  pub ends_so : (at + 1 ≡ 16384) ⊎ (slice_index_or b at 0 ≡ 10) → (length (take (at + 1) b) ≡ 16384) ⊎ EndsLine (take (at + 1) b)
  ends_so h = elim h [ inl e ↦ inl (length-take-le (at + 1) b (omega (arith, within)) ∙ e) | inr e ↦ inr (take at b, take_more b at 0 within ∙ ap (λ x. take at b ++ x ∷ []) e) ]

  pub few_more : line_feeds (behind_blank (take at b)) ≤ 65 → line_feeds (behind_blank (take (at + 1) b)) ≤ 65 + lf_one (slice_index_or b at 0)
  few_more few = subst (λ l. line_feeds (behind_blank l) ≤ 65 + lf_one (slice_index_or b at 0)) (sym (take_more b at 0 within)) (omega (arith, behind_more (take at b) (slice_index_or b at 0), few))

  lf_most : (x : ℕ) → lf_one x ≤ 1
  lf_most x = by (x == 10)
    where
      by : (t : Bool) → chosen t ≤ 1
      by true = omega arith
      by false = omega arith

  pub few_next : line_feeds (behind_blank (take at b)) ≤ 65 → line_feeds (behind_blank (take (at + 1) b)) ≤ 66
  few_next few = omega (arith, few_more few, lf_most (slice_index_or b at 0))

  pub few_same : line_feeds (behind_blank (take at b)) ≤ 65 → slice_index_or b at 0 ≢ 10 → line_feeds (behind_blank (take (at + 1) b)) ≤ 65
  few_same few other = omega (arith, few_more few, lf-other (slice_index_or b at 0) other)

  pub first_so : ((k : ℕ) → k ≤ at → IsJudged b k → IsOpen (take k b)) → (k : ℕ) → k < length (take (at + 1) b) → IsJudged (take (at + 1) b) k → IsOpen (take k (take (at + 1) b))
  first_so opens k lt j =
      let size : length (take (at + 1) b) ≡ at + 1 = length-take-le (at + 1) b (omega (arith, within)) in
      let parts : take (at + 1) b ++ drop (at + 1) b ≡ b = take-append-drop (at + 1) b in
      let same : take k b ≡ take k (take (at + 1) b) = ap (take k) (sym parts) ∙ take-append-le k (take (at + 1) b) (drop (at + 1) b) (omega (arith, lt)) in
      subst IsOpen same (opens k (omega (arith, lt, size)) (subst (λ l. IsJudged l k) parts (IsJudged-append (take (at + 1) b) (drop (at + 1) b) k j)))

  pub decides_so : (j : Judgement) → ((k : ℕ) → k ≤ at → IsJudged b k → IsOpen (take k b)) → IsJudged b (at + 1) → Judges (take (at + 1) b) j → Decides b j
  decides_so j opens judged says = record { at = at + 1; judged = judged; says = says; first = λ k lt here. opens k (omega (arith, lt)) here }

  pub opens_more : ((k : ℕ) → k ≤ at → IsJudged b k → IsOpen (take k b)) → (IsJudged b (at + 1) → IsOpen (take (at + 1) b)) → (k : ℕ) → k ≤ at + 1 → IsJudged b k → IsOpen (take k b)
  opens_more opens here k le j = elim (split k le) [ inl below ↦ opens k below j | inr same ↦ subst (λ n. IsOpen (take n b)) (sym same) (here (subst (IsJudged b) same j)) ]
    where
      split : (k : ℕ) → k ≤ at + 1 → (k ≤ at) ⊎ (k ≡ at + 1)
      split k le = grind arith

  -- a judged prefix that is judged so
  pub judged_as : (fields : _) (r : Judged) → IsJudged b (at + 1) → IsJudgedAs (take (at + 1) b) fields r → IsJudgedAt b (at + 1) fields r
  judged_as fields Open j is = (λ _. is, at_most (line_feeds (behind_blank (take (at + 1) b))) (λ lt. is.small (inr lt)))
    where
      at_most : (n : ℕ) → (65 < n → ⊥) → n ≤ 65
      at_most n h = omega (arith, h)
  judged_as fields Wrong j is = (j, is)
  judged_as fields Large j is = (j, is)
  judged_as fields (Whole spans) j is = (j, is)
