-- Parts of the bytes.
use Rattle.std.proofs.Common.{◌≡◌, ℕ, ◌+◌, ◌-◌, ◌≤◌, ◌<◌, ◌⊎◌, inl, inr, List, length, take, drop, sym, ap, ap₂, ◌∙◌, arith, min, slice_range}
use Rattle.std.proofs.lemmas.List.{take-take, drop-take, drop-drop, drop_all, length-take, length-drop}
use Rattle.std.specs.Prelude.{Option, Some, None}
use Rattle.http_heads.specs.declared.head.Part.{Part}
use Rattle.http_heads.specs.Parts.{IsPartOf, IsPartOfOption}

pub length_part : (b : List ℕ) (s e : ℕ) → s ≤ e → e ≤ length b → length (slice_range b s e) ≡ e - s
length_part b s e le fits = simp (length-take, length-drop) (omega arith)

-- the front of a part
pub front_part : (b : List ℕ) (s e q : ℕ) → q ≤ e - s → slice_range b s (s + q) ≡ take q (slice_range b s e)
front_part b s e q le =
    let n : s + q - s ≡ q = omega arith in
    ap (λ k. take k (drop s b)) n ∙ sym (take-take q (e - s) (drop s b) le)

-- what is behind one byte of a part
pub back_part : (b : List ℕ) (s e q m : ℕ) → s ≤ e → e ≤ length b → m ≡ min (s + q + 1) e → slice_range b m e ≡ drop (q + 1) (slice_range b s e)
back_part b s e q m le fits is = elim (cases (s + q + 1) e) [
  | inl low ↦
      let size : e - s ≡ (q + 1) + (e - (s + q + 1)) = omega arith in
      let start : m ≡ s + (q + 1) = omega (arith, is, low) in
      let left : e - m ≡ e - (s + q + 1) = omega (arith, start) in
      ap₂ (λ k d. take k (drop d b)) left start
      ∙ sym (ap (λ k. drop (q + 1) (take k (drop s b))) size ∙ drop-take (q + 1) (e - (s + q + 1)) (drop s b) ∙ ap (take (e - (s + q + 1))) (drop-drop (q + 1) s b))
  | inr high ↦
      let start : m ≡ e = omega (arith, is, high) in
      let none : e - m ≡ 0 = omega (arith, start) in
      ap (λ k. take k (drop m b)) none ∙ sym (drop_all (q + 1) (slice_range b s e) (omega (arith, length_part b s e le fits, high)))
]
  where
    cases : (m n : ℕ) → (m ≤ n) ⊎ (n < m)
    cases m n = grind arith

-- a part of the first n bytes is one of all
pub part_of_all : (b : List ℕ) (n : ℕ) (part : Part) (text : List ℕ) → n ≤ length b → IsPartOf (take n b) part text → IsPartOf b part text
part_of_all b n part text fits p =
    let size : length (take n b) ≡ min n (length b) = length-take n b in
    let within : part.end ≤ n = omega (arith, p.within, size) in record {
      ordered = p.ordered;
      within = omega (arith, within, fits);
      covers = sym (inner (part.start) part.end p.ordered within) ∙ p.covers;
    }
  where
    inner : (s e : ℕ) → s ≤ e → e ≤ n → slice_range (take n b) s e ≡ slice_range b s e
    inner s e le within =
        let size : n ≡ s + (n - s) = omega arith in
        ap (take (e - s)) (ap (λ k. drop s (take k b)) size ∙ drop-take s (n - s) b) ∙ take-take (e - s) (n - s) (drop s b) (omega arith)

pub option_of_all : (b : List ℕ) (n : ℕ) (part : Option Part) (text : Option (List ℕ)) → n ≤ length b → IsPartOfOption (take n b) part text → IsPartOfOption b part text
option_of_all b n None None fits p = tt
option_of_all b n None (Some text) fits p = p
option_of_all b n (Some part) None fits p = p
option_of_all b n (Some part) (Some text) fits p = part_of_all b n part text fits p
