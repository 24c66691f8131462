-- Empty lines at the front of bytes.
use Rattle.std.proofs.Common.{[], ◌≡◌, ℕ, ◌+◌, ◌≤◌, List, ◌++◌, length, drop, take, refl, sym, ap, ◌∙◌, arith, min, length-drop, length-append}
use Rattle.std.proofs.lemmas.List.{take-append-drop, take-append-le, take-take, length-take}
use Rattle.std.proofs.Math.Seq.{take-add}
use Rattle.http_heads.specs.Lines.{behind_blank, AreEmptyLines}
use Rattle.http_heads.specs.Heads.{IsUndecided}
use Rattle.http_heads.proofs.Blanks.{behind_past, behind_shorter, blank_front}
use Rattle.http_heads.proofs.JudgeLemmas.{first_line_open}

-- the rest behind empty lines
pub rest_is : (bytes : List ℕ) (at : ℕ) → behind_blank (take at bytes) ≡ []
    → behind_blank (drop at bytes) ≡ behind_blank bytes
rest_is bytes at blank =
    sym (ap behind_blank (sym (take-append-drop at bytes)) ∙ behind_past (take at bytes) (drop at bytes) blank)

-- one more empty line
pub one_more : (bytes : List ℕ) (at count : ℕ) → behind_blank (take at bytes) ≡ []
    → behind_blank (take count (drop at bytes)) ≡ [] → behind_blank (take (at + count) bytes) ≡ []
one_more bytes at count blank more =
    ap behind_blank (take-add at count bytes)
    ∙ behind_past (take at bytes) (take count (drop at bytes)) blank ∙ more

-- no longer front is empty lines alone
pub at_most : (bytes : List ℕ) (at n : ℕ) → at ≤ length bytes → drop at bytes ≡ behind_blank bytes
    → n ≤ length bytes → behind_blank (take n bytes) ≡ [] → n ≤ at
at_most bytes at n fits rest le blank =
    omega (arith, fits, le, ap length (rest ∙ sym (rest_is bytes n blank)), behind_shorter (drop n bytes), length-drop at bytes, length-drop n bytes)

-- they decide nothing
pub empty_undecided : (bytes : List ℕ) (n : ℕ) → AreEmptyLines bytes n → IsUndecided (take n bytes)
empty_undecided bytes n empty k j =
    let front = take n bytes in
    let whole : behind_blank (take k front ++ drop k front) ≡ [] = ap behind_blank (take-append-drop k front) ∙ empty.blank in
    first_line_open (take k front) (blank_front (take k front) (drop k front) whole) (omega (arith, length-take k front, length-take n bytes, empty.short))

pub none_empty : (bytes : List ℕ) → AreEmptyLines bytes 0
none_empty bytes = record { fits = omega arith; short = omega arith; blank = refl }

-- they are the same of fewer bytes
pub empty_within : (bytes : List ℕ) (m n : ℕ) → n ≤ m → m ≤ length bytes → AreEmptyLines bytes n → AreEmptyLines (take m bytes) n
empty_within bytes m n le fits empty = record {
  fits = omega (arith, le, fits, length-take m bytes);
  short = empty.short;
  blank = ap behind_blank (take-take n m bytes le) ∙ empty.blank;
}

-- they stay where more bytes come
pub empty_stays : (a b more : List ℕ) (n : ℕ) → b ≡ a ++ more → AreEmptyLines a n → AreEmptyLines b n
empty_stays a b more n grew empty = record {
  fits = omega (arith, ap length grew, length-append a more, empty.fits);
  short = empty.short;
  blank = ap (λ l. behind_blank (take n l)) grew ∙ ap behind_blank (take-append-le n a more empty.fits) ∙ empty.blank;
}

-- the same of the first bytes, as many as empty lines may have
module _ (bytes : List ℕ) (most : ℕ) (is : most ≡ min (length bytes) 16383) where
  pub empty_in : (n : ℕ) → AreEmptyLines bytes n
      → (n ≤ length (take most bytes)) × (behind_blank (take n (take most bytes)) ≡ [])
  empty_in n empty = (
    omega (arith, empty.fits, empty.short, is, length-take most bytes),
    ap behind_blank (take-take n most bytes (omega (arith, empty.fits, empty.short, is))) ∙ empty.blank,
  )

  pub empty_of : (n : ℕ) → n ≤ length (take most bytes) → behind_blank (take n (take most bytes)) ≡ []
      → AreEmptyLines bytes n
  empty_of n fits blank =
      let le : n ≤ most = omega (arith, fits, length-take most bytes) in record {
        fits = omega (arith, le, is);
        short = omega (arith, le, is);
        blank = ap behind_blank (sym (take-take n most bytes le)) ∙ blank;
      }
