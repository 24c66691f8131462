-- Pieces of bytes.
use Rattle.std.proofs.Common.{[], ◌≡◌, ℕ, ◌+◌, ◌≤◌, List, ◌++◌, length, take, drop, sym, ap₂, ◌∙◌}
use Rattle.std.proofs.Math.ListN.{drop_of_length-le}
use Rattle.std.proofs.lemmas.List.{take-append-le, take-append-drop, drop-drop}

-- what was copied and what is left are what was left
pub read_on : (bytes copied rest : List ℕ) (at n : ℕ) → n ≤ length copied → take n copied ≡ take n (drop at bytes) → drop at bytes ≡ take n (copied ++ rest) ++ drop (at + n) bytes
read_on bytes copied rest at n fits same =
    sym (take-append-drop n (drop at bytes)) ∙ ap₂ (λ a b. a ++ b) (sym same ∙ sym (take-append-le n copied rest fits)) (drop-drop n at bytes)

-- nothing is left
pub none_left : (bytes : List ℕ) (at n : ℕ) → length (drop at bytes) ≤ n → drop (at + n) bytes ≡ []
none_left bytes at n h = sym (drop-drop n at bytes) ∙ drop_of_length-le (drop at bytes) h
