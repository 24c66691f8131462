-- The length that the values of `Content-Length` give.
use Rattle.std.proofs.Common.{◌≡◌, ℕ, List, [], ◌∷◌, length, ap, sym, refl, arith}
use Rattle.http_heads.specs.Fields.{length_in, length_told}
use Rattle.agent_links.specs.Wholes.{value_length, within_limit}

-- none, and more than one
pub no_length : (vs : List (List ℕ)) → (length vs ≡ 1 → ⊥) → 0 ≡ within_limit (length_told (length_in vs))
no_length [] h = refl
no_length (v ∷ []) h = absurd (h refl)
no_length (v ∷ (w ∷ vs)) h = refl

-- one
pub one_length : (vs : List (List ℕ)) (v : List ℕ) (rest : List (List ℕ)) → length vs ≡ 1 → vs ≡ v ∷ rest → value_length v ≡ within_limit (length_told (length_in vs))
one_length vs v [] h e = ap (λ l. within_limit (length_told (length_in l))) (sym e)
one_length vs v (w ∷ rest) h e = let two = ap length e in absurd (omega (arith, h, two))

pub none_length : (vs : List (List ℕ)) → vs ≡ [] → 0 ≡ within_limit (length_told (length_in vs))
none_length vs e = ap (λ l. within_limit (length_told (length_in l))) (sym e)
