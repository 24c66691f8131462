-- The one number below a bound that passes a test.
use Rattle.std.proofs.Common.{◌≡◌, ℕ, zero, suc, ◌<◌, Bool, true, false, Option, Some, None, below_more, refl, sym, ap, ◌∙◌, arith}
use Rattle.std.specs.Prelude.{if◌then◌else◌}
use Rattle.json_values.specs.Numbers.{number_with}

passes_by : (test : ℕ → Bool) (k m : ℕ) (b : Bool) (found : Option ℕ) → test k ≡ b → (found ≡ Some m → (m < k) × (test m ≡ true)) → (if b then Some k else found) ≡ Some m
    → (m < suc k) × (test m ≡ true)
passes_by test k m true found is below e = let same : k ≡ m = cc in (omega arith, ap test (sym same) ∙ is)
passes_by test k m false found is below e = let p = below e in (omega (arith, p.0), p.1)

-- what is found passes
pub passes : (test : ℕ → Bool) (bound m : ℕ) → number_with test bound ≡ Some m → (m < bound) × (test m ≡ true)
unfolding number_with
passes test zero m e = absurd cc
passes test (suc k) m e = passes_by test k m (test k) (number_with test k) refl (passes test k m) e

fails_by : (test : ℕ → Bool) (k : ℕ) (b : Bool) (found : Option ℕ) → test k ≡ b → (found ≡ None → (m : ℕ) → m < k → test m ≡ true → ⊥) → (if b then Some k else found) ≡ None
    → (m : ℕ) → m < suc k → test m ≡ true → ⊥
fails_by test k true found is below e m less passed = absurd cc
fails_by test k false found is below e m less passed = below_more (λ n. test n ≡ true → ⊥) k (below e) (λ h. absurd cc) m (omega arith) passed

-- where nothing is found, nothing passes
pub fails : (test : ℕ → Bool) (bound : ℕ) → number_with test bound ≡ None → (m : ℕ) → m < bound → test m ≡ true → ⊥
unfolding number_with
fails test zero e m less passed = omega arith
fails test (suc k) e m less passed = fails_by test k (test k) (number_with test k) refl (fails test k) e m less passed

found_by : (test : ℕ → Bool) (bound n : ℕ) (o : Option ℕ) → number_with test bound ≡ o → n < bound → test n ≡ true → ((m : ℕ) → m < bound → test m ≡ true → m ≡ n) → o ≡ Some n
found_by test bound n None is less passed only = absurd (fails test bound is n less passed)
found_by test bound n (Some m) is less passed only = let p = passes test bound m is in ap Some (only m p.0 p.1)

-- the only one that passes is found
pub found : (test : ℕ → Bool) (bound n : ℕ) → n < bound → test n ≡ true → ((m : ℕ) → m < bound → test m ≡ true → m ≡ n) → number_with test bound ≡ Some n
found test bound n less passed only = found_by test bound n (number_with test bound) refl less passed only

nothing_by : (test : ℕ → Bool) (bound : ℕ) (o : Option ℕ) → number_with test bound ≡ o → ((m : ℕ) → m < bound → test m ≡ true → ⊥) → o ≡ None
nothing_by test bound None is none = refl
nothing_by test bound (Some m) is none = let p = passes test bound m is in absurd (none m p.0 p.1)

-- where none passes, none is found
pub nothing : (test : ℕ → Bool) (bound : ℕ) → ((m : ℕ) → m < bound → test m ≡ true → ⊥) → number_with test bound ≡ None
nothing test bound none = nothing_by test bound (number_with test bound) refl none
