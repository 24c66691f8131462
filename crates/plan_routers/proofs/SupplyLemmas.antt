-- What a gateway that is set needs, and then ids.
use Rattle.std.proofs.Common.{◌≡◌, ℕ, List, [], ◌∷◌, Option, Some, None}
use Rattle.std.specs.Prelude.{is_none}
use Rattle.api_types.specs.Ident.{Ident}
use Rattle.api_types.specs.Outcome.{Outcome, Refused}
use Rattle.api_types.specs.Refusing.{first_refusal, needing, when}
use Rattle.api_types.specs.Registration.{Drawing}
use Rattle.api_types.specs.declared.port.Fixed.{Fixed}
use Rattle.api_types.specs.declared.refusal.Refusal.TheVariants.{CountersSpent, PoolsSpent}
use Rattle.api_types.specs.declared.refusal.Refusal.{Refusal}

abbrev pub supplied : Ident → Option (List Fixed) → Option ℕ → Option Drawing → (List Fixed → ℕ → Drawing → Outcome) → Outcome
supplied network fixed mac drawing rest = needing (PoolsSpent network) fixed (λ f. needing CountersSpent mac (λ m. needing CountersSpent drawing (rest f m)))

pub unsupplied : (network : Ident) (fixed : Option (List Fixed)) (mac : Option ℕ) (drawing : Option Drawing) (rest : List Fixed → ℕ → Drawing → Outcome) (e : Refusal)
    → first_refusal (when (is_none fixed) (PoolsSpent network) ∷ when (is_none mac) CountersSpent ∷ []) ≡ Some e → supplied network fixed mac drawing rest ≡ Refused e
unsupplied network None mac drawing rest e h = cc
unsupplied network (Some f) None drawing rest e h = cc
unsupplied network (Some f) (Some m) drawing rest e h = cc

module _ (network : Ident) (fixed : Option (List Fixed)) (mac : Option ℕ) (drawing : Option Drawing) (rest : List Fixed → ℕ → Drawing → Outcome) (f : List Fixed) (m : ℕ)
    (is_f : fixed ≡ Some f) (is_m : mac ≡ Some m) where
  pub undrawn : drawing ≡ None → supplied network fixed mac drawing rest ≡ Refused CountersSpent
  undrawn none = λ j. supplied network (is_f j) (is_m j) (none j) rest

  pub all_there : (d : Drawing) → drawing ≡ Some d → supplied network fixed mac drawing rest ≡ rest f m d
  all_there d is_d = λ j. supplied network (is_f j) (is_m j) (is_d j) rest
