-- Refusals in order, in parts.
use Rattle.std.proofs.Common.{◌≡◌, ◌∙◌, Bool, List, [], ◌∷◌, Option, Some, None, ap, inl, inr, not, refl, sym}
use Rattle.std.specs.Prelude.{find, option_map}
use Rattle.api_types.specs.Ident.{Ident, ident_text}
use Rattle.api_types.specs.Refusing.{first_refusal, not_found}
use Rattle.api_types.specs.declared.kind.Kind.{Kind}
use Rattle.api_types.specs.declared.refusal.Refusal.{Refusal}
use Rattle.call_parts.specs.Answers.{IsOrMemory, IsRefusalIn}
use Rattle.call_parts.specs.BodyNames.{unless_all}

-- four of six, and then the two others
pub six_parted : (a b c d e f : Option Refusal) → first_refusal (first_refusal (a ∷ b ∷ c ∷ d ∷ []) ∷ e ∷ f ∷ []) ≡ first_refusal (a ∷ b ∷ c ∷ d ∷ e ∷ f ∷ [])
six_parted (Some r) b c d e f = refl
six_parted None (Some r) c d e f = refl
six_parted None None (Some r) d e f = refl
six_parted None None None (Some r) e f = refl
six_parted None None None None e f = refl

-- four of nine, then four others, and then the last
pub nine_parted : (a b c d e f g h i : Option Refusal)
    → first_refusal (first_refusal (a ∷ b ∷ c ∷ d ∷ []) ∷ first_refusal (e ∷ f ∷ g ∷ h ∷ []) ∷ i ∷ []) ≡ first_refusal (a ∷ b ∷ c ∷ d ∷ e ∷ f ∷ g ∷ h ∷ i ∷ [])
nine_parted (Some r) b c d e f g h i = refl
nine_parted None (Some r) c d e f g h i = refl
nine_parted None None (Some r) d e f g h i = refl
nine_parted None None None (Some r) e f g h i = refl
nine_parted None None None None (Some r) f g h i = refl
nine_parted None None None None None (Some r) g h i = refl
nine_parted None None None None None None (Some r) h i = refl
nine_parted None None None None None None None (Some r) i = refl
nine_parted None None None None None None None None i = refl

-- the first named row that fails the test
pub first_failing : (kind : Kind) (found : Ident → Bool) (names : List Ident) (i : Ident) (e : Refusal) → find (λ n. not (found n)) names ≡ Some i → IsOrMemory (not_found kind (ident_text i)) e
    → IsRefusalIn (unless_all kind found names) e
first_failing kind found names i e at (inl memory) = inl memory
first_failing kind found names i e at (inr is) = inr (ap (option_map (λ n. not_found kind (ident_text n))) at ∙ ap Some (sym is))
