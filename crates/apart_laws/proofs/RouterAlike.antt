-- What is found alike in two states, and what is asked only for the own project.
use Rattle.std.proofs.Common.{◌≡◌, Bool, true, false, Option, Some, None, refl, sym}
use Rattle.std.specs.Prelude.{is_some, option_map, if◌then◌else◌}
use Rattle.call_parts.specs.BodyNames.{unless_found}
use Rattle.api_types.specs.Ident.{Ident}
use Rattle.api_types.specs.declared.kind.Kind.{Kind}
use Rattle.api_types.proofs.ListLemmas.{false_true, none_some}

pub some_view : {X V : Type 0} (view : X → V) (o p : Option X) → option_map view o ≡ option_map view p → is_some o ≡ is_some p
some_view view None None h = refl
some_view view None (Some y) h = none_some (view y) _ h
some_view view (Some x) None h = none_some (view x) _ (sym h)
some_view view (Some x) (Some y) h = refl

pub unless_found_alike : {R : Type 0} (kind : Kind) (name : Option Ident) (o p : Option R) → is_some o ≡ is_some p → unless_found kind name o ≡ unless_found kind name p
unless_found_alike kind None o p h = refl
unless_found_alike kind (Some i) None None h = refl
unless_found_alike kind (Some i) (Some x) (Some y) h = refl
unless_found_alike kind (Some i) None (Some y) h = false_true _ h
unless_found_alike kind (Some i) (Some x) None h = false_true _ (sym h)

-- what is asked only for the caller's own project
pub if_own : {X : Type 0} (b : Bool) (x y : Option X) → (b ≡ false → x ≡ y) → (if b then None else x) ≡ (if b then None else y)
if_own true x y h = refl
if_own false x y h = h refl
