-- What is shown of all members, to whom nothing is withheld.
use Rattle.std.proofs.Common.{◌≡◌, ◌∙◌, ◌∷◌, List, [], Bool, true, cond, ap, length, refl, sym}
use Rattle.std.specs.Prelude.{◌&&◌, ◌||◌, ◌==◌}
use Rattle.std.specs.List.{filter, list_any}
use Rattle.std.specs.Str.{bytes_eq}
use Rattle.net_addr.specs.Words.{Text}
use Rattle.api_types.specs.Printed.{NamedTree}
use Rattle.api_policy.specs.Shown.{is_told, shown_members}

filters_none : {X : Type 0} (test : X → Bool) (xs : List X) → ((x : X) → test x ≡ true) → xs ≡ filter test xs
filters_none test [] passes = refl
filters_none test (x ∷ xs) passes =
    ap (λ rest. x ∷ rest) (filters_none test xs passes) ∙ (λ j. cond (sym (passes x) j) (x ∷ filter test xs) (filter test xs))

-- an administrator that names no fields is shown all members
pub all_shown : (admin : Bool) (fields : List Text) (members : List NamedTree) → admin ≡ true → length fields ≡ 0 → members ≡ shown_members admin fields members
all_shown admin fields members told unnamed =
    filters_none _ members (λ m j. is_told (told j) m.0 && ((unnamed j == 0) || list_any (bytes_eq m.0) fields))
