-- Lists that grow by one item after the other.
use Rattle.std.proofs.Common.{◌≡◌, List, [], ◌∷◌, ◌++◌, ap, ◌∙◌}

pub grown : {X : Type 0} (x : X) (l more xs : List X) → l ≡ xs → more ≡ l ++ x ∷ [] → more ≡ xs ++ x ∷ []
grown x l more xs was is = is ∙ ap (λ k. k ++ x ∷ []) was
