-- The changes that a world accepts.
use Rattle.std.specs.Prelude.{List, [], ◌∷◌}
use Rattle.api_types.specs.declared.change.Item.{Item}
use Rattle.world_laws.specs.Steps.{Accept, Deliver, Forget, Resync, Restart, Send, Settle, Step}

unfoldable pub changes_in : List Step → List (List Item)
changes_in [] = []
changes_in (Accept c ∷ steps) = c ∷ changes_in steps
changes_in (Deliver name n ∷ steps) = changes_in steps
changes_in (Resync name ∷ steps) = changes_in steps
changes_in (Restart name ∷ steps) = changes_in steps
changes_in (Forget name ∷ steps) = changes_in steps
changes_in (Settle ∷ steps) = changes_in steps
changes_in (Send event ∷ steps) = changes_in steps
