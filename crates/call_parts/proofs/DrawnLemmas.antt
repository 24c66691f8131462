-- Ids are drawn only where the version can rise.
use Rattle.std.proofs.Common.{◌≡◌, ℕ, Bool, true, false, List, Option, Some, None, Result, Ok, Err}
use Rattle.std.specs.Prelude.{IfOk, if◌then◌else◌}
use Rattle.api_types.specs.Registration.{Drawing, draw_of}
use Rattle.api_types.specs.declared.refusal.Refusal.{Refusal}
use Rattle.api_types.proofs.ListLemmas.{none_some}
use Rattle.call_parts.specs.Answers.{drawing_of}
use Rattle.call_parts.specs.State.{State, drawing_at, is_last}
use Rattle.call_parts.specs.declared.drawing.Drawn.{Drawn}

pub drawn_is : (state : State) (project : List ℕ) (many : ℕ) (d : Drawing) → drawing_at state project many ≡ Some d → draw_of state.rows project many ≡ Some d
drawn_is state project many d h = by (is_last state) h
  where
    by : (b : Bool) → (if b then None else draw_of state.rows project many) ≡ Some d → draw_of state.rows project many ≡ Some d
    by true h = none_some d _ h
    by false h = h

-- what holds of each drawing holds of the one that was made
pub if_drawn : (state : State) (project : List ℕ) (many : ℕ) (P : Drawing → Type 0) → ((d : Drawing) → draw_of state.rows project many ≡ Some d → P d) → (r : Result Drawn Refusal)
    → IfOk r (λ d. drawing_at state project many ≡ Some (drawing_of d)) → IfOk r (λ d. P (drawing_of d))
if_drawn state project many P holds (Ok d) h = holds (drawing_of d) (drawn_is state project many (drawing_of d) h)
if_drawn state project many P holds (Err e) h = h
