-- A plan is handled: where it changes nothing, and where its change is kept.
use Rattle.std.proofs.Common.{inl, inr, ◌≡◌, ℕ, List, None, Some, refl, subst, sym}
use Rattle.api_types.specs.Outcome.{Outcome}
use Rattle.api_types.specs.Printed.{reply_of}
use Rattle.api_types.specs.Rows.{after}
use Rattle.api_types.specs.declared.answer.Answer.{Answer}
use Rattle.api_types.specs.declared.change.Item.{Item}
use Rattle.api_machine.specs.Plan.{Leads, PlansAs}
use Rattle.plane_types.specs.declared.ask.Reply.TheVariants.{Done}
use Rattle.world_laws.specs.Steps.{Accept, step}
use Rattle.world_laws.specs.World.{World}
use Rattle.lab_world.specs.World.{ByMachine, IsHandled, MovesBy, state_of}

pub told_handled : (w : World) (outcome : Outcome) (answer : Answer) → PlansAs w.settings (state_of w) outcome None (reply_of answer) → IsHandled (ByMachine outcome) w w (Done answer)
told_handled w outcome answer told = record { tells = inl told; moves = subst (λ (o : Outcome). MovesBy w (ByMachine o) w) (sym told) refl }

pub moved_handled : (w v : World) (outcome : Outcome) (answer : Answer) (change : List Item) → Leads w.settings (state_of w) outcome change (reply_of answer)
    → v ≡ step w (Accept change) → IsHandled (ByMachine outcome) w v (Done answer)
moved_handled w v outcome answer change leads is = record {
  tells = inr (after w.history.rows change, leads.moved);
  moves = subst (λ (o : Outcome). MovesBy w (ByMachine o) v) (sym leads.moved) (record { change = change; fits = leads.fits; leads = refl; is = is });
}
