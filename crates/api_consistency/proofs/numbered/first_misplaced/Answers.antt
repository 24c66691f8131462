use Rattle.std.proofs.Common.{arith, sym, ap, ◌∙◌}
use Rattle.api_check.proofs.Places.{place_here}
use Rattle.api_consistency.specs.Keys.{is_in_place}
use Rattle.api_consistency.proofs.numbered.first_misplaced.Goals as goal

pub returns-then-not-is_in_place : goal.returns-then-not-is_in_place
returns-then-not-is_in_place c =
    sym (place_here is_in_place c.args.projects.now c.loop-place.place c.index-projects-place.result (omega arith)
    (sym (ap (is_in_place c.loop-place.place) c.index-projects-place.is)
    ∙ (ap (is_in_place c.loop-place.place) (sym c.deref.ensures) ∙ (sym c.is_in_place.ensures ∙ c.if-not-is_in_place.true))))
    ∙ c.loop-place.invariant
