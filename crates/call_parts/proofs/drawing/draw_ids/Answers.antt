use Rattle.std.proofs.Common.{◌≡◌, ℕ, ◌+◌, List, Some, get_or, slice_get, sym, ap, ◌∙◌, arith}
use Rattle.std.specs.Prelude.{position}
use Rattle.api_types.specs.Registration.{is_named}
use Rattle.api_types.specs.declared.project.ProjectRow.{ProjectRow}
use Rattle.call_parts.proofs.DrawLemmas.{draws_known}
use Rattle.call_parts.proofs.EditLaws.{at_place}
use Rattle.call_parts.proofs.drawing.draw_ids.Goals as goal

-- the project that was found stands at its place
found : (projects all : List ProjectRow) (name : List ℕ) (place : ℕ) (shared p : ProjectRow) → projects ≡ all → Some place ≡ position (is_named name) projects
    → shared ≡ get_or projects place shared → p ≡ shared → (position (is_named name) all ≡ Some place) × (slice_get all place ≡ Some p)
found projects all name place shared p same named at is =
    let here = at_place (is_named name) projects place shared (sym named) at in
    (ap (position (is_named name)) (sym same) ∙ sym named, ap (λ ps. slice_get ps place) (sym same) ∙ here.0 ∙ ap Some (sym is))

pub returns-clause-drawn : goal.returns-clause-drawn
returns-clause-drawn c =
    let rows = c.args.rows.now in
    let p = c.get-project.result.now in
    let f = found _ rows.projects c.args.name.now c.in-Some.place c.index-projects-place.result p (c.rows-projects.ensures.rows ∙ c.projects.ensures) c.in-Some.ensures c.index-projects-place.is c.get-project.ensures in
    draws_known rows c.args.name.now c.args.many c.in-Some.place p f.0 f.1 c.requires.consistent (omega (arith, c.if-project-many.false))
    ∙ ap (λ r. Some (record { rows = r; ordinal = p.ordinal; first = p.count + 1 })) (sym c.in_ok-raise.ensures.rows)
