use Rattle.std.proofs.Common.{arith, sym, ap, ◌∙◌}
use Rattle.api_clauses.specs.Numbers.{project_numbered}
use Rattle.api_check.proofs.Places.{place_here}
use Rattle.api_check.proofs.numbered.first_misnumbered.Goals as goal

pub returns-then-not-is_numbered_project : goal.returns-then-not-is_numbered_project
returns-then-not-is_numbered_project c =
    sym (place_here (project_numbered c.args.projects.now) c.args.projects.now c.loop-place.place c.index-projects-place.result (omega arith)
    (sym (ap (project_numbered c.args.projects.now c.loop-place.place) c.index-projects-place.is)
    ∙ (ap (project_numbered c.args.projects.now c.loop-place.place) (sym c.deref.ensures) ∙ (sym c.is_numbered_project.ensures ∙ c.if-not-is_numbered_project.true))))
    ∙ c.loop-place.invariant
