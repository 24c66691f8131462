use Rattle.std.proofs.Common.{◌≡◌, drop}
use Rattle.api_check.specs.Broken.{first_place}
use Rattle.api_clauses.specs.Numbers.{project_numbered}
use Rattle.api_check.proofs.numbered.first_misnumbered.Given as goal

-- the search goes on as it began
abbrev pub invariant-loop-place : goal.invariant-loop-place
invariant-loop-place l = first_place (project_numbered l.projects) l.place (drop l.place l.projects) ≡ first_place (project_numbered l.projects) 0 l.projects
