use Rattle.std.proofs.Common.{◌≡◌, map, take}
use Rattle.api_consistency.specs.Keys.{of_name}
use Rattle.api_consistency.proofs.numbered.names_of.Given as goal

-- those of the projects so far
abbrev pub invariant-loop-project : goal.invariant-loop-project
invariant-loop-project l = l.names.items ≡ map of_name (take l.project-index l.projects)
