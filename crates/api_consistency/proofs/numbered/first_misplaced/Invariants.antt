use Rattle.std.proofs.Common.{◌≡◌, drop}
use Rattle.api_check.specs.Broken.{first_place}
use Rattle.api_consistency.specs.Keys.{is_in_place}
use Rattle.api_consistency.proofs.numbered.first_misplaced.Given as goal

-- the search goes on as it began
abbrev pub invariant-loop-place : goal.invariant-loop-place
invariant-loop-place l = first_place is_in_place l.place (drop l.place l.projects) ≡ first_place is_in_place 0 l.projects
