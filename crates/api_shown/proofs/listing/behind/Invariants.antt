use Rattle.std.proofs.Common.{◌≡◌, drop}
use Rattle.api_policy.specs.Listed.{behind as rows_behind}
use Rattle.api_shown.proofs.listing.behind.Given as goal

-- the row isn't among those so far
abbrev pub invariant-loop-place : goal.invariant-loop-place
invariant-loop-place g l =
    rows_behind g.R.Keyed.id_of l.id (drop l.place l.candidates) ≡ rows_behind g.R.Keyed.id_of l.id l.fn.candidates
