use Rattle.std.proofs.Common.{drop}
use Rattle.api_types.specs.Lists.{Each}
use Rattle.api_shown.specs.Keys.{FitsId}
use Rattle.api_shown.proofs.listing.see_ids.Given as goal

-- where the ids of the rows that are left fit, those of all do
abbrev pub invariant-loop-row : goal.invariant-loop-row
invariant-loop-row g l = Each (λ r. FitsId (g.R.Keyed.id_of r)) (drop l.row-index l.rows) → Each (λ r. FitsId (g.R.Keyed.id_of r)) l.fn.rows
