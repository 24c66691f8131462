use Rattle.std.proofs.Common.{◌≡◌, ◌++◌, drop, length, map}
use Rattle.api_types.specs.Printed.{shown_row}
use Rattle.api_policy.specs.Listed.{listed_of as rows_listed_of}
use Rattle.api_shown.proofs.CutLemmas.{Within}
use Rattle.api_shown.proofs.listing.listed_of.Given as goal

-- those listed so far, and what is listed of the rows that are left, is what is listed of all
abbrev pub invariant-loop-row : goal.invariant-loop-row
invariant-loop-row g l =
    (map shown_row l.listed.items ++ rows_listed_of (g.R.Visible.seen l.rows l.caller) (g.R.Shows.members_of l.rows l.caller) l.kind l.caller.admin l.query (drop l.row-index l.candidates)
    ≡ rows_listed_of (g.R.Visible.seen l.fn.rows l.fn.caller) (g.R.Shows.members_of l.fn.rows l.fn.caller) l.fn.kind l.fn.caller.admin l.fn.query l.fn.candidates)
    × Within l.query.limit (length l.listed.items)
