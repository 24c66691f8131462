use Rattle.std.proofs.Common.{◌≡◌, Bool, false, drop}
use Rattle.std.specs.List.{list_all}
use Rattle.api_types.specs.RowLists.{RowLists}
use Rattle.api_types.specs.declared.call.Caller.{Caller}
use Rattle.api_shown.specs.Asked.{has_asked}
use Rattle.api_shown.proofs.filtering.may_all_hold.Given as goal

-- where not all names that are left are met, not all are
abbrev pub invariant-loop-filters : goal.invariant-loop-filters
invariant-loop-filters g l = (rows : RowLists) (caller : Caller) (admin : Bool)
    → list_all (has_asked admin (g.R.Shows.members_of rows caller l.row)) (drop l.filters-index l.by_name) ≡ false
    → list_all (has_asked admin (g.R.Shows.members_of rows caller l.row)) l.by_name ≡ false
