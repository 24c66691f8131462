use Rattle.std.proofs.Common.{◌≡◌, drop, map}
use Rattle.std.specs.List.{list_all}
use Rattle.api_types.specs.Printed.{member_of}
use Rattle.api_shown.specs.Asked.{has_asked}
use Rattle.api_shown.proofs.filtering.are_all_met.Given as goal

-- the names that are left are met where all are
abbrev pub invariant-loop-filters : goal.invariant-loop-filters
invariant-loop-filters l =
    list_all (has_asked l.admin (map member_of l.members)) (drop l.filters-index l.by_name) ≡ list_all (has_asked l.fn.admin (map member_of l.fn.members)) l.fn.by_name
