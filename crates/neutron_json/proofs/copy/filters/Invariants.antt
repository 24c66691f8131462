use Rattle.std.proofs.Common.{◌≡◌, take}
use Rattle.neutron_json.proofs.copy.filters.Given as goal

-- the filters so far
abbrev pub invariant-loop-filter : goal.invariant-loop-filter
invariant-loop-filter l = l.copies ≡ take l.filter-index l.filters
