use Rattle.std.proofs.Common.{◌≡◌, drop, map}
use Rattle.api_types.specs.Printed.{member_of}
use Rattle.api_shown.specs.Asked.{has_asked}
use Rattle.api_shown.proofs.filtering.NameFilters.are_met.Given as goal

-- what the members that are left have is what all have
abbrev pub invariant-loop-name : goal.invariant-loop-name
invariant-loop-name l = has_asked l.admin (map member_of (drop l.name-index l.name-items)) l.self ≡ has_asked l.fn.admin (map member_of l.fn.members) l.fn.self
