use Rattle.std.proofs.Common.{◌≡◌, ◌++◌, map}
use Rattle.std.specs.Vec.Iter.{into_iter_items}
use Rattle.api_types.specs.Printed.{member_of}
use Rattle.api_policy.specs.Shown.{shown_members}
use Rattle.api_shown.proofs.showing.kept.Given as goal

-- those kept so far, and what is kept of the others, is what is kept of all
abbrev pub invariant-loop-member : goal.invariant-loop-member
invariant-loop-member l =
    map member_of l.kept.items ++ shown_members l.admin l.fields (map member_of (into_iter_items l.member-iterator))
    ≡ shown_members l.admin l.fields (map member_of l.fn.members)
