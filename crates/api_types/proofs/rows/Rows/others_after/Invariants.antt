use Rattle.std.proofs.Common.{◌≡◌, take}
use Rattle.api_types.specs.Rows.{after}
use Rattle.api_types.specs.TableItems.{with_kind}
use Rattle.api_types.proofs.rows.Rows.others_after.Given as goal

-- the rows of the other kinds are those after the items so far
abbrev pub invariant-loop-item : goal.invariant-loop-item
invariant-loop-item l =
    with_kind l.kind l.others (after l.self (take l.item-index l.items)) ≡ after l.self (take l.item-index l.items)
