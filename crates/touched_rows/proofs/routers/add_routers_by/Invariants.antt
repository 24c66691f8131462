use Rattle.std.proofs.Common.{◌≡◌, ◌++◌, drop}
use Rattle.std.specs.Prelude.{flat_map}
use Rattle.touched_rows.specs.TouchedNumbers.{routers_by}
use Rattle.touched_rows.proofs.routers.add_routers_by.Given as goal

-- those so far, and those of the numbers that are left, are all
abbrev pub invariant-loop-number : goal.invariant-loop-number
invariant-loop-number l =
    l.touched.items ++ flat_map (routers_by l.change.before.now l.change.after.now l.routers.rows l.change.ports) (drop l.number-index l.ports)
    ≡ l.fn.touched.items ++ flat_map (routers_by l.change.before.now l.change.after.now l.routers.rows l.change.ports) l.ports
