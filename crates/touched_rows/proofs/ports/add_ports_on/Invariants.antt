use Rattle.std.proofs.Common.{◌≡◌, ◌++◌, drop}
use Rattle.std.specs.HashSet.{contains}
use Rattle.api_types.specs.Table.{ident_eq}
use Rattle.touched_rows.specs.TouchedNumbers.{can_live_on, numbers_from}
use Rattle.touched_rows.proofs.ports.add_ports_on.Given as goal

-- those so far, and those of the ports that are left, are all
abbrev pub invariant-loop-number : goal.invariant-loop-number
invariant-loop-number l =
    l.numbers.items ++ numbers_from (can_live_on (contains ident_eq l.networks)) l.number (drop l.number l.ports)
    ≡ l.fn.numbers.items ++ numbers_from (can_live_on (contains ident_eq l.networks)) 0 l.ports
