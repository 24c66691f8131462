use Rattle.std.proofs.Common.{◌≡◌, ◌++◌, drop}
use Rattle.std.specs.HashSet.{contains}
use Rattle.api_types.specs.Table.{ident_eq}
use Rattle.touched_rows.specs.TouchedNumbers.{numbers_from}
use Rattle.dhcp_delta.specs.Serving.{is_led, is_served}
use Rattle.dhcp_delta.proofs.leased.add_led.Given as goal

-- those so far, and those of the ports that are left, are all
abbrev pub invariant-loop-number : goal.invariant-loop-number
invariant-loop-number l =
    l.numbers.items ++ numbers_from (is_led (is_served l.servers.change.now.before.now l.servers.change.now.after.now l.servers.change.now.host.now) (contains ident_eq l.networks) (contains ident_eq l.subnets)) l.number (drop l.number l.ports)
    ≡ l.fn.numbers.items ++ numbers_from (is_led (is_served l.servers.change.now.before.now l.servers.change.now.after.now l.servers.change.now.host.now) (contains ident_eq l.networks) (contains ident_eq l.subnets)) 0 l.ports
