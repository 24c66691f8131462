use Rattle.std.proofs.Common.{◌≡◌, drop}
use Rattle.std.specs.Prelude.{◌||◌}
use Rattle.net_addr.specs.declared.address.Addr.{Addr}
use Rattle.api_types.specs.HeldAddresses.{is_address_held}
use Rattle.api_ipam.specs.FixedChoice.{is_in}
use Rattle.api_ipam.proofs.held.HeldAddresses.on.Given as goal

-- those so far, and those of the ports that are left, are all
abbrev pub invariant-loop-port : goal.invariant-loop-port
invariant-loop-port l =
    (x : Addr) → (is_in l.held x || is_address_held (drop l.port-index l.ports) l.network x) ≡ is_address_held l.ports l.network x
