use Rattle.std.proofs.Common.{◌≡◌, drop}
use Rattle.std.specs.Prelude.{◌||◌}
use Rattle.net_addr.specs.declared.address.Addr.{Addr}
use Rattle.api_ipam.specs.FixedChoice.{is_in, known_addresses}
use Rattle.api_ipam.proofs.filling.take_known.Given as goal

-- those so far, and those of the places that are left, are all
abbrev pub invariant-loop-place : goal.invariant-loop-place
invariant-loop-place l =
    (x : Addr) → (is_in l.held x || is_in (known_addresses (drop l.place-index l.places)) x) ≡ (is_in l.fn.held x || is_in (known_addresses l.places) x)
