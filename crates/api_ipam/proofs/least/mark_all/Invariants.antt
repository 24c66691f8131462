use Rattle.std.proofs.Common.{◌≡◌, ◌+◌, ◌<◌, ℕ, false, drop, get_or, length}
use Rattle.std.specs.Prelude.{◌||◌}
use Rattle.net_addr.specs.Addresses.{number, with_number}
use Rattle.api_ipam.specs.FixedChoice.{is_in}
use Rattle.api_ipam.proofs.least.mark_all.Given as goal

-- the marks so far, and those of the addresses that are left, are all
abbrev pub invariant-loop-address : goal.invariant-loop-address
invariant-loop-address l = record {
  many : length l.marks ≡ length l.fn.marks;
  marked : (k : ℕ) → k < length l.fn.marks
      → (get_or l.marks k false || is_in (drop l.address-index l.held) (with_number l.first (number l.first + k)))
      ≡ (get_or l.fn.marks k false || is_in l.held (with_number l.first (number l.first + k)));
}
