use Rattle.std.proofs.Common.{◌≡◌, ◌+◌, ◌<◌, ◌^◌, ◌≤◌, ℕ, drop, true}
use Rattle.net_addr.specs.declared.address.Addr.TheVariants.{V4}
use Rattle.api_ipam.specs.FixedChoice.{is_in}
use Rattle.api_ipam.proofs.least.behind_fours.Given as goal

-- all are held from the first up to the next, and none so far is after the greatest
abbrev pub invariant-loop-address : goal.invariant-loop-address
invariant-loop-address l = record {
  from : l.first ≤ l.next;
  to : l.next ≤ 2 ^ 32;
  held : (k : ℕ) → l.first + k < l.next → is_in l.held (V4 (l.first + k)) ≡ true;
  none : (m : ℕ) → l.greatest < m → is_in (drop l.address-index l.held) (V4 m) ≡ is_in l.held (V4 m);
}
