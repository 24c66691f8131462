use Rattle.std.proofs.Common.{◌≡◌, ◌+◌, ◌<◌, ◌^◌, ℕ, drop}
use Rattle.api_types.specs.HeldAddresses.{is_mac_held}
use Rattle.api_ipam.specs.MacChoice.{first_mac}
use Rattle.api_ipam.proofs.LeastLemmas.{sought}
use Rattle.api_ipam.proofs.macs.behind_held.Given as goal

-- all are held that were passed by, and no port so far has one after the greatest
abbrev pub invariant-loop-shared : goal.invariant-loop-shared
invariant-loop-shared l = record {
  same : sought l.ports l.network (first_mac + 2 ^ 24) l.next ≡ sought l.ports l.network (first_mac + 2 ^ 24) first_mac;
  none : (m : ℕ) → l.greatest < m → is_mac_held (drop l.shared-index l.ports) l.network m ≡ is_mac_held l.ports l.network m;
}
