use Rattle.std.proofs.Common.{◌≡◌, ◌+◌, ◌-◌, ◌^◌}
use Rattle.api_ipam.specs.MacChoice.{first_mac}
use Rattle.api_ipam.proofs.LeastLemmas.{sought}
use Rattle.api_ipam.proofs.macs.mac_after.Given as goal

-- the search goes on as it began
abbrev pub invariant-search : goal.invariant-search
invariant-search l = sought l.ports l.network (first_mac + 2 ^ 24) l.mac ≡ sought l.ports l.network (first_mac + 2 ^ 24) first_mac

abbrev pub decreases-search : goal.decreases-search
decreases-search l = first_mac + 2 ^ 24 - l.mac
