use Rattle.std.proofs.Common.{◌≡◌, ◌++◌, ◌-◌, ◌≤◌, drop, length, take}
use Rattle.api_ipam.specs.FixedChoice.{all_euis}
use Rattle.api_ipam.proofs.free.few_euis.Given as goal

-- those so far, and as many more of those that are left
abbrev pub invariant-loop-subnet : goal.invariant-loop-subnet
invariant-loop-subnet l = record {
  few : length l.euis ≤ l.most;
  all : l.euis ++ take (l.most - length l.euis) (all_euis l.mac (drop l.subnet-index l.subnets)) ≡ take l.most (all_euis l.mac l.subnets);
}
