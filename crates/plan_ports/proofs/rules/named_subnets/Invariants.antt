use Rattle.std.proofs.Common.{◌≡◌, ◌++◌, drop}
use Rattle.api_ipam.specs.FixedChoice.{named_subnets}
use Rattle.plan_ports.proofs.rules.named_subnets.Given as goal

-- those so far, and those that are left, are all
abbrev pub invariant-loop-item : goal.invariant-loop-item
invariant-loop-item l = l.named ++ named_subnets (drop l.item-index l.items) ≡ named_subnets l.items
