use Rattle.std.proofs.Common.{◌≡◌, ◌++◌, drop}
use Rattle.api_ipam.specs.FixedChoice.{all_renewed}
use Rattle.api_ipam.proofs.asked.old_renewed.Given as goal

-- those so far, and those that are left, are all
abbrev pub invariant-loop-fixed : goal.invariant-loop-fixed
invariant-loop-fixed l =
    l.list ++ all_renewed l.subnets l.port.mac l.mac (drop l.fixed-index l.fixed-items) ≡ all_renewed l.subnets l.port.mac l.mac l.port.fixed
