use Rattle.std.proofs.Common.{take}
use Rattle.net_addr.specs.Prefixes.{IsPrefix}
use Rattle.api_types.specs.Lists.{Each}
use Rattle.api_types.specs.declared.subnet.SubnetRow.{SubnetRow}
use Rattle.call_parts.proofs.typed.have_prefixes.Given as goal

-- those so far are prefixes
abbrev pub invariant-loop-subnet : goal.invariant-loop-subnet
invariant-loop-subnet l = Each (λ (s : SubnetRow). IsPrefix s.prefix) (take l.subnet-index l.subnets)
