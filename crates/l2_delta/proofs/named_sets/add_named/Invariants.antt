use Rattle.std.proofs.Common.{◌≡◌, ◌++◌, flat_map, map, take}
use Rattle.std.specs.List.{filter_map}
use Rattle.api_types.specs.declared.port.PortRow.{PortRow}
use Rattle.l2_delta.specs.SetKeys.{group_number}
use Rattle.l2_delta.proofs.named_sets.add_named.Given as goal

-- the numbers of the groups that the ports so far name are added
abbrev pub invariant-loop-port : goal.invariant-loop-port
invariant-loop-port l =
    l.numbers.items ≡ l.fn.numbers.items ++ flat_map (λ (p : PortRow). filter_map (group_number l.groups.rows) p.groups) (map (λ p. p.now) (take l.port-index l.ports))
