use Rattle.std.proofs.Common.{◌≡◌, ◌&&◌, map, take}
use Rattle.std.specs.List.{filter}
use Rattle.api_types.specs.Table.{ident_eq}
use Rattle.api_types.specs.declared.subnet.SubnetRow.{SubnetRow}
use Rattle.api_policy.specs.Visibility.{sees_subnet}
use Rattle.api_shown.proofs.network.subnets_of.Given as goal

-- the ids are those of the subnets so far
abbrev pub invariant-loop-subnet : goal.invariant-loop-subnet
invariant-loop-subnet l =
    l.ids.items
    ≡ map (λ (s : SubnetRow). s.id)
    (filter (λ (s : SubnetRow). ident_eq l.network s.network && sees_subnet l.rows l.caller s) (take l.subnet-index l.subnet-items))
