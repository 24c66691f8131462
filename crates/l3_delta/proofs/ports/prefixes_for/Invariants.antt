use Rattle.std.proofs.Common.{◌≡◌, ◌++◌, drop}
use Rattle.std.specs.Prelude.{option_map}
use Rattle.std.specs.List.{filter_map}
use Rattle.api_types.specs.declared.port.Fixed.{Fixed}
use Rattle.api_types.specs.declared.subnet.SubnetRow.{SubnetRow}
use Rattle.api_types.specs.RowsWith.{subnet_with}
use Rattle.l3_delta.proofs.ports.prefixes_for.Given as goal

-- the prefixes so far, and those of the addresses that are left, are all
abbrev pub invariant-loop-fixed : goal.invariant-loop-fixed
invariant-loop-fixed l =
    l.prefixes ++ filter_map (λ (f : Fixed). option_map (λ (s : SubnetRow). s.prefix) (subnet_with l.rows f.subnet)) (drop l.fixed-index l.fixed-items)
    ≡ filter_map (λ (f : Fixed). option_map (λ (s : SubnetRow). s.prefix) (subnet_with l.rows f.subnet)) l.port.fixed
