use Rattle.std.proofs.Common.{◌≡◌, ◌++◌, drop}
use Rattle.std.specs.List.{filter_map}
use Rattle.api_types.specs.declared.port.Fixed.{Fixed}
use Rattle.dvr_types.specs.Copies.{near_row as row_by_rows}
use Rattle.dvr_agent.proofs.near.add_fixed.Given as goal

-- the rows so far, and those of the addresses that are left, are all
abbrev pub invariant-loop-held : goal.invariant-loop-held
invariant-loop-held l =
    l.near ++ filter_map (λ (f : Fixed). row_by_rows l.networks l.host f.address l.port) (drop l.held-index l.held-items)
    ≡ l.fn.near ++ filter_map (λ (f : Fixed). row_by_rows l.networks l.host f.address l.port) l.port.fixed
