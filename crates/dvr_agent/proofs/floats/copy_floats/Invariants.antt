use Rattle.std.proofs.Common.{◌≡◌, ◌++◌, drop}
use Rattle.std.specs.List.{filter_map}
use Rattle.api_types.specs.declared.floating.FloatingRow.{FloatingRow}
use Rattle.dvr_types.specs.Copies.{copy_float as float_by_rows}
use Rattle.dvr_agent.proofs.floats.copy_floats.Given as goal

-- the rows so far, and those of the floating addresses that are left, are all
abbrev pub invariant-loop-floating : goal.invariant-loop-floating
invariant-loop-floating l =
    l.floats ++ filter_map (λ (f : FloatingRow). float_by_rows l.legs f f.target) (drop l.floating-index l.floating-items)
    ≡ filter_map (λ (f : FloatingRow). float_by_rows l.legs f f.target) l.legs.floatings
