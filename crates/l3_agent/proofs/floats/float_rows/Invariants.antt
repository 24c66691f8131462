use Rattle.std.proofs.Common.{◌≡◌, ◌++◌, drop}
use Rattle.std.specs.List.{filter_map}
use Rattle.api_types.specs.declared.floating.FloatingRow.{FloatingRow}
use Rattle.plane_types.specs.TableRows.{float_row_by}
use Rattle.l3_agent.proofs.floats.float_rows.Given as goal

-- the rows so far, and those of the floating addresses that are left, are all
abbrev pub invariant-loop-floating : goal.invariant-loop-floating
invariant-loop-floating l =
    l.floats ++ filter_map (λ (f : FloatingRow). float_row_by l.rows l.host f f.target) (drop l.floating-index l.floating-items)
    ≡ filter_map (λ (f : FloatingRow). float_row_by l.rows l.host f f.target) l.rows.floatings
