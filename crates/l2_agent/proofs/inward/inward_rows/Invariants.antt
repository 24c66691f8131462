use Rattle.std.proofs.Common.{◌≡◌, ◌++◌, drop}
use Rattle.std.specs.List.{filter_map}
use Rattle.plane_types.specs.TableRows.{inward_row as inward_row_of}
use Rattle.l2_agent.proofs.inward.inward_rows.Given as goal

-- the rows so far, and those of the tags that are left, are all
abbrev pub invariant-loop-row : goal.invariant-loop-row
invariant-loop-row l =
    l.inward ++ filter_map (inward_row_of l.rows) (drop l.row-index l.tags) ≡ filter_map (inward_row_of l.rows) l.tags
