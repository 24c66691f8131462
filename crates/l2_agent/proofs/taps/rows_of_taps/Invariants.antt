use Rattle.std.proofs.Common.{◌≡◌, ◌++◌, drop}
use Rattle.std.specs.List.{filter_map}
use Rattle.plane_types.specs.TableRows.{tap_row as tap_row_of}
use Rattle.l2_agent.proofs.taps.rows_of_taps.Given as goal

-- the rows so far, and those of the ports that are left, are all
abbrev pub invariant-loop-port : goal.invariant-loop-port
invariant-loop-port l =
    l.taps ++ filter_map (tap_row_of l.rows l.host l.tags) (drop l.port-index l.port-items) ≡ filter_map (tap_row_of l.rows l.host l.tags) l.rows.ports
