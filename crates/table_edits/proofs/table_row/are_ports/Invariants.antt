use Rattle.std.proofs.Common.{◌≡◌, take}
use Rattle.table_edits.proofs.table_row.are_ports.Given as goal

abbrev pub invariant-loop-place : goal.invariant-loop-place
invariant-loop-place l = take l.place l.ports ≡ take l.place l.others
