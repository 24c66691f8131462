use Rattle.std.proofs.Common.{◌≡◌, ◌++◌}
use Rattle.std.specs.Prelude.{string_bytes}
use Rattle.std.specs.Iterator.Adapters.{zip_first, zip_second}
use Rattle.std.specs.Slice.Iter.{iter_rest}
use Rattle.reach_audit.specs.AuditLines.{lines_of}
use Rattle.reach_audit.proofs.lines.print_lines.Given as goal

-- the lines so far, before those of the tables that are left, are all lines
abbrev pub invariant-loop-table : goal.invariant-loop-table
invariant-loop-table l = string_bytes l.lines ++ lines_of (iter_rest (zip_first l.table-iterator)) (iter_rest (zip_second l.table-iterator)) ≡ lines_of l.wanted l.judged
