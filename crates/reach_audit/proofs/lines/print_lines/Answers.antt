use Rattle.std.specs.Prelude.{string_bytes}
use Rattle.std.specs.Iterator.Adapters.{zip_first, zip_second}
use Rattle.std.specs.Slice.Iter.{iter_rest}
use Rattle.std.proofs.lemmas.Slice.Zip.{either_empty_from_Zip}
use Rattle.reach_audit.proofs.LineLemmas.{lines-done}
use Rattle.reach_audit.specs.AuditLines.{lines_of}
use Rattle.reach_audit.proofs.lines.print_lines.Goals as goal

pub returns : goal.returns
returns c =
    let left = c.loop-table.table-iterator in
    lines-done (string_bytes c.loop-table.lines) (lines_of c.args.wanted.now c.args.judged.now) (iter_rest (zip_first left)) (iter_rest (zip_second left))
    (either_empty_from_Zip left c.next.new.self c.next.result c.in-None.is c.next.ensures.steps) c.loop-table.invariant
