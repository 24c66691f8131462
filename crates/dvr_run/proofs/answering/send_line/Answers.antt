use Rattle.std.proofs.Common.{drop, sym, take}
use Rattle.std.proofs.lemmas.List.{take-append-drop}
use Rattle.dvr_run.proofs.answering.send_line.Goals as goal

pub returns-in-Err-Failed-clause-is : goal.returns-in-Err-Failed-clause-is
returns-in-Err-Failed-clause-is g c =
    let line = c.args.line.now in
    let e = c.in-Err-Failed.ensures.err in (take e.0 line, drop e.0 line, sym (take-append-drop e.0 line), e.2)

pub returns-in-Err-OutOfMemory-clause-is : goal.returns-in-Err-OutOfMemory-clause-is
returns-in-Err-OutOfMemory-clause-is g c =
    let line = c.args.line.now in
    let e = c.in-Err-OutOfMemory.ensures.err in (take e.0 line, drop e.0 line, sym (take-append-drop e.0 line), e.2)
