use Rattle.std.proofs.Common.{◌≡◌, ◌-◌, length, drop, arith, ◌∙◌, length-drop}
use Rattle.std.proofs.lemmas.List.{length-take-le}
use Rattle.dvr_run.proofs.Pieces.{read_ok, read_err}
use Rattle.dvr_run.proofs.pending.read_after.Goals as goal

pub returns-clause-err : goal.returns-clause-err
returns-clause-err g c = read_err c.read.result (g.I.Source.told c.args.input.now) (g.I.Source.told c.read.new.self) c.args.bytes.now c.read.new.buf _ c.args.len (omega (arith, c.requires.room)) c.read.ensures.bytes c.read.ensures.last

pub returns-clause-ok : goal.returns-clause-ok
returns-clause-ok g c =
    let size : length c.read.new.buf ≡ c.end_of-end.result - c.args.len = c.read.auto.buf ∙ length-take-le (c.end_of-end.result - c.args.len) (drop c.args.len c.args.bytes.now) (omega (arith, length-drop c.args.len c.args.bytes.now, c.end_of-end.ensures.within)) in
    read_ok c.read.result (g.I.Source.told c.args.input.now) (g.I.Source.told c.read.new.self) c.args.bytes.now c.read.new.buf _ c.args.len c.args.at_most (omega (arith, size, c.end_of-end.ensures.above, c.end_of-end.ensures.within)) (omega (arith, size, c.end_of-end.ensures.few)) (omega (arith, size, c.end_of-end.ensures.above)) c.read.ensures.bound c.read.ensures.bytes c.read.ensures.last
