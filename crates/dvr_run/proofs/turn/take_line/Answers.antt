use Rattle.std.proofs.Common.{List, ap, arith, length, length-append, length-drop, subst, sym, take, ℕ, ◌+◌}
use Rattle.dvr_run.proofs.TurnLemmas.{ended, turned}
use Rattle.dvr_run.specs.Turns.{Follows, IsTurn}
use Rattle.dvr_run.specs.declared.turn.Turn.TheVariants.{Ends}
use Rattle.dvr_run.proofs.turn.take_line.Goals as goal

pub returns-in-Ok-clause-follows : goal.returns-in-Ok-clause-follows
returns-in-Ok-clause-follows g c = λ start i o goes.
    let turn = c.answer_line-turn in
    let now = c.await_line.new.pending in
    let value = c.as_slice.ensures.value in
    subst (λ b. Follows c.args.rows.now start turn.new.hosts b c.await_line.new.taken i o (g.I.Source.told c.await_line.new.input) (g.O.Sink.told turn.new.output) turn.result)
    (sym c.drop_front.ensures)
    (turned c.args.rows.now start c.args.hosts.now i o (g.I.Source.told c.args.input.now) (g.I.Source.told c.await_line.new.input) (g.O.Sink.told c.args.output.now)
    c.args.pending.now now c.args.taken.now c.await_line.new.taken goes c.in-Ok.ensures.reads c.in-Ok.length c.in-Ok.ensures.line
    c.as_slice.ensures.room
    turn.result turn.new.hosts (g.O.Sink.told turn.new.output)
    (subst (λ (b : List ℕ). IsTurn c.args.rows.now (take c.in-Ok.length b) c.args.hosts.now turn.new.hosts (g.O.Sink.told c.args.output.now) (g.O.Sink.told turn.new.output) turn.result) value turn.ensures.is)
    c.in-Ok.ensures.within)

pub returns-in-Err-clause-follows : goal.returns-in-Err-clause-follows
returns-in-Err-clause-follows g c = λ start i o goes.
    subst (λ s. Follows c.args.rows.now start c.args.hosts.now c.await_line.new.pending c.await_line.new.taken i o (g.I.Source.told c.await_line.new.input) (g.O.Sink.told c.args.output.now) (Ends s))
    (sym c.of_no_line.ensures)
    (ended c.args.rows.now start c.args.hosts.now i o (g.I.Source.told c.args.input.now) (g.I.Source.told c.await_line.new.input) (g.O.Sink.told c.args.output.now)
    c.args.pending.now c.await_line.new.pending c.args.taken.now c.await_line.new.taken goes c.in-Err.ensures.reads c.in-Err.why c.in-Err.ensures.stop c.in-Err.ensures.within)

pub drop_front-requires : goal.drop_front-requires
drop_front-requires g c = omega (arith, c.in-Ok.ensures.line.within)

pub returns-in-Ok-clause-less : goal.returns-in-Ok-clause-less
returns-in-Ok-clause-less g c = λ again.
    let now = c.await_line.new.pending in
    let n = c.in-Ok.length in
    let r = c.in-Ok.ensures.reads in
    omega (arith, c.in-Ok.ensures.within, r.count, c.in-Ok.ensures.line.within, ap length c.drop_front.ensures, length-drop (n + 1) now, ap length r.grew, length-append c.args.pending.now r.more)
