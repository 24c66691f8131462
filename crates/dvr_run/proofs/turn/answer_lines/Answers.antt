use Rattle.std.proofs.Common.{List, arith, subst, sym, ℕ}
use Rattle.dvr_run.proofs.RunLemmas.{none_answered}
use Rattle.dvr_run.proofs.TurnLemmas.{nowhere}
use Rattle.dvr_run.specs.Turns.{Goes, replies_of}
use Rattle.dvr_run.proofs.turn.answer_lines.Goals as goal

pub returns-in_default-clause-stops : goal.returns-in_default-clause-stops
returns-in_default-clause-stops g c = none_answered c.args.rows.now (replies_of c.args.hosts.now) (g.I.Source.told c.args.input.now) (g.O.Sink.told c.args.output.now)

pub lines-init : goal.lines-init
lines-init g c =
    let i = g.I.Source.told c.args.input.now in
    let o = g.O.Sink.told c.args.output.now in
    record {
      goes = subst (λ (b : List ℕ). Goes c.args.rows.now c.args.hosts.now c.args.hosts.now b 0 i o i o) (sym c.in-Ok.ensures) (nowhere c.args.rows.now c.args.hosts.now i o);
      within = omega arith;
      read_later = omega arith;
      write_later = omega arith;
      unfailed = λ h. h;
    }

pub lines-preserved : goal.lines-preserved
lines-preserved g c =
    let so = c.lines.invariant in
    let turn = c.in-Again.ensures in record {
      goes = turn.follows c.args.hosts.now (g.I.Source.told c.args.input.now) (g.O.Sink.told c.args.output.now) so.goes;
      within = turn.within;
      read_later = omega (arith, so.read_later, turn.read_later);
      write_later = omega (arith, so.write_later, turn.write_later);
      unfailed = λ h. turn.last_read (so.unfailed h);
    }

pub returns-in-Ends-clause-stops : goal.returns-in-Ends-clause-stops
returns-in-Ends-clause-stops g c = c.in-Ends.ensures.follows c.args.hosts.now (g.I.Source.told c.args.input.now) (g.O.Sink.told c.args.output.now) c.lines.invariant.goes

pub returns-in-Ends-clause-last_read : goal.returns-in-Ends-clause-last_read
returns-in-Ends-clause-last_read g c = λ h. c.in-Ends.ensures.last_read (c.lines.invariant.unfailed h)
