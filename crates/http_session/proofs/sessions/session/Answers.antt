use Rattle.std.proofs.Common.{◌∙◌, ◌≤◌, ℕ, List, [], arith, refl, subst, sym}
use Rattle.http_session.specs.Serves.{Goes, Moment, scene}
use Rattle.http_session.proofs.Going.{goes_nowhere, goes_on}
use Rattle.http_session.proofs.Turning.{last_turn_within, no_turn}
use Rattle.http_session.proofs.sessions.session.Goals as goal

pub returns-in_default-clause-serves : goal.returns-in_default-clause-serves
returns-in_default-clause-serves g c =
    record { buffer = []; taken = 0; within = omega arith; serves = no_turn g.H.Handler.steps g.H.Handler.fixed c.args.limit _; last_read = λ h. h }

pub turns-init : goal.turns-init
turns-init g c =
    let before : List ℕ → Moment _ = λ b. record {
      scene = scene c.args.world.now (g.K.Keeper.told c.args.keeper.now) (g.I.Source.told c.args.input.now) (g.O.Sink.told c.args.output.now);
      buffer = b;
      taken = 0;
    } in
    record {
      goes = subst (λ b. Goes g.H.Handler.steps g.H.Handler.fixed (before []) (before b)) (sym c.in-Ok.ensures) (goes_nowhere g.H.Handler.steps g.H.Handler.fixed (before []));
      kept = record { tells = c.requires; as_before = refl };
      limit = refl;
      within = omega arith;
      read_later = omega arith;
      write_later = omega arith;
      unfailed = λ h. h;
    }

pub turns-preserved : goal.turns-preserved
turns-preserved g c =
    let so = c.turns.invariant in
    let turn = c.in-Again.ensures in record {
      goes = goes_on g.H.Handler.steps g.H.Handler.fixed _ _ _ so.goes turn.is.0;
      kept = record { tells = turn.kept.tells; as_before = turn.kept.as_before ∙ so.kept.as_before };
      limit = turn.limit ∙ so.limit;
      within = subst (λ n. c.take_turn.new.taking.taken ≤ n) so.limit turn.within;
      read_later = omega (arith, so.read_later, turn.read_later);
      write_later = omega (arith, so.write_later, turn.write_later);
      unfailed = λ h. turn.last_read (so.unfailed h);
    }

pub returns-in-Ends-clause-serves : goal.returns-in-Ends-clause-serves
returns-in-Ends-clause-serves g c =
    let so = c.turns.invariant in
    let turn = c.in-Ends.ensures in record {
      buffer = c.take_turn.new.taking.buffer;
      taken = c.take_turn.new.taking.taken;
      within = subst (λ n. c.take_turn.new.taking.taken ≤ n) so.limit turn.within;
      serves = last_turn_within g.H.Handler.steps g.H.Handler.fixed c.args.limit _ _ _ _ c.in-Ends.end so.limit so.goes turn.is;
      last_read = λ h. turn.last_read (so.unfailed h);
    }
