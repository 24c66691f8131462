use Rattle.std.proofs.Common.{[], refl, ap, subst, ◌∙◌}
use Rattle.std.proofs.KnownBytes.{Appends-nil}
use Rattle.http_session.specs.Told.{Answered, StoreFailed, NoMemory}
use Rattle.http_session.specs.Turns.{IsSent}
use Rattle.http_session.proofs.turn.answer_request.Goals as goal

pub returns-in-Reply-clause-is : goal.returns-in-Reply-clause-is
returns-in-Reply-clause-is g c = λ asked rest takes is. record {
  told = Answered c.in-Reply.reply;
  steps = record { moves = c.in-Reply.ensures.moves asked rest takes is; faults = c.in-Reply.ensures.faults };
  sent = subst (λ l. IsSent (g.O.Sink.told c.args.output.now) (g.O.Sink.told c.send_reply.new.output) l c.args.request.close c.send_reply.result) c.as_slice.ensures c.send_reply.ensures.is;
}

pub returns-in-StoreFault-clause-is : goal.returns-in-StoreFault-clause-is
returns-in-StoreFault-clause-is g c = λ asked rest takes is. record {
  told = StoreFailed c.in-StoreFault.reply;
  steps = record { moves = c.in-StoreFault.ensures.moves asked rest takes is; faults = c.in-StoreFault.ensures.faults };
  sent = subst (λ l. IsSent (g.O.Sink.told c.args.output.now) (g.O.Sink.told c.send_reply-in-StoreFault.new.output) l c.args.request.close c.send_reply-in-StoreFault.result) c.as_slice-in-StoreFault.ensures c.send_reply-in-StoreFault.ensures.is;
}

pub returns-in-NoMemory-clause-is : goal.returns-in-NoMemory-clause-is
returns-in-NoMemory-clause-is g c = λ asked rest takes is.
    let moved = c.in-NoMemory.ensures.moves asked rest takes is in record {
      told = NoMemory c.no_memory.result.now;
      steps = record { moves = (moved.0, moved.1, c.no_memory.ensures ∙ ap g.H.Handler.fixed.no_memory is.close); faults = c.in-NoMemory.ensures.faults };
      sent = c.send_reply-in-NoMemory.ensures.is;
    }

pub returns-in-Unwritten-clause-is : goal.returns-in-Unwritten-clause-is
returns-in-Unwritten-clause-is g c = λ asked rest takes is.
    let moved = c.in-Unwritten.ensures.moves asked rest takes is in record {
      told = Answered moved.0;
      steps = record { moves = moved.1; faults = c.in-Unwritten.ensures.faults };
      sent = record { front = []; back = moved.0; parts = refl; wrote = Appends-nil (g.O.Sink.told c.args.output.now).written; flushed_stays = refl };
    }
