use Rattle.std.proofs.Common.{◌≡◌, ◌-◌, ◌≤◌, length, take, drop, arith, ap, subst, ◌∙◌, length-drop}
use Rattle.std.proofs.lemmas.List.{take_rest}
use Rattle.std.specs.Io.KnownBytes.{Appends}
use Rattle.http_session.proofs.Pieces.{one_more}
use Rattle.http_session.proofs.sending.send.Goals as goal

pub pieces-preserved : goal.pieces-preserved
pieces-preserved g c =
    let reply = c.args.reply.now in
    let rest : take (length reply - c.pieces.sent) (drop c.pieces.sent reply) ≡ drop c.pieces.sent reply = take_rest reply c.pieces.sent in
    let count : c.in_ok-sent.field-0 ≤ length (take (length reply - c.pieces.sent) (drop c.pieces.sent reply)) = c.in_ok-sent.ensures.count.1 in
    record {
      at = omega (arith, count, ap length rest, length-drop c.pieces.sent reply, c.pieces.invariant.at);
      wrote = one_more (g.O.Sink.told c.args.output.now).written (g.O.Sink.told c.pieces.output).written (g.O.Sink.told c.write.new.self).written reply c.pieces.sent c.in_ok-sent.field-0 c.pieces.invariant.wrote
          (subst (λ l. Appends (g.O.Sink.told c.pieces.output).written (g.O.Sink.told c.write.new.self).written (take c.in_ok-sent.field-0 l)) rest c.in_ok-sent.ensures.bytes);
      flushed_stays = c.write.ensures.flushed ∙ c.pieces.invariant.flushed_stays;
      later = omega (arith, c.pieces.invariant.later, c.write.ensures.cause.later);
    }
