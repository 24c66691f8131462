use Rattle.std.proofs.Common.{◌∙◌, subst, sym}
use Rattle.http_session.specs.Answers.{MovesBy}
use Rattle.neutron_serve.specs.Steps.{Steps, fixed_replies}
use Rattle.neutron_serve.proofs.Replying.{step_moves, store_failed_moves, unwritten_moves}
use Rattle.neutron_serve.proofs.api.ApiHandler.answer.Goals as goal

pub returns-in-Ok-clause-moves : goal.returns-in-Ok-clause-moves
returns-in-Ok-clause-moves g c asked rest takes is =
    store_failed_moves c.args.world.now c.reply_to-reply.new.world asked c.reply_to-reply.result.reply c.args.request.close c.in-Ok.written
    (c.cause_of.ensures.store_fault c.in-StoreFault.is) (c.reply_to-reply.ensures.store_change asked is (c.cause_of.ensures.store_fault c.in-StoreFault.is)) is.close c.in-Ok.ensures (c.reply_to-reply.ensures.handled asked is)

pub returns-in-Ok-write-clause-moves : goal.returns-in-Ok-write-clause-moves
returns-in-Ok-write-clause-moves g c asked rest takes is =
    step_moves c.args.world.now c.reply_to-reply.new.world asked c.reply_to-reply.result.reply c.args.request.close c.in-Ok-write.written
    (sym c.cause_of.ensures.value ∙ c.in-Step.is) is.close c.in-Ok-write.ensures (c.reply_to-reply.ensures.handled asked is)

pub returns-clause-moves : goal.returns-clause-moves
returns-clause-moves g c asked rest takes is =
    let new = c.reply_to-reply.new.world in
    subst (λ a. MovesBy Steps fixed_replies c.args.world.now asked a new) (sym c.unwritten.ensures)
    (unwritten_moves c.args.world.now new asked c.reply_to-reply.result.reply c.args.request.close c.reply_to-reply.result.same c.reply_to-reply.ensures.same
    (sym c.cause_of.ensures.value ∙ c.in-Step.is) is.close (c.reply_to-reply.ensures.handled asked is))
