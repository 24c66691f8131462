use Rattle.std.proofs.Common.{subst, sym}
use Rattle.lab_world.specs.World.{Handles}
use Rattle.keeper_core.specs.Kept.{IsStored}
use Rattle.world_laws.specs.World.{IsSynced, World}
use Rattle.neutron_serve.specs.Requests.{request_of}
use Rattle.neutron_serve.specs.Steps.{request_outcome}
use Rattle.neutron_serve.proofs.DrillLemmas.{noted_step}
use Rattle.neutron_serve.proofs.drilling.CountingHandler.answer.Goals as goal

pub returns-in-Ok-clause-moves : goal.returns-in-Ok-clause-moves
returns-in-Ok-clause-moves g c asked rest takes is =
    let reply = c.reply_to-reply.result.reply in
    let same = sym c.note.ensures.world in
    noted_step c.args.drill.now c.note.new.self asked reply c.args.request.close c.in-Ok.written c.in-Ok.ensures.bytes is.close
    (subst (λ w. Handles (request_outcome c.args.drill.now.world (request_of asked)) c.args.drill.now.world w reply) same (c.reply_to-reply.ensures.handled asked is))
    c.in-Ok.ensures.whole c.in-Ok.ensures.inside (subst IsSynced same c.in-Ok.ensures.heard) c.in-Ok.ensures.tally

pub returns-in-Ok-clause-kept : goal.returns-in-Ok-clause-kept
returns-in-Ok-clause-kept g c =
    subst (λ (w : World). IsStored w.history.rows (g.K.Keeper.told c.args.keeper.now) (g.K.Keeper.told c.reply_to-reply.new.keeper)) (sym c.note.ensures.world) c.reply_to-reply.ensures.kept
