use Rattle.std.proofs.Common.{◌∙◌, ◌&&◌, ◌==◌, ap, not, sym}
use Rattle.neutron_serve.specs.Causes.{may_move}
use Rattle.neutron_serve.proofs.Replying.{still_same}
use Rattle.neutron_serve.proofs.api.handle_ask.Goals as goal

pub returns-clause-same : goal.returns-clause-same
returns-clause-same g c is =
    let new = c.handle-reply.new.self in
    let reply = c.handle-reply.result in
    still_same c.args.world.now new c.args.caller.now c.args.ask.now reply c.handle-reply.ensures.handled
    (ap (λ v. (new.history.version == v) && not (may_move c.args.ask.now reply)) (sym c.version-before.ensures) ∙ sym c.is_still-same.ensures ∙ is)
