use Rattle.std.proofs.Common.{ℕ, ◌≤◌, List, arith}
use Rattle.call_parts.proofs.DrawnLemmas.{if_drawn}
use Rattle.row_laws.specs.Drawn.{AreNew}
use Rattle.row_laws.proofs.DrawnKept.{drawn_new, draws}
use Rattle.plan_routers.proofs.drawing.draw_new.Goals as goal

pub returns-clause-new : goal.returns-clause-new
returns-clause-new c =
    let state = c.args.asking.now.state in
    let owner : List ℕ = c.args.owner.now in
    let few : c.args.many ≤ 3 = c.requires.few in
    if_drawn state owner c.args.many (AreNew c.args.many)
    (λ d drew. drawn_new state.rows owner c.args.many d (draws state.rows owner c.args.many d c.draw.ensures.consistent c.requires.named (omega arith) drew))
    c.draw.result c.draw.ensures.drawn
