use Rattle.std.proofs.Common.{ℕ, List, arith}
use Rattle.call_parts.proofs.DrawnLemmas.{if_drawn}
use Rattle.row_laws.specs.Drawn.{AreNew}
use Rattle.row_laws.proofs.DrawnKept.{drawn_new, draws}
use Rattle.plan_floatings.proofs.drawing.draw_two.Goals as goal

pub returns-clause-new : goal.returns-clause-new
returns-clause-new c =
    let state = c.args.asking.now.state in
    let owner : List ℕ = c.args.owner.now in
    if_drawn state owner 2 (AreNew 2)
    (λ d drew. drawn_new state.rows owner 2 d (draws state.rows owner 2 d c.draw.ensures.consistent c.requires (omega arith) drew))
    c.draw.result c.draw.ensures.drawn
