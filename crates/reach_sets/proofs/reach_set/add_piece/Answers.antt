use Rattle.std.proofs.Common.{subst, sym}
use Rattle.reach_sets.proofs.GrowthLemmas.{grow}
use Rattle.reach_sets.specs.Growth.{AreSoFar}
use Rattle.reach_sets.specs.TwoPorts.{IsReachedBetween, two_ports}
use Rattle.reach_sets.proofs.reach_set.add_piece.Goals as goal

pub add-requires : goal.add-requires
add-requires c = c.requires.so_far.begun

pub returns-clause-so_far : goal.returns-clause-so_far
returns-clause-so_far c =
    let rows = c.args.rows.now in
    let x = two_ports c.args.pair.now in
    subst (AreSoFar (IsReachedBetween rows x c.args.kind) c.piece_end-next.result) (sym c.in_ok-add.ensures)
    (grow (IsReachedBetween rows x c.args.kind) c.args.growing.now c.args.at c.piece_end-next.result c.in_ok-reached.reached c.piece_end-next.ensures.above c.requires.so_far
    (λ d from below. c.in_ok-reached.ensures d (c.piece_end-next.ensures.piece d from below)))
