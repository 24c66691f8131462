use Rattle.std.proofs.Common.{◌≤◌, subst, sym, arith}
use Rattle.std.proofs.lemmas.Result.{IfOk-weaker}
use Rattle.reach_laws.specs.Numbers.{number_end}
use Rattle.reach_sets.proofs.GrowthLemmas.{whole}
use Rattle.reach_sets.proofs.PieceLemmas.{number-ends}
use Rattle.reach_sets.specs.ReachSets.{AreSpansOf}
use Rattle.reach_sets.specs.TwoPorts.{IsReachedBetween, two_ports}
use Rattle.reach_sets.proofs.reach_set.find_spans.Goals as goal

pub finish-requires : goal.finish-requires
finish-requires c = c.pieces.invariant.so_far.begun

pub returns : goal.returns
returns c =
    let rows = c.args.rows.now in
    let x = two_ports c.args.pair.now in
    let kind = c.args.kind in
    let past : number_end kind ≤ c.pieces.at = omega arith in
    IfOk-weaker c.finish.result _ _
    (λ spans is. subst (AreSpansOf (IsReachedBetween rows x kind)) (sym is)
    (whole (IsReachedBetween rows x kind) c.pieces.growing c.pieces.at (λ d p. let less = number-ends rows x kind d p.0 in omega (arith, less, past)) c.pieces.invariant.so_far))
    c.finish.ensures
