use Rattle.std.proofs.Common.{subst, arith}
use Rattle.reach_laws.specs.Decides.{Decides}
use Rattle.reach_sets.proofs.JudgeLemmas.{breaks-first, breaks-nowhere, none-further}
use Rattle.reach_sets.proofs.PieceLemmas.{own-piece}
use Rattle.reach_sets.specs.Breaking.{IsNumberAgainst}
use Rattle.reach_sets.specs.TwoPorts.{two_ports}
use Rattle.reach_sets.proofs.judgement.first_break.Goals as goal

pub returns-then-against : goal.returns-then-against
returns-then-against c =
    let rows = c.args.rows.now in
    let x = two_ports c.args.pair.now in
    let w = c.args.wanted.now in
    breaks-first rows x w c.pieces.at c.pieces.invariant.from (omega arith) c.pieces.invariant.none
    ((c.in_ok-against.ensures c.pieces.at (own-piece rows x w.proto c.pieces.at (omega arith))).0 c.if-against.true)

pub pieces-preserved : goal.pieces-preserved
pieces-preserved c =
    let rows = c.args.rows.now in
    let x = two_ports c.args.pair.now in
    let w = c.args.wanted.now in
    record {
      from = omega (arith, c.pieces.invariant.from, c.piece_end-at.ensures.above);
      none = none-further rows x w c.pieces.at c.piece_end-at.result c.pieces.invariant.none
          (λ d from below. subst (λ b. Decides b (IsNumberAgainst rows x w d)) c.if-against.false (c.in_ok-against.ensures d (c.piece_end-at.ensures.piece d from below)));
    }

pub returns-else-at-end : goal.returns-else-at-end
returns-else-at-end c = breaks-nowhere c.args.rows.now (two_ports c.args.pair.now) c.args.wanted.now c.pieces.at c.pieces.invariant.none (λ d high number. omega (arith, high, number))

pub returns-after-pieces : goal.returns-after-pieces
returns-after-pieces c = breaks-nowhere c.args.rows.now (two_ports c.args.pair.now) c.args.wanted.now c.pieces.at c.pieces.invariant.none (λ d high number. omega (arith, high, number))
