use Rattle.std.proofs.Common.{arith}
use Rattle.http_heads.proofs.JudgeLemmas.{one_feed, no_feed}
use Rattle.http_heads.proofs.line_count.count_feeds.Goals as goal
use Rattle.http_heads.proofs.line_count.count_feeds.Goals.{then-b-eq10, else-b-eq10}

pub loop-b-preserved : goal.loop-b-preserved
loop-b-preserved c = elim c.if-b-eq10.branch [
  | then-b-eq10 w ↦ record {
    count = omega (arith, w.count-is, c.loop-b.invariant.count, one_feed c.args.bytes.now c.loop-b.b-index c.loop-b-test.true w.if-b-eq10.true);
    few = omega (arith, w.count-is, c.loop-b.invariant.few);
  }
  | else-b-eq10 w ↦ record {
    count = omega (arith, w.count-is, c.loop-b.invariant.count, no_feed c.args.bytes.now c.loop-b.b-index c.loop-b-test.true w.if-b-eq10.false);
    few = omega (arith, w.count-is, c.loop-b.invariant.few);
  }
]
