use Rattle.std.proofs.Common.{arith}
use Rattle.net_addr.proofs.ReadingLemmas.{stuck_starts, stuck_refuses, followed, unfinished_starts, at_end}
use Rattle.net_addr.proofs.spelling.read_parts.Goals as goal

pub returns-in_default-clause-refused : goal.returns-in_default-clause-refused
returns-in_default-clause-refused c =
    let r = c.loop-at.reading in
    stuck_refuses c.args.parts.now c.args.text.now c.loop-at.at r.parts.now r.value r.state c.loop-at-test.true c.loop-at.invariant c.in_default.ensures

pub returns-in_default-clause-at : goal.returns-in_default-clause-at
returns-in_default-clause-at c =
    let r = c.loop-at.reading in
    stuck_starts c.args.parts.now c.args.text.now c.loop-at.at r.parts.now r.value r.state c.loop-at-test.true c.loop-at.invariant c.in_default.ensures

pub returns-in_default-finish-clause-refused : goal.returns-in_default-finish-clause-refused
returns-in_default-finish-clause-refused c =
    let r = c.loop-at.reading in
    let f = followed c.args.parts.now c.args.text.now c.loop-at.at r.parts.now r.value r.state (omega arith) c.loop-at.invariant in
    λ (n, s). c.in_default-finish.ensures n ((at_end c.args.parts.now c.args.text.now r.parts.now r.value r.state n f).0 s)

pub returns-in_default-finish-clause-at : goal.returns-in_default-finish-clause-at
returns-in_default-finish-clause-at c =
    let r = c.loop-at.reading in
    unfinished_starts c.args.parts.now c.args.text.now r.parts.now r.value r.state
    (followed c.args.parts.now c.args.text.now c.loop-at.at r.parts.now r.value r.state (omega arith) c.loop-at.invariant)

pub returns-clause-ok : goal.returns-clause-ok
returns-clause-ok c =
    let r = c.loop-at.reading in
    let f = followed c.args.parts.now c.args.text.now c.loop-at.at r.parts.now r.value r.state (omega arith) c.loop-at.invariant in
    λ n.
    let e = at_end c.args.parts.now c.args.text.now r.parts.now r.value r.state n f in
    (λ s. (c.in-Some-finish.ensures n).0 (e.0 s), λ q. e.1 ((c.in-Some-finish.ensures n).1 q))
