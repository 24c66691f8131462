use Rattle.std.proofs.Common.{◌≡◌, length, arith, inr, subst, sym, ap, refl}
use Rattle.http_heads.specs.Heads.{IsWaiting}
use Rattle.http_heads.proofs.Unique.{waiting_short}
use Rattle.http_session.proofs.Pieces.{grew_none}
use Rattle.http_session.proofs.reading.read_more.Goals as goal

pub read_from-requires-clause-room : goal.read_from-requires-clause-room
read_from-requires-clause-room g c = waiting_short c.args.buffer.now c.requires.waits

pub returns-then-count-eq0-clause-stop : goal.returns-then-count-eq0-clause-stop
returns-then-count-eq0-clause-stop g c =
    let ok = c.in-Ok.ensures.ok in
    let same : c.read_from.new.self ≡ c.args.buffer.now = grew_none c.args.buffer.now c.read_from.new.self ok.0 c.in-Ok.count ok.1 ok.2 c.if-count-eq0.true in
    inr (
      refl,
      omega (arith, c.if-as_slice-eq0.false, ap length c.as_slice.ensures.value),
      subst IsWaiting (sym same) c.requires.waits,
      ok.5 c.if-count-eq0.true,
      omega (arith, c.if-taken-limit.false, c.requires.within, c.if-count-eq0.true),
    )
