use Rattle.std.proofs.Common.{arith, subst, sym}
use Rattle.http_heads.specs.Heads.{Decides, Refuses}
use Rattle.http_session.proofs.Heading.{passing, passing_short, refused_so, open_so}
use Rattle.http_session.proofs.reading.look.Goals as goal

pub returns-in-More : goal.returns-in-More
returns-in-More c = open_so c.args.bytes.now c.in-More.ensures.is

pub returns-in-Head : goal.returns-in-Head
returns-in-Head c =
    let p = passing c.args.bytes.now c.in-Head.length c.in-Head.body c.in-Head.close c.in-Head.parts c.in-Head.ensures.is in
    (p.head, record { decides = p.decides; parts = p.told.parts_are; start = p.told.start; end = omega (arith, p.told.size); close = p.told.closes_is })

pub returns-in-Refused : goal.returns-in-Refused
returns-in-Refused c = subst (λ n. Decides c.args.bytes.now (Refuses n)) (sym c.numbered.ensures) (refused_so c.args.bytes.now c.in-Refused.number c.in-Refused.ensures.is)

pub overflow_add-result : goal.overflow_add-result
overflow_add-result c =
    omega (arith, passing_short c.args.bytes.now c.in-Head.length c.in-Head.body c.in-Head.close c.in-Head.parts (passing c.args.bytes.now c.in-Head.length c.in-Head.body c.in-Head.close c.in-Head.parts c.in-Head.ensures.is))
