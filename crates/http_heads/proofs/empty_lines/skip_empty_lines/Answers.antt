use Rattle.std.proofs.Common.{◌≡◌, length, min, arith}
use Rattle.std.proofs.lemmas.Grind.{common_steps}
use Rattle.http_heads.proofs.EmptyFronts.{empty_in, empty_of, empty_undecided, at_most}
use Rattle.http_heads.proofs.empty_lines.skip_empty_lines.Goals as goal

pub returns-clause-all : goal.returns-clause-all
returns-clause-all c =
    let is : c.min.result ≡ min (length c.args.buffer.now) 16383 = grind (arith, common_steps) in
    λ n empty. let inside = empty_in c.args.buffer.now c.min.result is n empty in
    at_most _ c.empty_front.result n c.empty_front.ensures.within c.empty_front.ensures.rest inside.0 inside.1

pub returns-clause-open : goal.returns-clause-open
returns-clause-open c =
    let is : c.min.result ≡ min (length c.args.buffer.now) 16383 = grind (arith, common_steps) in
    empty_undecided c.args.buffer.now c.empty_front.result (empty_of c.args.buffer.now c.min.result is c.empty_front.result c.empty_front.ensures.within c.empty_front.ensures.blank)
