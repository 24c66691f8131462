use Rattle.std.proofs.Common.{◌<◌, ◌≤◌, length, arith}
use Rattle.std.proofs.lemmas.Bool.Decides.{nat_tests}
use Rattle.net_addr.proofs.SpellingLemmas.{no_end, ended}
use Rattle.net_addr.proofs.spelling.end.Goals as goal

pub returns-then-not-is_empty : goal.returns-then-not-is_empty
returns-then-not-is_empty c =
    let some : 0 < length c.args.parts.now = grind (arith, nat_tests) in
    λ n s. no_end c.args.parts.now c.args.value n some c.requires s

pub returns : goal.returns
returns c =
    let none : length c.args.parts.now ≤ 0 = grind (arith, nat_tests) in
    λ n. ended c.args.parts.now c.args.value n none
