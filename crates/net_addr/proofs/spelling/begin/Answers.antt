use Rattle.std.proofs.Common.{arith}
use Rattle.net_addr.proofs.SpellingLemmas.{no_parts}
use Rattle.net_addr.proofs.spelling.begin.Goals as goal

pub returns-in_err-part : goal.returns-in_err-part
returns-in_err-part c = rw c.from_residual.ensures (λ text n s. no_parts c.args.parts.now c.args.value c.args.c text n (omega (arith, c.in_err-part.ensures.cases)) s)
