use Rattle.std.proofs.Common.{refl, arith}
use Rattle.net_addr.specs.Spelling.{SpellsMac}
use Rattle.net_addr.proofs.ReadingLemmas.{mac_fits}
use Rattle.net_addr.proofs.address.Mac.read.Goals as goal

pub overflow_cast-result : goal.overflow_cast-result
overflow_cast-result c = let f = mac_fits c.args.text.now c.in_ok-value.value ((c.in_ok-value.ensures.ok c.in_ok-value.value).1 refl) in omega (arith, f)

pub invariant_of-result : goal.invariant_of-result
invariant_of-result c = mac_fits c.args.text.now c.in_ok-value.value ((c.in_ok-value.ensures.ok c.in_ok-value.value).1 refl)

pub returns-clause-ok : goal.returns-clause-ok
unfolding SpellsMac
returns-clause-ok c = (c.in_ok-value.ensures.ok c.in_ok-value.value).1 refl

pub returns-clause-only : goal.returns-clause-only
unfolding SpellsMac
returns-clause-only c = λ n s. (c.in_ok-value.ensures.ok n).0 s
