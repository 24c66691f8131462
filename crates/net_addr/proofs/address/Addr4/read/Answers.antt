use Rattle.std.proofs.Common.{refl, arith}
use Rattle.net_addr.proofs.ReadingLemmas.{address_fits}
use Rattle.net_addr.proofs.address.Addr4.read.Goals as goal

pub overflow_cast-result : goal.overflow_cast-result
overflow_cast-result c = let f = address_fits c.args.text.now c.in_ok-value.value ((c.in_ok-value.ensures.ok c.in_ok-value.value).1 refl) in omega (arith, f)

pub invariant_of-result : goal.invariant_of-result
invariant_of-result c = address_fits c.args.text.now c.in_ok-value.value ((c.in_ok-value.ensures.ok c.in_ok-value.value).1 refl)
