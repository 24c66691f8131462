use Rattle.std.proofs.Common.{◌≤◌, refl, arith}
use Rattle.net_addr.proofs.CidrLemmas.{number_bound}
use Rattle.net_addr.proofs.read.read_number.Goals as goal

pub overflow_cast-result : goal.overflow_cast-result
overflow_cast-result c =
    let b : c.in_ok-value.value ≤ c.args.top = number_bound c.args.top c.args.text.now c.in_ok-value.value ((c.in_ok-value.ensures.ok c.in_ok-value.value).1 refl) in
    omega (arith, b)
