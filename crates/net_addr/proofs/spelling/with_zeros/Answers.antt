use Rattle.std.proofs.Common.{◌*◌, arith}
use Rattle.net_addr.proofs.GroupLemmas.{shift_small}
use Rattle.net_addr.proofs.spelling.with_zeros.Goals as goal

pub overflow_shl-result : goal.overflow_shl-result
overflow_shl-result c =
    let s = shift_small c.args.value (16 * c.args.count) (omega (arith, c.if-value-eq0.false)) c.requires in
    omega (arith, s, c.from.ensures)
