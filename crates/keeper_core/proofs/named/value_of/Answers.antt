use Rattle.std.proofs.Common.{arith}
use Rattle.keeper_core.proofs.NamedLemmas.{value_within, value_past}
use Rattle.keeper_core.proofs.named.value_of.Goals as goal

pub returns-then-place-items : goal.returns-then-place-items
returns-then-place-items g c = value_within c.args.name.now c.args.items.now c.place_of-place.result _ c.place_of-place.ensures c.if-place-items.true

pub returns : goal.returns
returns g c = value_past c.args.name.now c.args.items.now c.place_of-place.result c.place_of-place.ensures (omega (c.if-place-items.false, arith))
