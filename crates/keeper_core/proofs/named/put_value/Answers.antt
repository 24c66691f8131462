use Rattle.std.proofs.Common.{rules, arith, ◌∙◌}
use Rattle.keeper_core.proofs.NamedLemmas.{put_within, put_last}
use Rattle.keeper_core.proofs.named.put_value.Goals as goal

pub returns-then-place-len : goal.returns-then-place-len
returns-then-place-len g c = put_within c.args.name c.args.value c.args.items.now.items c.place_of-place.result c.index_mut.result.now (search rules) (search rules) (search rules)

pub returns : goal.returns
returns g c = search rules ∙ put_last c.args.name c.args.value c.args.items.now.items (search (rules, arith))
