use Rattle.std.proofs.Common.{ap, leb}
use Rattle.std.proofs.lemmas.Iterator.{YieldsList-from_chars}
use Rattle.std.proofs.lemmas.Iterator.Consumers.{count_from_yields_List}
use Rattle.json_values.proofs.word.is_short.Goals as goal

pub returns : goal.returns
returns c = ap (λ n. leb n 255) (count_from_yields_List _ _ c.count.ensures.ran (YieldsList-from_chars c.args.text.now c.utf8.text c.chars.ensures.rest))
