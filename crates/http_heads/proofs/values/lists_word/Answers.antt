use Rattle.std.proofs.Common.{◌==◌, rules, tests}
use Rattle.std.proofs.lemmas.Iterator.Search.{any_from_yields_List}
use Rattle.std.proofs.lemmas.Iterator.Splits.{YieldsList-from_slice_split}
use Rattle.http_heads.specs.Words.{same_word, cut_ends, blank_of}
use Rattle.http_heads.proofs.values.lists_word.Goals as goal

pub returns : goal.returns
returns c = any_from_yields_List (λ item. same_word (cut_ends (blank_of c.args.blank) item) c.args.word.now) _ _ _ c.any.ensures.ran
    (YieldsList-from_slice_split _ (λ b. b == 44) c.args.text.now c.split.ensures.rest c.split.ensures.done c.split.ensures.closure (λ x b q k. search (rules, tests)))
    (λ x b q k. search (rules, tests))
