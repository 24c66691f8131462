use Rattle.std.proofs.Common.{◌≡◌, map, take}
use Rattle.reach_audit.proofs.arguments.lend_words.Given as goal

-- the words so far
abbrev pub invariant-loop-word : goal.invariant-loop-word
invariant-loop-word l = map (λ w. w.now) l.lent.items ≡ take l.word-index l.words
