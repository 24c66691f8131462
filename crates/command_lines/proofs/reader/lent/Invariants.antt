use Rattle.std.proofs.Common.{◌≡◌, ◌++◌, drop, map}
use Rattle.command_lines.proofs.reader.lent.Given as goal

-- the words so far, and those left
abbrev pub invariant-loop-word : goal.invariant-loop-word
invariant-loop-word l = map (λ w. w.now) l.lent.items ++ drop l.word-index l.words ≡ l.words
