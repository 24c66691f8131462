use Rattle.std.proofs.Common.{drop, ◌++◌, ◌≡◌}
use Rattle.dvr_run.specs.Words.{session_words as words_of_session}
use Rattle.dvr_run.proofs.words.session_words.Given as goal

abbrev pub invariant-loop-word : goal.invariant-loop-word
invariant-loop-word l = l.session.items ++ drop l.word-index l.words ≡ words_of_session l.words
