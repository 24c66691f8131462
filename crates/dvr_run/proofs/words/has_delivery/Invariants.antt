use Rattle.std.proofs.Common.{drop, ◌≡◌}
use Rattle.std.specs.List.{list_any}
use Rattle.dvr_run.specs.Words.{begins_delivery}
use Rattle.dvr_run.proofs.words.has_delivery.Given as goal

abbrev pub invariant-loop-word : goal.invariant-loop-word
invariant-loop-word l = list_any begins_delivery (drop l.word-index l.words) ≡ list_any begins_delivery l.words
