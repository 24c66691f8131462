use Rattle.std.proofs.Common.{length}
use Rattle.table_edits.proofs.DescendLemmas.{SoFar}
use Rattle.table_edits.proofs.keys.turn_once.Given as goal

-- the keys so far are those that were taken from the back, each once
abbrev pub invariant-loop-key : goal.invariant-loop-key
invariant-loop-key g l = SoFar g.K.TableKey.before g.met.K.TableKey.total l.fn.keys.items l.keys.items l.once.items

abbrev pub decreases-loop-key : goal.decreases-loop-key
decreases-loop-key g l = length l.keys.items
