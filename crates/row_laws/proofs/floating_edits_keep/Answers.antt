use Rattle.row_laws.proofs.Service.FloatingOn.{floating_on}
use Rattle.row_laws.proofs.Service.FloatingOff.{floating_off}
use Rattle.row_laws.proofs.FloatingReplaced.{floating_replaced}
use Rattle.row_laws.proofs.Service.FloatingsFreed.{floatings_freed}
use Rattle.row_laws.proofs.floating_edits_keep.Goals as goal

pub returns : goal.returns
returns c = record {
  pushed = λ rows f p all new. floating_on rows f p new all;
  replaced = λ rows place old new all at same is. floating_replaced rows place old new at same is all;
  gone = λ rows place f all at. floating_off rows place f at all;
  freed = λ rows test all. floatings_freed rows all test;
}
