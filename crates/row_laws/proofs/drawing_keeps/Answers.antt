use Rattle.row_laws.proofs.DrawnKept.{draws, drawn_new}
use Rattle.row_laws.proofs.drawing_keeps.Goals as goal

pub returns : goal.returns
returns c = record {
  kept = λ rows name many d all has_name room drawing. draws rows name many d all has_name room drawing;
  new_ids = λ rows name many d all has_name room drawing. drawn_new rows name many d (draws rows name many d all has_name room drawing);
}
