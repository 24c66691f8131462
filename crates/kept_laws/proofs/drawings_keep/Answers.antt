use Rattle.api_ml2.specs.Carrying.{carries}
use Rattle.row_laws.proofs.DrawnKept.{drawing_carried}
use Rattle.kept_laws.proofs.TypedKept.{drawing_typed}
use Rattle.kept_laws.proofs.drawings_keep.Goals as goal

pub returns : goal.returns
returns c settings rows name many d drawn typed = record {
  consistent = drawn.consistent;
  typed = drawing_typed rows name many d drawn typed;
  carried = drawing_carried (carries settings.hosts) rows name many d drawn;
}
