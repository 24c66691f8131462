use Rattle.row_laws.proofs.NetworkCreated.{network_created}
use Rattle.row_laws.proofs.network_created_keeps.Goals as goal

pub returns : goal.returns
returns c = λ rows name many d n all has_name some room drawing made. network_created rows name many d n all has_name some room drawing made
