use Rattle.row_laws.proofs.RouterPushed.{unnamed_port}
use Rattle.row_laws.proofs.new_routers_are_unnamed.Goals as goal

pub returns : goal.returns
returns c = λ rows r all fresh mine others. unnamed_port rows r mine others fresh all.services.of_routers
