use Rattle.keeper_core.proofs.FreshLemmas.{sure_are_fresh}
use Rattle.keeper_core.proofs.sure_desk.SureDesk.make.Goals as goal

pub make-requires : goal.make-requires
make-requires c = sure_are_fresh c.args.connections
