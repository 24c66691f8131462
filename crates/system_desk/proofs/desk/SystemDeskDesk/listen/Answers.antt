use Rattle.keeper_core.specs.declared.ask.DeskAsk.TheVariants.{Listen}
use Rattle.system_desk.proofs.Untold.{asks_refused}
use Rattle.system_desk.proofs.desk.SystemDeskDesk.listen.Goals as goal

pub returns-in-Err : goal.returns-in-Err
returns-in-Err c = asks_refused (Listen c.args.address.now) c.refuse.result c.args.self.now.faults c.refuse.new.faults c.args.self.now.store_faults c.refuse.ensures.later c.refuse.ensures.cause
