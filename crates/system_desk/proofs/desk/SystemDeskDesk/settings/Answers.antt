use Rattle.keeper_core.specs.declared.ask.DeskAsk.TheVariants.{Settings}
use Rattle.system_desk.proofs.Untold.{asks_refused}
use Rattle.system_desk.proofs.desk.SystemDeskDesk.settings.Goals as goal

pub returns-in-Err-clause-asks : goal.returns-in-Err-clause-asks
returns-in-Err-clause-asks c = asks_refused (Settings c.args.name.now) c.refuse.result c.args.self.now.faults c.refuse.new.faults c.args.self.now.store_faults c.refuse.ensures.later c.refuse.ensures.cause
