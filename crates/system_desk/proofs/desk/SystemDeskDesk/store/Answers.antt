use Rattle.std.specs.Prelude.{option_copied}
use Rattle.keeper_core.specs.declared.ask.DeskAsk.TheVariants.{Store}
use Rattle.system_desk.proofs.Untold.{asks_refused}
use Rattle.system_desk.proofs.desk.SystemDeskDesk.store.Goals as goal

pub returns-in-Err-clause-asks : goal.returns-in-Err-clause-asks
returns-in-Err-clause-asks c = asks_refused (Store (option_copied c.args.name)) c.refuse.result c.args.self.now.faults c.refuse.new.faults c.args.self.now.store_faults c.refuse.ensures.later c.refuse.ensures.cause
