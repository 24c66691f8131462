use Rattle.system_desk.proofs.Untold.{none_refused}
use Rattle.system_desk.proofs.desk.SystemDeskDesk.next.Goals as goal

pub returns-in-Err-clause-asks : goal.returns-in-Err-clause-asks
returns-in-Err-clause-asks c = none_refused c.refuse.result c.args.self.now.faults c.refuse.new.faults c.args.self.now.store_faults c.refuse.ensures.later c.refuse.ensures.cause
