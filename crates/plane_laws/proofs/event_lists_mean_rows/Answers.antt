use Rattle.plane_laws.proofs.ListLaw.{lists-held, lists-mean-rows}
use Rattle.plane_laws.proofs.event_lists_mean_rows.Goals as goal

pub returns-clause-verdicts : goal.returns-clause-verdicts
returns-clause-verdicts c = lists-mean-rows

pub returns-clause-held : goal.returns-clause-held
returns-clause-held c = lists-held
