use Rattle.reach_audit.proofs.MatchLemmas.{left_of}
use Rattle.reach_audit.proofs.matches.matches.Goals as goal

pub returns-in-Ok : goal.returns-in-Ok
returns-in-Ok c = (c.in-Ok.ensures.kinds c.requires, (c.in-Ok.ensures.matches (left_of _ _ c.requires)).0)
