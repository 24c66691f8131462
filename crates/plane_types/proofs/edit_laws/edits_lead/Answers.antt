use Rattle.plane_types.proofs.LeadLemmas.{leads_from_back}
use Rattle.plane_types.proofs.edit_laws.edits_lead.Goals as goal

pub returns : goal.returns
returns c s = leads_from_back
