use Rattle.api_secgroup.proofs.HoldLemmas.{listed_hold}
use Rattle.api_secgroup.proofs.laws.listed_prefixes_hold_members.Goals as goal

pub returns : goal.returns
returns c = listed_hold
