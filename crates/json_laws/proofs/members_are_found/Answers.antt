use Rattle.json_laws.proofs.MembersBack.{members_found}
use Rattle.json_laws.proofs.members_are_found.Goals as goal

pub returns : goal.returns
returns c = members_found
