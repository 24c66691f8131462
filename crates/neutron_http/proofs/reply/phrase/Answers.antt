use Rattle.neutron_http.proofs.ReplyCodes.{readable}
use Rattle.neutron_http.proofs.reply.phrase.Goals as goal

pub returns-in-Err : goal.returns-in-Err
returns-in-Err c = absurd (c.in-Err.ensures (readable c.args.code c.requires).code_is)
