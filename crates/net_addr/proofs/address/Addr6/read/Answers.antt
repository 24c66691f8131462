use Rattle.net_addr.proofs.FormLemmas.{address6_once}
use Rattle.net_addr.proofs.address.Addr6.read.Goals as goal

pub returns-clause-only : goal.returns-clause-only
returns-clause-only c = λ n s. address6_once c.args.text.now n c.in_ok-number.number s c.in_ok-number.ensures
