use Rattle.std.proofs.Common.{◌∙◌, codes, decimal}
use Rattle.neutron_http.proofs.MessageLemmas.{around_three}
use Rattle.neutron_http.proofs.fault.no_message.Goals as goal

pub returns : goal.returns
returns c = c.from_string.ensures ∙ c.in_ok-format.ensures.ok
    ∙ around_three (codes "Message ") (decimal c.args.asked) (codes " is not kept: first ") (decimal c.args.first) (codes ", last ") (decimal c.args.last) (codes ".")
