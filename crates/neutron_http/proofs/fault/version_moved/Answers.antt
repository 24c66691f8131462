use Rattle.std.proofs.Common.{◌∙◌, codes, decimal}
use Rattle.neutron_http.proofs.MessageLemmas.{around_two}
use Rattle.neutron_http.proofs.fault.version_moved.Goals as goal

pub returns : goal.returns
returns c = c.from_string.ensures ∙ c.in_ok-format.ensures.ok
    ∙ around_two (codes "Version ") (decimal c.args.asked) (codes " is not the version of now: ") (decimal c.args.now) (codes ".")
