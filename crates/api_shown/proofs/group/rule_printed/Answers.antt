use Rattle.std.proofs.Common.{ap, ◌∙◌}
use Rattle.api_types.specs.Printed.{branches_of, object}
use Rattle.api_shown.proofs.group.rule_printed.Goals as goal

pub returns : goal.returns
returns c = c.object_of.ensures ∙ ap (λ ms. object (branches_of ms)) c.in_ok-members.ensures
