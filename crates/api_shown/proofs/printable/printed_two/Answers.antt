use Rattle.std.proofs.Common.{ap, ◌∙◌, map}
use Rattle.api_types.specs.Printed.{branches_of, member_of, object}
use Rattle.api_shown.proofs.ListLemmas.{grown}
use Rattle.api_shown.proofs.printable.printed_two.Goals as goal

pub returns : goal.returns
returns g c =
    c.object_of.ensures
    ∙ ap (λ ms. object (branches_of ms)) (grown _ _ _ _ (grown _ _ _ _ (ap (map member_of) c.new-members.ensures) c.in_ok-push.ensures) c.in_ok-push-2.ensures)
