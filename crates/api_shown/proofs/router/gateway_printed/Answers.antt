use Rattle.std.proofs.Common.{ap, ◌∙◌, map, [], ◌∷◌}
use Rattle.std.specs.Prelude.{codes}
use Rattle.api_types.specs.Printed.{branches_of, member_of, object, truth}
use Rattle.api_policy.specs.Trees.{id_word}
use Rattle.api_shown.proofs.ListLemmas.{grown}
use Rattle.api_shown.proofs.router.gateway_printed.Goals as goal

pub returns : goal.returns
returns c =
    c.object_of.ensures
    ∙ ap (λ ms. object (branches_of ms)) (grown _ _ _ _ (grown _ _ _ _ (grown _ _ _ _ (ap (map member_of) c.new-all.ensures) c.in_ok-push.ensures) c.in_ok-push_value.ensures) c.in_ok-push-2.ensures)
    ∙ ap (λ t. object (branches_of ((codes "enable_snat", truth c.args.gateway.now.snat) ∷ (codes "external_fixed_ips", t) ∷ (codes "network_id", id_word c.args.gateway.now.network) ∷ []))) c.in_ok-addresses.ensures
