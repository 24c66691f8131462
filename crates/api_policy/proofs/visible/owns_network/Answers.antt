use Rattle.std.proofs.Common.{◌∙◌, ap}
use Rattle.std.specs.Str.{bytes_eq}
use Rattle.api_types.specs.Lists.{stands_so}
use Rattle.api_types.specs.declared.network.NetworkRow.{NetworkRow}
use Rattle.api_policy.proofs.FoundLemmas.{found_some, found_none}
use Rattle.api_policy.proofs.visible.owns_network.Goals as goal

pub returns-in-Some : goal.returns-in-Some
returns-in-Some c =
    found_some (λ (n : NetworkRow). n.id) (λ (n : NetworkRow). bytes_eq n.project c.args.project.now) c.args.network c.networks-networks.result.now c.in-Some.network.now c.eq.result c.rows-own_ids.ensures.own_ids c.in-Some.ensures c.eq.ensures
    ∙ ap (stands_so (λ (n : NetworkRow). n.id) c.args.network (λ (n : NetworkRow). bytes_eq n.project c.args.project.now)) c.networks-networks.ensures

pub returns-in-None : goal.returns-in-None
returns-in-None c =
    found_none (λ (n : NetworkRow). n.id) (λ (n : NetworkRow). bytes_eq n.project c.args.project.now) c.args.network c.networks-networks.result.now c.rows-own_ids.ensures.own_ids c.in-None.ensures
    ∙ ap (stands_so (λ (n : NetworkRow). n.id) c.args.network (λ (n : NetworkRow). bytes_eq n.project c.args.project.now)) c.networks-networks.ensures
