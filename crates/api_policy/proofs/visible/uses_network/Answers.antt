use Rattle.std.proofs.Common.{◌∙◌, ap}
use Rattle.std.specs.Prelude.{◌||◌}
use Rattle.std.specs.Str.{bytes_eq}
use Rattle.api_types.specs.Lists.{stands_so}
use Rattle.api_types.specs.Sharing.{is_shared_with}
use Rattle.api_types.specs.declared.network.NetworkRow.{NetworkRow}
use Rattle.api_policy.proofs.FoundLemmas.{found_some, found_none}
use Rattle.api_policy.proofs.visible.uses_network.Goals as goal

pub returns-then-eq : goal.returns-then-eq
returns-then-eq c =
    found_some (λ (n : NetworkRow). n.id) (λ (n : NetworkRow). bytes_eq n.project c.args.project.now || is_shared_with c.args.rows.now.policies n.id c.args.project.now) c.args.network c.networks-networks.result.now c.in-Some.network.now c.eq.result c.rows-own_ids.ensures.own_ids c.in-Some.ensures
    (c.if-eq.true ∙ ap (λ b. b || is_shared_with c.args.rows.now.policies c.in-Some.network.now.id c.args.project.now) c.if-eq.ensures)
    ∙ ap (stands_so (λ (n : NetworkRow). n.id) c.args.network (λ (n : NetworkRow). bytes_eq n.project c.args.project.now || is_shared_with c.args.rows.now.policies n.id c.args.project.now)) c.networks-networks.ensures

pub returns-else-eq : goal.returns-else-eq
returns-else-eq c =
    found_some (λ (n : NetworkRow). n.id) (λ (n : NetworkRow). bytes_eq n.project c.args.project.now || is_shared_with c.args.rows.now.policies n.id c.args.project.now) c.args.network c.networks-networks.result.now c.in-Some.network.now c.is_shared_with.result c.rows-own_ids.ensures.own_ids c.in-Some.ensures
    (c.is_shared_with.ensures ∙ ap (λ b. b || is_shared_with c.args.rows.now.policies c.in-Some.network.now.id c.args.project.now) c.if-eq.ensures)
    ∙ ap (stands_so (λ (n : NetworkRow). n.id) c.args.network (λ (n : NetworkRow). bytes_eq n.project c.args.project.now || is_shared_with c.args.rows.now.policies n.id c.args.project.now)) c.networks-networks.ensures

pub returns-in-None : goal.returns-in-None
returns-in-None c =
    found_none (λ (n : NetworkRow). n.id) (λ (n : NetworkRow). bytes_eq n.project c.args.project.now || is_shared_with c.args.rows.now.policies n.id c.args.project.now) c.args.network c.networks-networks.result.now c.rows-own_ids.ensures.own_ids c.in-None.ensures
    ∙ ap (stands_so (λ (n : NetworkRow). n.id) c.args.network (λ (n : NetworkRow). bytes_eq n.project c.args.project.now || is_shared_with c.args.rows.now.policies n.id c.args.project.now)) c.networks-networks.ensures
