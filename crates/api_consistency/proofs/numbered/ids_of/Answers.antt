use Rattle.std.proofs.Common.{◌≡◌, ◌∙◌, ◌++◌, map}
use Rattle.api_consistency.specs.Keys.{of_id}
use Rattle.api_consistency.proofs.numbered.ids_of.Goals as goal

-- one kind after the other
pub returns : goal.returns
returns c =
    let networks : c.rows.result.now ≡ c.args.rows.now.networks = c.rows.ensures.rows ∙ c.networks.ensures in
    let subnets : c.rows-2.result.now ≡ c.args.rows.now.subnets = c.rows-2.ensures.rows ∙ c.subnets.ensures in
    let ports : c.rows-3.result.now ≡ c.args.rows.now.ports = c.rows-3.ensures.rows ∙ c.ports.ensures in
    let groups : c.rows-4.result.now ≡ c.args.rows.now.groups = c.rows-4.ensures.rows ∙ c.groups.ensures in
    let rules : c.rows-5.result.now ≡ c.args.rows.now.rules = c.rows-5.ensures.rows ∙ c.rules.ensures in
    let routers : c.rows-6.result.now ≡ c.args.rows.now.routers = c.rows-6.ensures.rows ∙ c.routers.ensures in
    let floatings : c.rows-7.result.now ≡ c.args.rows.now.floatings = c.rows-7.ensures.rows ∙ c.floatings.ensures in
    let policies : c.rows-8.result.now ≡ c.args.rows.now.policies = c.rows-8.ensures.rows ∙ c.policies.ensures in
    let to_networks = c.in_ok-add_ids.ensures ∙ (λ j. c.new-ids.ensures.items j ++ map (λ r. of_id r.id) (networks j)) in
    let to_subnets = c.in_ok-add_ids-2.ensures ∙ (λ j. to_networks j ++ map (λ r. of_id r.id) (subnets j)) in
    let to_ports = c.in_ok-add_ids-3.ensures ∙ (λ j. to_subnets j ++ map (λ r. of_id r.id) (ports j)) in
    let to_groups = c.in_ok-add_ids-4.ensures ∙ (λ j. to_ports j ++ map (λ r. of_id r.id) (groups j)) in
    let to_rules = c.in_ok-add_ids-5.ensures ∙ (λ j. to_groups j ++ map (λ r. of_id r.id) (rules j)) in
    let to_routers = c.in_ok-add_ids-6.ensures ∙ (λ j. to_rules j ++ map (λ r. of_id r.id) (routers j)) in
    let to_floatings = c.in_ok-add_ids-7.ensures ∙ (λ j. to_routers j ++ map (λ r. of_id r.id) (floatings j)) in
    c.in_ok-add_ids-8.ensures ∙ (λ j. to_floatings j ++ map (λ r. of_id r.id) (policies j))
