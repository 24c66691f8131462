use Rattle.std.proofs.Common.{◌≡◌, ◌∙◌, ap, filter, map, subst}
use Rattle.std.specs.Prelude.{IfOk}
use Rattle.api_types.specs.HeldAddresses.{ports_on, subnets_on}
use Rattle.api_types.specs.Table.{ident_eq}
use Rattle.api_types.specs.declared.policy.PolicyRow.{PolicyRow}
use Rattle.api_types.specs.declared.port.PortRow.{PortRow}
use Rattle.api_types.specs.declared.subnet.SubnetRow.{SubnetRow}
use Rattle.api_types.specs.declared.kind.Kind.TheVariants.{Subnet as SubnetKind}
use Rattle.call_parts.specs.Edits.{Drop as DropRow, made}
use Rattle.plan_networks.proofs.EditLemmas.{gone_by_steps}
use Rattle.plan_networks.proofs.deletion.without_network.Goals as goal

pub returns-clause-rows : goal.returns-clause-rows
returns-clause-rows c =
    let rows = c.args.rows.now in
    let i = c.args.network in
    let subnets = c.as_slice.ensures ∙ c.in_ok-subnets.ensures ∙ ap (λ xs. map (λ (s : SubnetRow). s.id) (subnets_on xs i)) (c.rows.ensures.rows ∙ c.subnets.ensures) in
    let ports = c.as_slice-2.ensures ∙ c.in_ok-ports.ensures ∙ ap (λ xs. map (λ (p : PortRow). p.id) (ports_on xs i)) (c.rows-2.ensures.rows ∙ c.ports.ensures) in
    let policies = c.as_slice-3.ensures ∙ c.in_ok-policies.ensures ∙ ap (λ xs. map (λ (l : PolicyRow). l.id) (filter (λ (l : PolicyRow). ident_eq i l.object) xs)) (c.rows-3.ensures.rows ∙ c.policies.ensures) in
    let begun = c.in_ok-draft.ensures.rows in
    let is = gone_by_steps rows i c.as_slice.result.now c.as_slice-2.result.now c.as_slice-3.result.now c.in_ok-draft-2.draft.rows c.in_ok-draft-3.draft.rows c.in_ok-draft-4.draft.rows subnets ports policies
    (c.in_ok-draft-2.ensures.rows ∙ ap (λ r. made r (map (λ k. DropRow SubnetKind k) c.as_slice.result.now)) begun) c.in_ok-draft-3.ensures.rows c.in_ok-draft-4.ensures.rows in
    subst (λ r. IfOk c.drop_row.result (λ d. d.rows ≡ r)) is c.drop_row.ensures.rows
