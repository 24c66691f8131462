use Rattle.std.proofs.Common.{◌∙◌, ap}
use Rattle.api_ml2.specs.Binding.{bound}
use Rattle.api_policy.specs.Marked.{is_marked}
use Rattle.api_types.specs.Given.{value_or}
use Rattle.plan_ports.specs.PortCalls.{groups_at_first}
use Rattle.plan_ports.proofs.row.new_port.Goals as goal

-- attribute by attribute
pub returns : goal.returns
returns c =
    let form = c.args.form.now in
    let n = c.args.network.now in
    let owner = c.args.owner.now in
    let rows = c.args.rows.now in
    let secured = c.value_or-secured.result in
    let host_is = c.in_ok-host.ensures ∙ ap (λ t. value_or t form.binding_host_id) c.new-empty.ensures in
    let groups_are = c.rows-groups.ensures.rows ∙ c.groups.ensures in
    λ j. record {
      id = c.args.placed.id;
      project = c.in_ok-copy.ensures j;
      network = n.id;
      name = (c.in_ok-text_or.ensures ∙ ap (λ t. value_or t form.name) c.new-empty.ensures) j;
      description = (c.in_ok-text_or-2.ensures ∙ ap (λ t. value_or t form.description) c.new-empty.ensures) j;
      up = c.value_or.ensures j;
      mac = c.args.placed.mac;
      fixed = c.fixed.view_is j;
      pairs = c.in_ok-pairs_of.ensures j;
      secured = c.value_or-secured.ensures j;
      groups = (c.in_ok-groups_at_first.ensures ∙ (ap (λ groups. groups_at_first groups owner secured form.security_groups) groups_are
          ∙ ap (λ b. groups_at_first rows.groups owner b form.security_groups) c.value_or-secured.ensures)) j;
      device = (c.in_ok-text_or-3.ensures ∙ ap (λ t. value_or t form.device_id) c.new-empty.ensures) j;
      owner = (c.in_ok-text_or-4.ensures ∙ ap (λ t. value_or t form.device_owner) c.new-empty.ensures) j;
      host = host_is j;
      vif = (c.bind.ensures ∙ (λ k. bound (c.settings.ensures k) n.segment (host_is k))) j;
      by_admin = (c.is_marked.ensures ∙ (λ k. is_marked rows (c.caller.ensures k) owner n)) j;
    }
