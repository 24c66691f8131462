use Rattle.std.proofs.Common.{[], ◌≡◌, ◌∙◌, ap, sym}
use Rattle.std.specs.Prelude.{◌&&◌}
use Rattle.api_types.specs.Printed.{NewRow}
use Rattle.call_parts.specs.InForm.{has_needed, is_there}
use Rattle.api_types.proofs.ListLemmas.{and_both}
use Rattle.plan_networks.specs.NetworkCalls.{network_created, network_shown}
use Rattle.plan_subnets.specs.SubnetCalls.{subnet_created, subnet_shown}
use Rattle.plan_ports.specs.PortCalls.{port_created, port_shown}
use Rattle.plan_groups.specs.GroupCalls.{group_created, group_shown, rule_created, rule_shown}
use Rattle.plan_routers.specs.RouterCalls.{router_created, router_shown}
use Rattle.plan_floatings.specs.FloatingCalls.{floating_created, floating_shown}
use Rattle.plan_policies.specs.PolicyCalls.{policy_created, policy_shown}
use Rattle.api_machine.proofs.Drafted.{led_ok}
use Rattle.api_machine.proofs.calls.create.Goals as goal

pub returns-in_ok-create_network-in-Network-clause-ok : goal.returns-in_ok-create_network-in-Network-clause-ok
returns-in_ok-create_network-in-Network-clause-ok c =
    let asking = c.args.asking.now in
    let made = c.in_ok-create_network-in-Network in
    rw c.in-Network.is (led_ok asking.state (network_created asking.settings asking.state asking.caller c.in-Network.form) made.field-0.draft (λ after. NewRow (network_shown after asking.caller made.field-0.row []))
    c.plan_creation.result made.ensures.ok c.plan_creation.ensures.ok)

pub returns-in_ok-create_subnet-in-Subnet-clause-ok : goal.returns-in_ok-create_subnet-in-Subnet-clause-ok
returns-in_ok-create_subnet-in-Subnet-clause-ok c =
    let asking = c.args.asking.now in
    let made = c.in_ok-create_subnet-in-Subnet in
    rw c.in-Subnet.is (led_ok asking.state (subnet_created asking.settings asking.state asking.caller c.in-Subnet.form) made.field-0.draft (λ after. NewRow (subnet_shown after asking.caller made.field-0.row []))
    c.plan_creation-in-Subnet.result made.ensures.ok c.plan_creation-in-Subnet.ensures.ok)

pub returns-in_ok-create_port-in-Port-clause-ok : goal.returns-in_ok-create_port-in-Port-clause-ok
returns-in_ok-create_port-in-Port-clause-ok c =
    let asking = c.args.asking.now in
    let made = c.in_ok-create_port-in-Port in
    rw c.in-Port.is (led_ok asking.state (port_created asking.settings asking.state asking.caller c.in-Port.form) made.field-0.draft (λ after. NewRow (port_shown after asking.caller made.field-0.row []))
    c.plan_creation-in-Port.result made.ensures.ok c.plan_creation-in-Port.ensures.ok)

pub returns-in_ok-create_group-in-Group-clause-ok : goal.returns-in_ok-create_group-in-Group-clause-ok
returns-in_ok-create_group-in-Group-clause-ok c =
    let asking = c.args.asking.now in
    let made = c.in_ok-create_group-in-Group in
    rw c.in-Group.is (led_ok asking.state (group_created asking.settings asking.state asking.caller c.in-Group.form) made.field-0.draft (λ after. NewRow (group_shown after asking.caller made.field-0.row []))
    c.plan_creation-in-Group.result made.ensures.ok c.plan_creation-in-Group.ensures.ok)

pub returns-in_ok-create_rule-in-Rule-clause-ok : goal.returns-in_ok-create_rule-in-Rule-clause-ok
returns-in_ok-create_rule-in-Rule-clause-ok c =
    let asking = c.args.asking.now in
    let made = c.in_ok-create_rule-in-Rule in
    rw c.in-Rule.is (led_ok asking.state (rule_created asking.settings asking.state asking.caller c.in-Rule.form) made.field-0.draft (λ after. NewRow (rule_shown after asking.caller made.field-0.row []))
    c.plan_creation-in-Rule.result made.ensures.ok c.plan_creation-in-Rule.ensures.ok)

pub returns-in_ok-create_router-in-Router-clause-ok : goal.returns-in_ok-create_router-in-Router-clause-ok
returns-in_ok-create_router-in-Router-clause-ok c =
    let asking = c.args.asking.now in
    let made = c.in_ok-create_router-in-Router in
    rw c.in-Router.is (led_ok asking.state (router_created asking.settings asking.state asking.caller c.in-Router.form) made.field-0.draft (λ after. NewRow (router_shown after asking.caller made.field-0.row []))
    c.plan_creation-in-Router.result made.ensures.ok c.plan_creation-in-Router.ensures.ok)

pub returns-in_ok-create_floating-in-Floating-clause-ok : goal.returns-in_ok-create_floating-in-Floating-clause-ok
returns-in_ok-create_floating-in-Floating-clause-ok c =
    let asking = c.args.asking.now in
    let made = c.in_ok-create_floating-in-Floating in
    rw c.in-Floating.is (led_ok asking.state (floating_created asking.settings asking.state asking.caller c.in-Floating.form) made.field-0.draft (λ after. NewRow (floating_shown after asking.caller made.field-0.row []))
    c.plan_creation-in-Floating.result made.ensures.ok c.plan_creation-in-Floating.ensures.ok)

pub returns-in_ok-create_policy-in-Policy-clause-ok : goal.returns-in_ok-create_policy-in-Policy-clause-ok
returns-in_ok-create_policy-in-Policy-clause-ok c =
    let asking = c.args.asking.now in
    let made = c.in_ok-create_policy-in-Policy in
    rw c.in-Policy.is (led_ok asking.state (policy_created asking.settings asking.state asking.caller c.in-Policy.form) made.field-0.draft (λ after. NewRow (policy_shown after asking.caller made.field-0.row []))
    c.plan_creation-in-Policy.result made.ensures.ok c.plan_creation-in-Policy.ensures.ok)

pub create_subnet-requires-clause-cidr : goal.create_subnet-requires-clause-cidr
create_subnet-requires-clause-cidr c =
    (and_both (is_there c.in-Subnet.form.network_id && is_there c.in-Subnet.form.ip_version) (is_there c.in-Subnet.form.cidr)
    (sym (ap has_needed c.in-Subnet.is) ∙ c.requires.needed)).1
