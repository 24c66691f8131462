use Rattle.std.proofs.Common.{[]}
use Rattle.api_types.specs.Printed.{OneRow}
use Rattle.plan_networks.specs.NetworkCalls.{network_shown, network_updated}
use Rattle.plan_subnets.specs.SubnetCalls.{subnet_shown, subnet_updated}
use Rattle.plan_ports.specs.PortCalls.{port_shown, port_updated}
use Rattle.plan_groups.specs.GroupCalls.{group_shown, group_updated}
use Rattle.plan_routers.specs.RouterCalls.{router_shown, router_updated}
use Rattle.plan_floatings.specs.FloatingCalls.{floating_shown, floating_updated}
use Rattle.plan_policies.specs.PolicyCalls.{policy_shown, policy_updated}
use Rattle.api_machine.proofs.Drafted.{led_ok}
use Rattle.api_machine.proofs.calls.update.Goals as goal

pub returns-in_ok-update_network-in-Network-clause-ok : goal.returns-in_ok-update_network-in-Network-clause-ok
returns-in_ok-update_network-in-Network-clause-ok c =
    let asking = c.args.asking.now in
    let made = c.in_ok-update_network-in-Network in
    rw c.in-Network.is (led_ok asking.state (network_updated asking.state asking.caller c.args.name.now c.in-Network.form) made.field-0.draft (λ after. OneRow (network_shown after asking.caller made.field-0.row []))
    c.plan_update.result made.ensures.ok c.plan_update.ensures.ok)

pub returns-in_ok-update_subnet-in-Subnet-clause-ok : goal.returns-in_ok-update_subnet-in-Subnet-clause-ok
returns-in_ok-update_subnet-in-Subnet-clause-ok c =
    let asking = c.args.asking.now in
    let made = c.in_ok-update_subnet-in-Subnet in
    rw c.in-Subnet.is (led_ok asking.state (subnet_updated asking.settings asking.state asking.caller c.args.name.now c.in-Subnet.form) made.field-0.draft (λ after. OneRow (subnet_shown after asking.caller made.field-0.row []))
    c.plan_update-in-Subnet.result made.ensures.ok c.plan_update-in-Subnet.ensures.ok)

pub returns-in_ok-update_port-in-Port-clause-ok : goal.returns-in_ok-update_port-in-Port-clause-ok
returns-in_ok-update_port-in-Port-clause-ok c =
    let asking = c.args.asking.now in
    let made = c.in_ok-update_port-in-Port in
    rw c.in-Port.is (led_ok asking.state (port_updated asking.settings asking.state asking.caller c.args.name.now c.in-Port.form) made.field-0.draft (λ after. OneRow (port_shown after asking.caller made.field-0.row []))
    c.plan_update-in-Port.result made.ensures.ok c.plan_update-in-Port.ensures.ok)

pub returns-in_ok-update_group-in-Group-clause-ok : goal.returns-in_ok-update_group-in-Group-clause-ok
returns-in_ok-update_group-in-Group-clause-ok c =
    let asking = c.args.asking.now in
    let made = c.in_ok-update_group-in-Group in
    rw c.in-Group.is (led_ok asking.state (group_updated asking.state asking.caller c.args.name.now c.in-Group.form) made.field-0.draft (λ after. OneRow (group_shown after asking.caller made.field-0.row []))
    c.plan_update-in-Group.result made.ensures.ok c.plan_update-in-Group.ensures.ok)

pub returns-in_ok-update_router-in-Router-clause-ok : goal.returns-in_ok-update_router-in-Router-clause-ok
returns-in_ok-update_router-in-Router-clause-ok c =
    let asking = c.args.asking.now in
    let made = c.in_ok-update_router-in-Router in
    rw c.in-Router.is (led_ok asking.state (router_updated asking.settings asking.state asking.caller c.args.name.now c.in-Router.form) made.field-0.draft (λ after. OneRow (router_shown after asking.caller made.field-0.row []))
    c.plan_update-in-Router.result made.ensures.ok c.plan_update-in-Router.ensures.ok)

pub returns-in_ok-update_floating-in-Floating-clause-ok : goal.returns-in_ok-update_floating-in-Floating-clause-ok
returns-in_ok-update_floating-in-Floating-clause-ok c =
    let asking = c.args.asking.now in
    let made = c.in_ok-update_floating-in-Floating in
    rw c.in-Floating.is (led_ok asking.state (floating_updated asking.state asking.caller c.args.name.now c.in-Floating.form) made.field-0.draft (λ after. OneRow (floating_shown after asking.caller made.field-0.row []))
    c.plan_update-in-Floating.result made.ensures.ok c.plan_update-in-Floating.ensures.ok)

pub returns-in_ok-update_policy-in-Policy-clause-ok : goal.returns-in_ok-update_policy-in-Policy-clause-ok
returns-in_ok-update_policy-in-Policy-clause-ok c =
    let asking = c.args.asking.now in
    let made = c.in_ok-update_policy-in-Policy in
    rw c.in-Policy.is (led_ok asking.state (policy_updated asking.state asking.caller c.args.name.now c.in-Policy.form) made.field-0.draft (λ after. OneRow (policy_shown after asking.caller made.field-0.row []))
    c.plan_update-in-Policy.result made.ensures.ok c.plan_update-in-Policy.ensures.ok)
