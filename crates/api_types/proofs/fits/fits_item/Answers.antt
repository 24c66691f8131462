use Rattle.api_types.proofs.KindLemmas.{project_item, project_items, network_item, network_items, subnet_item, subnet_items, port_item, port_items, group_item, group_items, rule_item, rule_items, router_item, router_items, floating_item, floating_items, policy_item, policy_items}
use Rattle.api_types.proofs.fits.fits_item.Goals as goal

pub fits_table-requires : goal.fits_table-requires
fits_table-requires c = project_items c.args.rows.now c.args.earlier.now c.projects.result.now c.projects.ensures c.requires

pub returns-in-Project : goal.returns-in-Project
returns-in-Project c = project_item c.args.rows.now c.args.earlier.now c.args.item.now c.projects.result.now c.fits_table.result c.projects.ensures c.in-Project.is c.fits_table.ensures

pub fits_table-requires-in-Network : goal.fits_table-requires-in-Network
fits_table-requires-in-Network c = network_items c.args.rows.now c.args.earlier.now c.networks.result.now c.networks.ensures c.requires

pub returns-in-Network : goal.returns-in-Network
returns-in-Network c = network_item c.args.rows.now c.args.earlier.now c.args.item.now c.networks.result.now c.fits_table-in-Network.result c.networks.ensures c.in-Network.is c.fits_table-in-Network.ensures

pub fits_table-requires-in-Subnet : goal.fits_table-requires-in-Subnet
fits_table-requires-in-Subnet c = subnet_items c.args.rows.now c.args.earlier.now c.subnets.result.now c.subnets.ensures c.requires

pub returns-in-Subnet : goal.returns-in-Subnet
returns-in-Subnet c = subnet_item c.args.rows.now c.args.earlier.now c.args.item.now c.subnets.result.now c.fits_table-in-Subnet.result c.subnets.ensures c.in-Subnet.is c.fits_table-in-Subnet.ensures

pub fits_table-requires-in-Port : goal.fits_table-requires-in-Port
fits_table-requires-in-Port c = port_items c.args.rows.now c.args.earlier.now c.ports.result.now c.ports.ensures c.requires

pub returns-in-Port : goal.returns-in-Port
returns-in-Port c = port_item c.args.rows.now c.args.earlier.now c.args.item.now c.ports.result.now c.fits_table-in-Port.result c.ports.ensures c.in-Port.is c.fits_table-in-Port.ensures

pub fits_table-requires-in-Group : goal.fits_table-requires-in-Group
fits_table-requires-in-Group c = group_items c.args.rows.now c.args.earlier.now c.groups.result.now c.groups.ensures c.requires

pub returns-in-Group : goal.returns-in-Group
returns-in-Group c = group_item c.args.rows.now c.args.earlier.now c.args.item.now c.groups.result.now c.fits_table-in-Group.result c.groups.ensures c.in-Group.is c.fits_table-in-Group.ensures

pub fits_table-requires-in-Rule : goal.fits_table-requires-in-Rule
fits_table-requires-in-Rule c = rule_items c.args.rows.now c.args.earlier.now c.rules.result.now c.rules.ensures c.requires

pub returns-in-Rule : goal.returns-in-Rule
returns-in-Rule c = rule_item c.args.rows.now c.args.earlier.now c.args.item.now c.rules.result.now c.fits_table-in-Rule.result c.rules.ensures c.in-Rule.is c.fits_table-in-Rule.ensures

pub fits_table-requires-in-Router : goal.fits_table-requires-in-Router
fits_table-requires-in-Router c = router_items c.args.rows.now c.args.earlier.now c.routers.result.now c.routers.ensures c.requires

pub returns-in-Router : goal.returns-in-Router
returns-in-Router c = router_item c.args.rows.now c.args.earlier.now c.args.item.now c.routers.result.now c.fits_table-in-Router.result c.routers.ensures c.in-Router.is c.fits_table-in-Router.ensures

pub fits_table-requires-in-Floating : goal.fits_table-requires-in-Floating
fits_table-requires-in-Floating c = floating_items c.args.rows.now c.args.earlier.now c.floatings.result.now c.floatings.ensures c.requires

pub returns-in-Floating : goal.returns-in-Floating
returns-in-Floating c = floating_item c.args.rows.now c.args.earlier.now c.args.item.now c.floatings.result.now c.fits_table-in-Floating.result c.floatings.ensures c.in-Floating.is c.fits_table-in-Floating.ensures

pub fits_table-requires-in-Policy : goal.fits_table-requires-in-Policy
fits_table-requires-in-Policy c = policy_items c.args.rows.now c.args.earlier.now c.policies.result.now c.policies.ensures c.requires

pub returns-in-Policy : goal.returns-in-Policy
returns-in-Policy c = policy_item c.args.rows.now c.args.earlier.now c.args.item.now c.policies.result.now c.fits_table-in-Policy.result c.policies.ensures c.in-Policy.is c.fits_table-in-Policy.ensures
