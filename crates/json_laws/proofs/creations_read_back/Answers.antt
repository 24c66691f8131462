use Rattle.json_laws.proofs.CreationsBack.{network_again, subnet_again, port_again, group_again, rule_again, router_again, floating_again, policy_again}
use Rattle.json_laws.proofs.creations_read_back.Goals as goal

pub returns-clause-networks : goal.returns-clause-networks
returns-clause-networks c = network_again

pub returns-clause-subnets : goal.returns-clause-subnets
returns-clause-subnets c = subnet_again

pub returns-clause-ports : goal.returns-clause-ports
returns-clause-ports c = port_again

pub returns-clause-groups : goal.returns-clause-groups
returns-clause-groups c = group_again

pub returns-clause-rules : goal.returns-clause-rules
returns-clause-rules c = rule_again

pub returns-clause-routers : goal.returns-clause-routers
returns-clause-routers c = router_again

pub returns-clause-floatings : goal.returns-clause-floatings
returns-clause-floatings c = floating_again

pub returns-clause-policies : goal.returns-clause-policies
returns-clause-policies c = policy_again
