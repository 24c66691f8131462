-- The words by which messages and bodies name kinds of rows (Networking API v2.0: the resource and
-- collection names).
use Rattle.std.specs.Prelude.{codes}
use Rattle.net_addr.specs.Words.{Text}
use Rattle.api_types.specs.declared.kind.Kind.{Kind}
use Rattle.api_types.specs.declared.kind.Kind.TheVariants.{Project, Network, Subnet, Port, Group, Rule, Router, Floating, Policy}

-- the word of messages
abbrev pub title_of : Kind → Text
title_of Project = codes "Project"
title_of Network = codes "Network"
title_of Subnet = codes "Subnet"
title_of Port = codes "Port"
title_of Group = codes "SecurityGroup"
title_of Rule = codes "SecurityGroupRule"
title_of Router = codes "Router"
title_of Floating = codes "FloatingIP"
title_of Policy = codes "RbacPolicy"

-- the member of a body that holds one row
abbrev pub resource_of : Kind → Text
resource_of Project = codes "project"
resource_of Network = codes "network"
resource_of Subnet = codes "subnet"
resource_of Port = codes "port"
resource_of Group = codes "security_group"
resource_of Rule = codes "security_group_rule"
resource_of Router = codes "router"
resource_of Floating = codes "floatingip"
resource_of Policy = codes "rbac_policy"

-- the member of a body that holds rows
abbrev pub collection_of : Kind → Text
collection_of Project = codes "projects"
collection_of Network = codes "networks"
collection_of Subnet = codes "subnets"
collection_of Port = codes "ports"
collection_of Group = codes "security_groups"
collection_of Rule = codes "security_group_rules"
collection_of Router = codes "routers"
collection_of Floating = codes "floatingips"
collection_of Policy = codes "rbac_policies"
