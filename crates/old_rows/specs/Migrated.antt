-- Old rows as rows of today: each address is of version 4, no subnet has a mode, and all else is
-- what it was.
use Rattle.std.specs.Prelude.{ℕ, map, Option, Some, None, option_map}
use Rattle.net_addr.specs.Prefixes.{Prefix, Span}
use Rattle.net_addr.specs.declared.address.Addr.{Addr}
use Rattle.net_addr.specs.declared.address.Addr.TheVariants.{V4, V6}
use Rattle.api_types.specs.RowLists.{RowLists}
use Rattle.api_types.specs.declared.subnet.Hop.{Hop}
use Rattle.api_types.specs.declared.subnet.SubnetRow.{SubnetRow}
use Rattle.api_types.specs.declared.port.Fixed.{Fixed}
use Rattle.api_types.specs.declared.port.Pair.{Pair}
use Rattle.api_types.specs.declared.port.PortRow.{PortRow}
use Rattle.api_types.specs.declared.group.RuleRow.{RuleRow}
use Rattle.api_types.specs.declared.router.RouterRow.{RouterRow}
use Rattle.old_rows.specs.Prefixes4.{Prefix as OldPrefix, Span as OldSpan}
use Rattle.old_rows.specs.OldLists.{OldLists}
use Rattle.old_rows.specs.declared.subnet.Hop4.{Hop4}
use Rattle.old_rows.specs.declared.subnet.OldSubnet.{OldSubnet}
use Rattle.old_rows.specs.declared.port.Fixed4.{Fixed4}
use Rattle.old_rows.specs.declared.port.Pair4.{Pair4}
use Rattle.old_rows.specs.declared.port.OldPort.{OldPort}
use Rattle.old_rows.specs.declared.rule.OldRule.{OldRule}
use Rattle.old_rows.specs.declared.router.OldRouter.{OldRouter}

abbrev pub migrated_address : ℕ → Addr
migrated_address n = V4 n

abbrev pub migrated_prefix : OldPrefix → Prefix
migrated_prefix p = record { base = V4 p.base; len = p.len }

abbrev pub migrated_span : OldSpan → Span
migrated_span s = record { first = V4 s.first; last = V4 s.last }

abbrev pub migrated_hop : Hop4 → Hop
migrated_hop h = record { destination = migrated_prefix h.destination; next = V4 h.next }

abbrev pub migrated_fixed : Fixed4 → Fixed
migrated_fixed f = record { subnet = f.subnet; address = V4 f.address }

abbrev pub migrated_pair : Pair4 → Pair
migrated_pair p = record { mac = p.mac; prefix = migrated_prefix p.prefix }

abbrev pub migrated_subnet : OldSubnet → SubnetRow
migrated_subnet s =
    record {
      id = s.id;
      project = s.project;
      network = s.network;
      name = s.name;
      description = s.description;
      prefix = migrated_prefix s.prefix;
      gateway = option_map migrated_address s.gateway;
      pools = map migrated_span s.pools;
      dhcp = s.dhcp;
      address_mode = None;
      ra_mode = None;
      dns = map migrated_address s.dns;
      host_routes = map migrated_hop s.host_routes;
    }

abbrev pub migrated_port : OldPort → PortRow
migrated_port p =
    record {
      id = p.id;
      project = p.project;
      network = p.network;
      name = p.name;
      description = p.description;
      up = p.up;
      mac = p.mac;
      fixed = map migrated_fixed p.fixed;
      pairs = map migrated_pair p.pairs;
      secured = p.secured;
      groups = p.groups;
      device = p.device;
      owner = p.owner;
      host = p.host;
      vif = p.vif;
      by_admin = p.by_admin;
    }

abbrev pub migrated_rule : OldRule → RuleRow
migrated_rule r =
    record {
      id = r.id;
      project = r.project;
      group = r.group;
      description = r.description;
      direction = r.direction;
      ethertype = r.ethertype;
      protocol = r.protocol;
      low = r.low;
      high = r.high;
      remote_prefix = option_map migrated_prefix r.remote_prefix;
      remote_group = r.remote_group;
    }

abbrev pub migrated_router : OldRouter → RouterRow
migrated_router r =
    record {
      id = r.id;
      project = r.project;
      name = r.name;
      description = r.description;
      up = r.up;
      host = r.host;
      gateway = r.gateway;
      routes = map migrated_hop r.routes;
    }

abbrev pub migrated : OldLists → RowLists
migrated old =
    record {
      projects = old.projects;
      networks = old.networks;
      subnets = map migrated_subnet old.subnets;
      ports = map migrated_port old.ports;
      groups = old.groups;
      rules = map migrated_rule old.rules;
      routers = map migrated_router old.routers;
      floatings = old.floatings;
      policies = old.policies;
    }

-- the prefix with this base and length, where it is of version 4
abbrev pub prefix_by : Addr → ℕ → Option OldPrefix
prefix_by (V4 n) len = Some (record { base = n; len = len })
prefix_by (V6 n) len = None

abbrev pub prefix_in : Prefix → Option OldPrefix
prefix_in p = prefix_by p.base p.len

-- the span with these ends, where it is of version 4
abbrev pub span_by : Addr → Addr → Option OldSpan
span_by (V4 m) (V4 n) = Some (record { first = m; last = n })
span_by _ _ = None

abbrev pub span_in : Span → Option OldSpan
span_in s = span_by s.first s.last
