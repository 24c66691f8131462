use Rattle.json_laws.proofs.TextsBack.{addresses, fours, group_names, ids, macs, owners, ports, prefixes, projects, segments, targets, texts}
use Rattle.json_laws.proofs.WordsBack.{actions, directions, ethertypes, flags, modes, types}
use Rattle.json_laws.proofs.ListsBack.{groups_back, hosts_back, pools_back, routes_back, servers_back}
use Rattle.json_laws.proofs.PrefixBack.{remotes}
use Rattle.json_laws.proofs.ProtocolBack.{protocols}
use Rattle.json_laws.proofs.values_read_back.Goals as goal

pub returns-clause-texts : goal.returns-clause-texts
returns-clause-texts c = texts

pub returns-clause-group_names : goal.returns-clause-group_names
returns-clause-group_names c = group_names

pub returns-clause-owners : goal.returns-clause-owners
returns-clause-owners c = owners

pub returns-clause-projects : goal.returns-clause-projects
returns-clause-projects c = projects

pub returns-clause-targets : goal.returns-clause-targets
returns-clause-targets c = targets

pub returns-clause-ids : goal.returns-clause-ids
returns-clause-ids c = ids

pub returns-clause-addresses : goal.returns-clause-addresses
returns-clause-addresses c = addresses

pub returns-clause-fours : goal.returns-clause-fours
returns-clause-fours c = fours

pub returns-clause-macs : goal.returns-clause-macs
returns-clause-macs c = macs

pub returns-clause-prefixes : goal.returns-clause-prefixes
returns-clause-prefixes c = prefixes

pub returns-clause-segments : goal.returns-clause-segments
returns-clause-segments c = segments

pub returns-clause-ports : goal.returns-clause-ports
returns-clause-ports c = ports

pub returns-clause-flags : goal.returns-clause-flags
returns-clause-flags c = flags

pub returns-clause-types : goal.returns-clause-types
returns-clause-types c = types

pub returns-clause-directions : goal.returns-clause-directions
returns-clause-directions c = directions

pub returns-clause-ethertypes : goal.returns-clause-ethertypes
returns-clause-ethertypes c = ethertypes

pub returns-clause-actions : goal.returns-clause-actions
returns-clause-actions c = actions

pub returns-clause-modes : goal.returns-clause-modes
returns-clause-modes c = modes

pub returns-clause-pools : goal.returns-clause-pools
returns-clause-pools c = pools_back

pub returns-clause-name_servers : goal.returns-clause-name_servers
returns-clause-name_servers c = servers_back

pub returns-clause-host_routes : goal.returns-clause-host_routes
returns-clause-host_routes c = hosts_back

pub returns-clause-router_routes : goal.returns-clause-router_routes
returns-clause-router_routes c = routes_back

pub returns-clause-groups : goal.returns-clause-groups
returns-clause-groups c = groups_back

pub returns-clause-remotes : goal.returns-clause-remotes
returns-clause-remotes c = remotes

pub returns-clause-protocols : goal.returns-clause-protocols
returns-clause-protocols c = protocols
