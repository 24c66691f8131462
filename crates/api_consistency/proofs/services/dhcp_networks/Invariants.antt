use Rattle.std.proofs.Common.{◌≡◌, ◌++◌, drop}
use Rattle.std.specs.List.{filter_map}
use Rattle.api_consistency.specs.Keys.{of_dhcp}
use Rattle.api_consistency.proofs.services.dhcp_networks.Given as goal

-- those so far before those that are left
abbrev pub invariant-loop-port : goal.invariant-loop-port
invariant-loop-port l = l.networks.items ++ filter_map of_dhcp (drop l.port-index l.ports) ≡ filter_map of_dhcp l.ports
