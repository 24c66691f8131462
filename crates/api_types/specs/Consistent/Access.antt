-- A port is on a network that its project may use.
use Rattle.std.specs.Prelude.{◌||◌, Bool, List}
use Rattle.api_types.specs.Lists.{Pass, is_empty}
use Rattle.api_types.specs.Sharing.{is_shared_with}
use Rattle.api_types.specs.Consistent.InForm.{is_network_of}
use Rattle.api_types.specs.declared.network.NetworkRow.{NetworkRow}
use Rattle.api_types.specs.declared.port.PortRow.{PortRow}
use Rattle.api_types.specs.declared.policy.PolicyRow.{PolicyRow}

-- its project is the empty one or owns the network, or an administrator made the port, or the
-- network is shared with the project
abbrev pub may_be_there : List NetworkRow → List PolicyRow → PortRow → Bool
may_be_there networks policies p =
    is_empty p.project
    || (p.by_admin
    || (is_shared_with policies p.network p.project
    || is_network_of networks p.project p.network))

pub record PortsAreAllowed (networks : List NetworkRow) (ports : List PortRow)
    (policies : List PolicyRow) : Type 0 where
  pub of_ports : Pass (may_be_there networks policies) ports
