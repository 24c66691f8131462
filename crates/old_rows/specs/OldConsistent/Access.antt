-- A port is on a network that its project may use.
use Rattle.std.specs.Prelude.{◌||◌, Bool}
use Rattle.api_types.specs.Lists.{Pass, is_empty}
use Rattle.api_types.specs.Sharing.{is_shared_with}
use Rattle.api_types.specs.Consistent.InForm.{is_network_of}
use Rattle.old_rows.specs.OldLists.{OldLists}
use Rattle.old_rows.specs.declared.port.OldPort.{OldPort}

-- its project is the empty one or owns the network, or an administrator made the port, or the
-- network is shared with the project
abbrev pub may_be_there : OldLists → OldPort → Bool
may_be_there old p =
    is_empty p.project
    || (p.by_admin
    || (is_shared_with old.policies p.network p.project
    || is_network_of old.networks p.project p.network))

pub record PortsAreAllowed (old : OldLists) : Type 0 where
  pub of_ports : Pass (may_be_there old) old.ports
