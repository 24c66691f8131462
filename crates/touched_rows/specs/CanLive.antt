-- Ports that are live where their network is up (Neutron's ML2 guide: a port is wired where it is
-- bound and both it and its network are administratively up).
use Rattle.std.specs.Prelude.{◌&&◌, Bool}
use Rattle.api_types.specs.Consistent.Carried.{is_bound}
use Rattle.api_types.specs.declared.port.PortRow.{PortRow}

-- a port is up, and Open vSwitch carries it
abbrev pub can_live : PortRow → Bool
can_live p = p.up && is_bound p.vif
