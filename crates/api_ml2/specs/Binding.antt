-- How a port is bound to a host (Neutron's ML2 plug-in, mechanism drivers).
use Rattle.std.specs.Prelude.{◌&&◌, Bool, if◌then◌else◌}
use Rattle.std.specs.List.{list_any}
use Rattle.net_addr.specs.Words.{Text}
use Rattle.api_types.specs.Lists.{is_empty}
use Rattle.api_types.specs.declared.network.Segment.{Segment}
use Rattle.api_types.specs.declared.port.Vif.{Vif}
use Rattle.api_types.specs.declared.port.Vif.TheVariants.{Failed, Ovs, Unbound}
use Rattle.net_settings.specs.Drivers.{is_driver}
use Rattle.net_settings.specs.Settings.{SettingsParts}
use Rattle.net_settings.specs.declared.settings.Driver.TheVariants.{Openvswitch}
use Rattle.api_ml2.specs.Carrying.{carries}

-- the driver `openvswitch` binds where the host can carry the segment; `l2population` binds
-- nothing
abbrev pub binds : SettingsParts → Segment → Text → Bool
binds settings segment host =
    list_any (is_driver Openvswitch) settings.drivers && carries settings.hosts host segment

abbrev pub bound : SettingsParts → Segment → Text → Vif
bound settings segment host =
    if is_empty host then Unbound else if binds settings segment host then Ovs else Failed
