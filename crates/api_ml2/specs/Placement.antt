-- On which hosts routers and DHCP ports stand.
use Rattle.api_ml2.specs.Carrying.{can_carry}
use Rattle.api_types.specs.declared.network.Segment.{Segment}
use Rattle.net_settings.specs.Settings.{SettingsParts}
use Rattle.net_settings.specs.declared.settings.Host.{Host}
use Rattle.std.specs.Prelude.{Option, [], find, option_map, unwrap_or, ◌&&◌}
use Rattle.net_addr.specs.Words.{Text}

-- the first host with `l3`
abbrev pub router_host : SettingsParts → Option Text
router_host settings = option_map (λ (h : Host). h.name) (find (λ (h : Host). h.l3) settings.hosts)

-- the first host with `dhcp` that can carry the segment
abbrev pub dhcp_host : SettingsParts → Segment → Option Text
dhcp_host settings segment =
    option_map (λ (h : Host). h.name)
    (find (λ (h : Host). h.dhcp && can_carry h segment) settings.hosts)

-- a port's host is the empty text where it has none
abbrev pub host_or_none : Option Text → Text
host_or_none host = unwrap_or host []
