-- Which segments a host can carry: a local one always, a flat or vlan one where it is wired to the
-- physical network, a vxlan one where it has tunnels (Neutron ML2 guide, provider networks).
use Rattle.std.specs.Prelude.{◌&&◌, Bool, true, List}
use Rattle.std.specs.List.{list_any}
use Rattle.std.specs.Str.{bytes_eq}
use Rattle.net_addr.specs.Words.{Text}
use Rattle.api_types.specs.declared.network.Segment.{Segment}
use Rattle.api_types.specs.declared.network.Segment.TheVariants.{Local, Flat, Vlan, Vxlan}
use Rattle.net_settings.specs.declared.settings.Host.{Host}

abbrev pub can_carry : Host → Segment → Bool
can_carry host Local = true
can_carry host (Flat physical) = list_any (bytes_eq physical) host.physical
can_carry host (Vlan physical tag) = list_any (bytes_eq physical) host.physical
can_carry host (Vxlan number) = host.vxlan

-- whether a host of this name is there that can carry the segment
abbrev pub carries : List Host → Text → Segment → Bool
carries hosts name segment = list_any (λ h. bytes_eq h.name name && can_carry h segment) hosts
