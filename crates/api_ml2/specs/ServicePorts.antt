-- Ports that come along with other rows: of routers, of DHCP and of floating addresses. They have
-- no port security.
use Rattle.api_ml2.specs.Binding.{bound}
use Rattle.api_types.specs.Ident.{Ident}
use Rattle.api_types.specs.declared.network.NetworkRow.{NetworkRow}
use Rattle.api_types.specs.declared.port.Fixed.{Fixed}
use Rattle.api_types.specs.declared.port.PortRow.{PortRow}
use Rattle.net_settings.specs.Settings.{SettingsParts}
use Rattle.std.specs.Prelude.{List, [], codes, false, true}
use Rattle.net_addr.specs.Words.{MacAddress, Text}

abbrev pub dhcp_owner : Text
dhcp_owner = codes "network:dhcp"

abbrev pub interface_owner : Text
interface_owner = codes "network:router_interface"

abbrev pub gateway_owner : Text
gateway_owner = codes "network:router_gateway"

abbrev pub floating_owner : Text
floating_owner = codes "network:floatingip"

-- of a project, on a network, bound to a host by the drivers
abbrev pub service_port : SettingsParts → NetworkRow → Ident → Text → MacAddress → List Fixed
    → Text → Text → Text → PortRow
service_port settings n i project mac fixed owner device host = record {
  id = i;
  project = project;
  network = n.id;
  name = [];
  description = [];
  up = true;
  mac = mac;
  fixed = fixed;
  pairs = [];
  secured = false;
  groups = [];
  device = device;
  owner = owner;
  host = host;
  vif = bound settings n.segment host;
  by_admin = false;
}
