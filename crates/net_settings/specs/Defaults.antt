-- The settings that hold where nothing is said.
use Rattle.std.specs.Prelude.{Bool, true, false, List, [], ◌∷◌, codes}
use Rattle.net_addr.specs.Words.{Text}
use Rattle.net_settings.specs.declared.settings.Driver.{Driver}
use Rattle.net_settings.specs.declared.settings.Driver.TheVariants.{Openvswitch, L2population}
use Rattle.net_settings.specs.declared.settings.Limit.TheVariants.{AtMost}
use Rattle.net_settings.specs.declared.settings.Quotas.{Quotas}
use Rattle.net_settings.specs.declared.settings.Host.{Host}
use Rattle.net_settings.specs.Settings.{SettingsParts}

abbrev pub default_drivers : List Driver
default_drivers = Openvswitch ∷ L2population ∷ []

abbrev pub default_quotas : Quotas
default_quotas = record {
  network = AtMost 100;
  subnet = AtMost 100;
  port = AtMost 500;
  router = AtMost 10;
  floatingip = AtMost 50;
  security_group = AtMost 10;
  security_group_rule = AtMost 100;
  rbac_policy = AtMost 10;
}

-- a host on `physnet1`; routers and DHCP ports stand on a central one
abbrev pub default_host : Text → Bool → Host
default_host name central = record {
  name = name;
  physical = codes "physnet1" ∷ [];
  vxlan = true;
  l3 = central;
  dhcp = central;
}

abbrev pub default_hosts : List Host
default_hosts = default_host (codes "c1") true ∷ default_host (codes "c2") false ∷ []

abbrev pub default_parts : SettingsParts
default_parts = record {
  drivers = default_drivers;
  vxlan_first = 1;
  vxlan_last = 1000;
  quotas = default_quotas;
  hosts = default_hosts;
}
