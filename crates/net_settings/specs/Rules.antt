-- The rules that all settings meet.
use Rattle.std.specs.Prelude.{◌≤◌, Bool, true, ◌&&◌, nat_le, length, map, IsTrue}
use Rattle.std.specs.List.{list_all, IsDistinct}
use Rattle.std.specs.Str.{bytes_eq}
use Rattle.net_settings.specs.declared.settings.Limit.{Limit}
use Rattle.net_settings.specs.declared.settings.Limit.TheVariants.{Unlimited, AtMost}
use Rattle.net_settings.specs.declared.settings.Quotas.{Quotas}
use Rattle.net_settings.specs.declared.settings.Host.{Host}
use Rattle.net_settings.specs.Drivers.{is_each_once}
use Rattle.net_settings.specs.Names.{is_name, are_different}
use Rattle.net_settings.specs.Settings.{SettingsParts}

abbrev pub is_in_range : Limit → Bool
is_in_range Unlimited = true
is_in_range (AtMost n) = nat_le n 2147483647

abbrev pub are_in_range : Quotas → Bool
are_in_range q =
    ((((((is_in_range q.network
    && is_in_range q.subnet)
    && is_in_range q.port)
    && is_in_range q.router)
    && is_in_range q.floatingip)
    && is_in_range q.security_group)
    && is_in_range q.security_group_rule)
    && is_in_range q.rbac_policy

-- the physical networks are different names of 1 to 64 characters
abbrev pub has_good_physical : Host → Bool
has_good_physical h = list_all (is_name 64) h.physical && are_different h.physical

-- one fact for each rule
pub record MeetsRules (s : SettingsParts) : Type 0 where
  pub drivers_once : IsTrue (is_each_once s.drivers)
  pub first_positive : 1 ≤ s.vxlan_first
  pub in_order : s.vxlan_first ≤ s.vxlan_last
  pub last_small : s.vxlan_last ≤ 16777215
  pub quotas_in_range : IsTrue (are_in_range s.quotas)
  pub some_host : 1 ≤ length s.hosts
  pub few_hosts : length s.hosts ≤ 64
  pub host_names : IsTrue (list_all (λ h. is_name 63 h.name) s.hosts)
  pub host_names_differ : IsDistinct bytes_eq (map (λ h. h.name) s.hosts)
  pub physical_names : IsTrue (list_all has_good_physical s.hosts)
