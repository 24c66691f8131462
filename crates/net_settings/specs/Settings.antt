-- What settings are.
use Rattle.std.specs.Prelude.{ℕ, List}
use Rattle.net_settings.specs.declared.settings.Driver.{Driver}
use Rattle.net_settings.specs.declared.settings.Quotas.{Quotas}
use Rattle.net_settings.specs.declared.settings.Host.{Host}

-- the values at the keys of a settings file
pub record SettingsParts : Type 0 where
  pub drivers : List Driver
  pub vxlan_first : ℕ
  pub vxlan_last : ℕ
  pub quotas : Quotas
  pub hosts : List Host
