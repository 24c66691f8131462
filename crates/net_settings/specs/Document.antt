-- What a settings file says: its settings, or the first bad key. The file is TOML
-- (https://toml.io/en/v1.1.0) in UTF-8.
use Rattle.std.specs.Prelude.{[], codes, Option, Some, None, Result, Ok, Err, if◌then◌else◌}
use Rattle.std.specs.Str.{is_utf8}
use Rattle.net_addr.specs.Words.{Bytes, Text}
use Rattle.toml.specs.Data.{Members}
use Rattle.toml.specs.Parse.{parse_document}
use Rattle.net_settings.specs.Drivers.{drivers_in}
use Rattle.net_settings.specs.Hosts.{hosts_in}
use Rattle.net_settings.specs.Numbers.{vxlan_first_in, vxlan_last_in}
use Rattle.net_settings.specs.Quotas.{quotas_in}
use Rattle.net_settings.specs.Settings.{SettingsParts}
use Rattle.net_settings.specs.Unknown.{first_unknown}

-- the value, or its key where there is none
abbrev pub at_key : {A : Type 0} → Text → Option A → Result A Text
at_key key None = Err key
at_key key (Some value) = Ok value

-- the next step, unless a key is bad
infixl 10 ◌>>=◌
abbrev pub ◌>>=◌ : {A B : Type 0} → Result A Text → (A → Result B Text) → Result B Text
Ok value >>= next = next value
Err key >>= next = Err key

-- the settings, unless there is an unknown key
abbrev pub unless_unknown : Option Text → SettingsParts → Result SettingsParts Text
unless_unknown (Some key) parts = Err key
unless_unknown None parts = Ok parts

-- each key in its turn, and then the keys that no rule knows
abbrev pub settings_in : Members → Result SettingsParts Text
settings_in ms = do
  drivers ← at_key (codes "drivers") (drivers_in ms)
  first ← at_key (codes "vxlan_first") (vxlan_first_in ms)
  last ← at_key (codes "vxlan_last") (vxlan_last_in ms)
  quotas ← at_key (codes "quotas") (quotas_in ms)
  hosts ← hosts_in ms
  unless_unknown (first_unknown ms)
      (record {
        drivers = drivers;
        vxlan_first = first;
        vxlan_last = last;
        quotas = quotas;
        hosts = hosts;
      })

-- the table that the bytes are; the empty key where they are no TOML
abbrev pub document_of : Bytes → Result Members Text
document_of bytes = at_key [] (if is_utf8 bytes then parse_document bytes else None)

-- what the bytes say
abbrev pub settings_of : Bytes → Result SettingsParts Text
settings_of bytes = document_of bytes >>= settings_in
