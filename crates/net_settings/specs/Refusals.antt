-- Refusals. Running out of memory is always allowed: it may replace any answer.
use Rattle.std.specs.Prelude.{◌≡◌, Result, Err}
use Rattle.net_addr.specs.Words.{Text}
use Rattle.net_settings.specs.declared.refusal.SettingsRefusal.{SettingsRefusal}
use Rattle.net_settings.specs.declared.refusal.SettingsRefusal.TheVariants.{BadSettings, OutOfMemory}

-- the refusal has this key
abbrev pub IsNamed : Text → SettingsRefusal → Type 0
IsNamed key (BadSettings named) = named ≡ key
IsNamed key OutOfMemory = Unit {0}

-- the answer is that the refusal's key is bad
abbrev pub Refuses : {A : Type 0} → Result A Text → SettingsRefusal → Type 0
Refuses answer (BadSettings key) = answer ≡ Err key
Refuses answer OutOfMemory = Unit {0}
