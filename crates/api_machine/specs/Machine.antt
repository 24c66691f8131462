-- What the API machine is: consistent rows with their version, under settings.
use Rattle.net_addr.specs.Words.{Version}
use Rattle.std.specs.Prelude.{◌≡◌, IfSome, Option}
use Rattle.api_types.specs.Consistent.{IsConsistent}
use Rattle.api_types.specs.RowLists.{RowLists}
use Rattle.net_settings.specs.Rules.{MeetsRules}
use Rattle.net_settings.specs.Settings.{SettingsParts}
use Rattle.kept_laws.specs.Kept.{HostsCarry}
use Rattle.call_parts.specs.State.{State}
use Rattle.call_parts.specs.Typed.{AreTyped}

pub record MachineParts : Type 0 where
  pub settings : SettingsParts
  pub rows : RowLists
  -- how many changes were accepted
  pub version : Version

abbrev pub state_at : RowLists → Version → State
state_at rows version = record { rows = rows; version = version }

abbrev pub state_of : MachineParts → State
state_of m = state_at m.rows m.version

-- what holds of a machine at any moment
pub record IsSound (m : MachineParts) : Type 0 where
  pub rules : MeetsRules m.settings
  pub consistent : IsConsistent m.rows
  pub typed : AreTyped m.rows
  pub carried : HostsCarry m.settings m.rows

-- such a machine, beside rows equal to its own, if there are any
pub record IsKept (m : MachineParts) (shadow : Option RowLists) : Type 0 where
  pub sound : IsSound m
  pub same : IfSome shadow (λ rows. rows ≡ m.rows)
