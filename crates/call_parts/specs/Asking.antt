-- Who asks, at which state, under which settings.
use Rattle.api_types.specs.declared.call.Caller.{Caller}
use Rattle.net_settings.specs.Settings.{SettingsParts}
use Rattle.call_parts.specs.State.{State}

pub record AskingParts : Type 0 where
  pub settings : SettingsParts
  pub state : State
  pub caller : Caller
