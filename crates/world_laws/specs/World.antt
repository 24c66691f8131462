-- The world: the settings and the delivery, the rows with the last changes that led to them, and
-- each host's agents.
use Rattle.std.specs.Prelude.{◌≡◌, Bool, List, Some, map}
use Rattle.api_types.specs.Consistent.{IsConsistent}
use Rattle.api_types.specs.Consistent.Carried.{AreCarried}
use Rattle.api_types.specs.Lists.{Each}
use Rattle.api_types.specs.RowLists.{RowLists}
use Rattle.net_settings.specs.Settings.{SettingsParts}
use Rattle.net_settings.specs.declared.settings.Host as config
use Rattle.call_parts.specs.Typed.{AreTyped}
use Rattle.api_ml2.specs.Carrying.{carries}
use Rattle.plane_types.specs.Hosts.{Host}
use Rattle.bus_core.specs.History.{History, history_from}
use Rattle.plane_types.specs.Node.{Agent, first_agent, host_of}

pub record World : Type 0 where
  pub settings : SettingsParts
  -- whether changes are delivered only by hand
  pub manual : Bool
  pub history : History
  -- in the order of the settings' hosts
  pub agents : List Agent

abbrev pub hosts_of : World → List Host
hosts_of w = map host_of w.agents

-- consistent rows, as the types of their values have them, each bound port of which is on a host
-- that can carry its network
pub record AreSound (settings : SettingsParts) (rows : RowLists) : Type 0 where
  pub consistent : IsConsistent rows
  pub typed : AreTyped rows
  pub carried : AreCarried (carries settings.hosts) rows.networks rows.ports

-- each host of the settings holds the rows at version 0, and no change is kept
abbrev pub first_world : SettingsParts → Bool → RowLists → World
first_world settings manual rows = record {
  settings = settings;
  manual = manual;
  history = history_from rows 0;
  agents = map (λ (d : config.Host). first_agent rows 0 d.name) settings.hosts;
}

-- every host holds the current version
abbrev pub IsSynced : World → Type 0
IsSynced w = Each (λ (a : Agent). a.held ≡ Some w.history.version) w.agents
