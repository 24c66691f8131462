-- What holds after every list of steps.
use Rattle.std.specs.Prelude.{◌≡◌, ℕ, ◌+◌, ◌≤◌, Some, map}
use Rattle.api_types.specs.Lists.{Each}
use Rattle.net_settings.specs.Rules.{MeetsRules}
use Rattle.net_settings.specs.Settings.{SettingsParts}
use Rattle.net_settings.specs.declared.settings.Host as config
use Rattle.plane_types.specs.Attached.{IsAttached}
use Rattle.plane_types.specs.Realises.{Realises}
use Rattle.bus_core.specs.History.{History, IsHistory, first_kept, rows_at}
use Rattle.plane_types.specs.Node.{Agent, host_of}
use Rattle.world_laws.specs.World.{AreSound, World}

-- the wired rows are sound, and are those of their version while these can be told; what is held
-- is their version
pub record IsLed (settings : SettingsParts) (h : History) (a : Agent) : Type 0 where
  pub held : (v : ℕ) → a.held ≡ Some v → v ≡ a.version
  pub version : a.version ≤ h.version
  pub sound : AreSound settings a.rows
  pub rows : first_kept h ≤ a.version + 1 → a.rows ≡ rows_at h a.version

pub record Lead (w : World) : Type 0 where
  pub history : IsHistory (AreSound w.settings) w.history
  pub agents : Each (IsLed w.settings w.history) w.agents

-- each entry is of a tap or router of its host, and no two translations can be confused
abbrev pub Placed : World → Type 0
Placed w = Each (λ (a : Agent). IsAttached (host_of a)) w.agents

-- each host's tables are those that its wired rows give to it
abbrev pub Realised : World → Type 0
Realised w = Each (λ (a : Agent). Realises a.rows a.name a.tables) w.agents

-- the hosts are those of the settings, in their order
abbrev pub AreNamed : World → Type 0
AreNamed w =
    map (λ (a : Agent). a.name) w.agents ≡ map (λ (d : config.Host). d.name) w.settings.hosts

pub record IsWorld (w : World) : Type 0 where
  pub rules : MeetsRules w.settings
  pub named : AreNamed w
  pub lead : Lead w
  pub placed : Placed w
  pub realised : Realised w
