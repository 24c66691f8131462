-- A server's world by its parts in code.
use Rattle.std.specs.Prelude.{◌≡◌, Bool, List}
use Rattle.net_addr.specs.Words.{Version}
use Rattle.api_types.specs.RowLists.{RowLists}
use Rattle.net_settings.specs.Settings.{SettingsParts}
use Rattle.plane_types.specs.Node.{Node, agents_of}
use Rattle.bus_core.specs.Kept.{Kept}
use Rattle.world_laws.specs.Lead.{IsWorld}
use Rattle.world_laws.specs.World.{World}

abbrev pub world_seen : SettingsParts → RowLists → Version → Kept → List Node → Bool → World
world_seen settings rows version kept nodes manual = record {
  settings = settings;
  manual = manual;
  history = record { rows = rows; version = version; kept = kept.changes };
  agents = agents_of nodes;
}

-- what is true between any two calls
pub record AreParts (settings : SettingsParts) (rows : RowLists) (version : Version) (kept : Kept)
    (nodes : List Node) (manual : Bool) : Type 0 where
  pub world : IsWorld (world_seen settings rows version kept nodes manual)
  pub numbered : kept.last ≡ version
