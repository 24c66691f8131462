-- Worlds with the same settings, hosts and rows, now and at each version that can be told,
-- whatever changes led there.
use Rattle.std.specs.Prelude.{◌≡◌, ℕ, ◌+◌, ◌≤◌, Bool, true, false, length}
use Rattle.bus_core.specs.History.{first_kept, rows_at}
use Rattle.world_laws.specs.Steps.{Accept, Deliver, Forget, Resync, Restart, Send, Settle, Step}
use Rattle.world_laws.specs.World.{World}

pub record AreAlike (w v : World) : Type 0 where
  pub settings : w.settings ≡ v.settings
  pub manual : w.manual ≡ v.manual
  pub rows : w.history.rows ≡ v.history.rows
  pub version : w.history.version ≡ v.history.version
  pub kept : length w.history.kept ≡ length v.history.kept
  pub told : (k : ℕ) → first_kept w.history ≤ k + 1 → k ≤ w.history.version
      → rows_at w.history k ≡ rows_at v.history k
  pub agents : w.agents ≡ v.agents

abbrev pub accepts : Step → Bool
accepts (Accept c) = true
accepts (Deliver name n) = false
accepts (Resync name) = false
accepts (Restart name) = false
accepts (Forget name) = false
accepts Settle = false
accepts (Send event) = false
