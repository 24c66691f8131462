-- Hosts that hold the rows: their names differ, their tables realise the rows, their entries
-- stand, and each name that can carry a segment is a host's.
use Rattle.std.specs.Prelude.{◌≡◌, ◌≤◌, Bool, true, List, count_by}
use Rattle.std.specs.List.{list_any}
use Rattle.net_addr.specs.Words.{Text}
use Rattle.api_types.specs.Lists.{Each}
use Rattle.api_types.specs.RowLists.{RowLists}
use Rattle.api_types.specs.declared.network.Segment.{Segment}
use Rattle.plane_types.specs.Hosts.{Host, is_named}
use Rattle.plane_types.specs.Attached.{IsAttached}
use Rattle.plane_types.specs.Realises.{Realises}

pub record AreSynced (carries : Text → Segment → Bool) (rows : RowLists) (hosts : List Host)
    : Type 0 where
  pub realise : Each (λ (h : Host). Realises rows h.name h.tables) hosts
  pub placed : Each IsAttached hosts
  pub names : (name : Text) → count_by (is_named name) hosts ≤ 1
  pub complete : (name : Text) (s : Segment) → carries name s ≡ true
      → list_any (is_named name) hosts ≡ true
