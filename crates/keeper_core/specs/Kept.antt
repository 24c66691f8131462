-- What keepers tell, and what those in memory are seen as.
use Rattle.std.specs.Prelude.{◌≡◌, ℕ, Option, Some, is_some}
use Rattle.api_types.specs.RowLists.{RowLists}
use Rattle.keeper_core.specs.Counts.{Tells}
use Rattle.keeper_core.specs.declared.calls.Calls.{Calls}

-- what a keeper tells: the rows that it stores, where it tells them, and how many calls failed
pub record KeeperTold : Type 0 where
  pub rows : Option RowLists
  pub faults : ℕ

-- these rows are stored, where the keeper tells them, and it tells them as it did
pub record IsStored (rows : RowLists) (old new : KeeperTold) : Type 0 where
  pub tells : Tells new.rows rows
  pub as_before : is_some new.rows ≡ is_some old.rows

-- ---- in memory

-- kept rows, with calls that may fail
pub record FailingRows : Type 0 where
  pub rows : RowLists
  pub calls : Calls

abbrev pub sure_rows : RowLists → KeeperTold
sure_rows rows = record { rows = Some rows; faults = 0 }

abbrev pub failing_rows : FailingRows → KeeperTold
failing_rows k = record { rows = Some k.rows; faults = k.calls.faults }
