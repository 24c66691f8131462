-- A change of a database: all of it or none, over crashes too (SQLite, "Atomic Commit In SQLite").
-- What a connection shows, what a statement does to it and what a crash may leave is defined by
-- `State` of the crate `sqlite`.
use Rattle.std.specs.Prelude.{◌≡◌, ℕ, zero, suc, true, IsTrue, OnErr, OnOk, Ok, Result}
use Rattle.net_addr.specs.Words.{Text}
use Rattle.sqlite.specs.Held.{Held, state}
use Rattle.sqlite.specs.Order.{Row}
use Rattle.sqlite.specs.State.{ExecutesInside, HasCleanDisk, KeepsCommit, Survives}
use Rattle.sqlite.specs.Store.{Ghosts}

-- nothing is committed: a crash leaves what it could leave before
pub record CommitsNothing {S : Type 0} (g : Ghosts S) (old new : Held S) : Type 0 where
  pub crash : Survives (state g old) (state g new) (λ _. ⊥)
  pub committed : HasCleanDisk (state g new) → KeepsCommit (state g old) (state g new)

-- a statement was run inside a transaction, and didn't fail
abbrev pub Runs : {S : Type 0} → Ghosts S → Held S → Held S → Type 0
Runs g old new = HasCleanDisk (state g new)
    → (text : Text) × (values : Row) × (count : ℕ)
    × ExecutesInside 0 text values (state g old) (state g new) (Ok count)

-- so many statements were run, one after the other
abbrev pub RunsAll : {S : Type 0} → Ghosts S → ℕ → Held S → Held S → Type 0
RunsAll g zero old new = new ≡ old
RunsAll {S} g (suc n) old new = (last : Held S) × RunsAll g n old last × Runs g last new

-- the connection right after it began a transaction
abbrev pub begun : {S : Type 0} → Held S → Held S
begun h = record h { in_transaction = true }

-- At most one state is committed, and that whole: a crash leaves what it could leave before, or
-- that state. On Ok it is what so many statements made of the state before, and it is committed.
-- An error leaves what was committed before.
pub record IsWhole {S E : Type 0} (g : Ghosts S) (statements : ℕ) (old new : Held S)
    (result : Result (Unit {0}) E) : Type 0 where
  -- the connection right before the commit
  pub last : Held S
  pub runs : OnOk result (RunsAll g statements (begun old) last)
  pub crash : Survives (state g old) (state g new) (λ db. db ≡ (state g last).now.trees)
  pub ok : HasCleanDisk (state g new)
      → OnOk result ((state g new).committed ≡ (state g last).now)
  pub err : HasCleanDisk (state g new) → IsTrue (state g new).is_open
      → OnErr result ((state g new).committed ≡ (state g old).committed)
