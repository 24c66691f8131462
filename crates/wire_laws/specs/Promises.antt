-- What is promised of an agent behind a wire.
use Rattle.std.specs.Prelude.{◌≡◌, ◌≤◌, Bool, true, false, List, Option, Some, None, option_map, length, ⊤}
use Rattle.net_addr.specs.Words.{Text, Version}
use Rattle.api_types.specs.RowLists.{RowLists}
use Rattle.api_types.specs.declared.change.Item.{Item}
use Rattle.plane_types.specs.Node.{Agent}
use Rattle.plane_types.specs.Realises.{Realises}
use Rattle.wire_types.specs.Changes.{rows_after}
use Rattle.wire_types.specs.declared.step.WireStep.{WireStep}
use Rattle.wire_types.specs.declared.step.WireStep.TheVariants.{BadReply, BadRows}
use Rattle.wire_laws.specs.WireStates.{WireState, agent_of}

-- the version that is held, if any
abbrev pub held_by : WireState → Option Version
held_by state = option_map (λ (a : Agent). a.version) (agent_of state)

-- it holds the rows of its version, and tables that these give to the host
pub record HasRows (host : Text) (opening : RowLists) (changes : List (List Item)) (a : Agent)
    : Type 0 where
  pub name : a.name ≡ host
  pub held : a.held ≡ Some a.version
  pub version : a.version ≤ length changes
  pub rows : a.rows ≡ rows_after opening changes a.version
  pub tables : Realises a.rows host a.tables

-- what is held doesn't fall
abbrev pub NotBelow : Option Version → Option Version → Type 0
NotBelow None w = ⊤
NotBelow (Some v) None = ⊥
NotBelow (Some v) (Some w) = v ≤ w

-- the bytes are no reply, or what they say can't be taken
abbrev pub is_bad : WireStep → Bool
is_bad BadReply = true
is_bad BadRows = true
is_bad _ = false
