-- What is done at one host of a list, and with all of them one by one.
use Rattle.std.specs.Prelude.{◌≡◌, ℕ, zero, suc, Bool, true, false, ⊤, List, [], ◌∷◌, Option, None, Some, find, map, slice_get, if◌then◌else◌}
use Rattle.std.specs.Str.{bytes_eq}
use Rattle.api_types.specs.RowLists.{RowLists}
use Rattle.plane_types.specs.Node.{Agent, Node, Ready}
use Rattle.agent_node.specs.Rewired.{CanTake, IsReadyTo, after_taking}
use Rattle.agent_node.specs.declared.rewire.Rewire.{Rewire}
use Rattle.plane_types.specs.declared.ask.HostState.{HostState}
use Rattle.plane_types.specs.declared.table.TagRow.{TagRow}
use Rattle.world_laws.specs.Steps.{after_settle}

-- ---- one host

-- a host of the name stands at a place
abbrev pub IsNamedAt : List ℕ → List Node → ℕ → Type 0
IsNamedAt name nodes at =
    (n : Node) × (slice_get nodes at ≡ Some n) × (bytes_eq name n.agent.name ≡ true)

abbrev pub named_node : List ℕ → List Node → Option Node
named_node name nodes = find (λ (n : Node). bytes_eq name n.agent.name) nodes

-- something is done at a place, and nothing else changes
abbrev pub at_place : ℕ → (Agent → Agent) → List Agent → List Agent
at_place at f [] = []
at_place zero f (a ∷ agents) = f a ∷ agents
at_place (suc at) f (a ∷ agents) = a ∷ at_place at f agents

-- a host's state, where the hosts of one name hold this, or where all hold a version
abbrev pub state_with : List ℕ → Option ℕ → Agent → HostState
state_with name held a = record {
  name = a.name;
  held = if bytes_eq name a.name then held else a.held;
}

abbrev pub state_at_version : ℕ → Agent → HostState
state_at_version version a = record { name = a.name; held = Some version }

-- ---- all hosts

-- what was made ready is for hosts with these names and tags
abbrev pub made_for : Ready → List ℕ × List TagRow
made_for r = (r.name, r.old)

abbrev pub name_and_tags : Agent → List ℕ × List TagRow
name_and_tags a = (a.name, a.tables.tags)

abbrev pub AreFor : List Ready → List Node → Type 0
AreFor ready nodes = map made_for ready ≡ map (λ (n : Node). name_and_tags n.agent) nodes

-- what was made ready at a host for the change with a number that leads to these rows: nothing
-- where delivery is by hand alone
abbrev pub IsToldBy : Bool → ℕ → RowLists → Node → Option Rewire → Type 0
IsToldBy true number rows n o = o ≡ None
IsToldBy false number rows n o = IsReadyTo number rows n o

abbrev pub AreToldBy : Bool → ℕ → RowLists → List Node → List (Option Rewire) → Type 0
AreToldBy manual number rows [] [] = ⊤
AreToldBy manual number rows [] (o ∷ ready) = ⊥
AreToldBy manual number rows (n ∷ nodes) [] = ⊥
AreToldBy manual number rows (n ∷ nodes) (o ∷ ready) =
    IsToldBy manual number rows n o × AreToldBy manual number rows nodes ready

-- it can be put in at each
abbrev pub CanTakeAll : List Node → List (Option Rewire) → Type 0
CanTakeAll [] [] = ⊤
CanTakeAll [] (o ∷ ready) = ⊥
CanTakeAll (n ∷ nodes) [] = ⊥
CanTakeAll (n ∷ nodes) (o ∷ ready) = CanTake n o × CanTakeAll nodes ready

abbrev pub take_each : ℕ → List (Option Rewire) → List Agent → List Agent
take_each number [] agents = agents
take_each number (o ∷ ready) [] = []
take_each number (o ∷ ready) (a ∷ agents) =
    after_taking number o a ∷ take_each number ready agents

-- each is given the rows that were made ready for it, where it doesn't hold the version
abbrev pub settle_each : ℕ → List Ready → List Agent → List Agent
settle_each version [] agents = agents
settle_each version (r ∷ ready) [] = []
settle_each version (r ∷ ready) (a ∷ agents) =
    after_settle version r.rows a ∷ settle_each version ready agents
