-- How code has the state of an agent: what it holds, if anything, and what it waits for.
use Rattle.std.specs.Prelude.{◌≡◌, ◌==◌, ◌&&◌, ◌+◌, ◌++◌, ℕ, suc, nat_lt, List, Bool, true, false, Option, Some, None, if◌then◌else◌, option_map, IfSome, ⊤}
use Rattle.net_addr.specs.Words.{Version}
use Rattle.api_types.specs.declared.page.PageRow.{PageRow}
use Rattle.plane_types.specs.Node.{Agent, Node}
use Rattle.wire_types.specs.declared.ask.WireAsk.{WireAsk}
use Rattle.wire_types.specs.declared.ask.WireAsk.TheVariants as ask
use Rattle.wire_laws.specs.Hearing.{can_follow}
use Rattle.wire_laws.specs.WireStates.{Check as Checks, Draft as Drafts, Held, Lost, WireState, last_number}
use Rattle.agent_wire.specs.declared.agent.Phase.{Phase}
use Rattle.agent_wire.specs.declared.agent.Phase.TheVariants.{Check, Draft, Follow}

abbrev pub agent_in : Option Node → Option Agent
agent_in node = option_map (λ (n : Node). n.agent) node

abbrev pub checking : Option Agent → WireState
checking None = Lost
checking (Some a) = Checks a

abbrev pub following : Option Agent → WireState
following None = Lost
following (Some a) = Held a

abbrev pub state_of : Option Node → Phase → WireState
state_of node Check = checking (agent_in node)
state_of node (Draft version number rows) = Drafts (agent_in node) version number rows.items
state_of node Follow = following (agent_in node)

-- what is held is the version of the rows
abbrev pub HoldsItsRows : Option Node → Type 0
HoldsItsRows node = IfSome node (λ n. n.agent.held ≡ Some n.agent.version)

-- who waits for a change holds something
abbrev pub HasNode : Option Node → Phase → Type 0
HasNode _ Check = ⊤
HasNode _ (Draft version number rows) = ⊤
HasNode None Follow = ⊥
HasNode (Some n) Follow = ⊤

abbrev pub IsInState : Option Node → Phase → Type 0
IsInState node phase = HoldsItsRows node × HasNode node phase

-- ---- tests of code

abbrev pub next_ask : Option Version → WireAsk
next_ask None = ask.Version
next_ask (Some v) = if v == last_number then ask.Version else ask.Change (v + 1)

abbrev pub can_go_on : Option Version → Version → Version → Bool
can_go_on None first last = false
can_go_on (Some v) first last = can_follow v first last

-- a number is the one after what is held
abbrev pub is_next : Option Version → Version → Bool
is_next None number = false
is_next (Some v) number = number == v + 1

-- it waits for a version
abbrev pub is_asking : WireState → Bool
is_asking Lost = true
is_asking (Checks a) = true
is_asking (Drafts a version number rows) = false
is_asking (Held a) = false

-- it collects pages
abbrev pub is_drafting : WireState → Bool
is_drafting (Drafts a version number rows) = true
is_drafting _ = false

-- it waits for a change
abbrev pub is_following : WireState → Bool
is_following (Held a) = true
is_following _ = false

-- this page is the next one of a draft
abbrev pub awaits_page : Version → ℕ → WireState → Bool
awaits_page version number (Drafts a of_version of_number rows) =
    (version == of_version) && (number == of_number)
awaits_page version number _ = false

-- a further page has a number
abbrev pub has_room : WireState → Bool
has_room (Drafts a version number rows) = nat_lt number last_number
has_room _ = false

abbrev pub has_next : Phase → Bool
has_next Check = false
has_next (Draft version number rows) = nat_lt number last_number
has_next Follow = false

-- a page that isn't the last one is added
abbrev pub with_page : List PageRow → WireState → WireState
with_page more (Drafts a version number rows) = Drafts a version (suc number) (rows ++ more)
with_page more state = state

-- the change with this number is the next one
abbrev pub awaits_change : Version → WireState → Bool
awaits_change number (Held a) = number == a.version + 1
awaits_change number _ = false
