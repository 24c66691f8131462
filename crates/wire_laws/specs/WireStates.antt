-- The states of an agent that learns a server's rows from replies alone, and what it asks next.
use Rattle.std.specs.Prelude.{◌==◌, ◌+◌, ℕ, List, Option, Some, None, if◌then◌else◌}
use Rattle.net_addr.specs.Words.{Version}
use Rattle.api_types.specs.declared.page.PageRow.{PageRow}
use Rattle.plane_types.specs.Node.{Agent}
use Rattle.wire_types.specs.declared.ask.WireAsk.{WireAsk}
use Rattle.wire_types.specs.declared.ask.WireAsk.TheVariants as ask

pub data WireState : Type 0 where
  -- nothing is held
  Lost : WireState
  -- it isn't known whether the change after the version that is held is still kept
  Check : Agent → WireState
  -- rows of a version are collected, and the page with this number comes next; what is held, if
  -- anything, stays meanwhile
  Draft : Option Agent → Version → ℕ → List PageRow → WireState
  Held : Agent → WireState

abbrev pub agent_of : WireState → Option Agent
agent_of Lost = None
agent_of (Check a) = Some a
agent_of (Draft a version number rows) = a
agent_of (Held a) = Some a

-- numbers have 64 bits: no change follows this version, and no page this number
abbrev pub last_number : ℕ
last_number = 18446744073709551615

abbrev pub ask_of : WireState → WireAsk
ask_of Lost = ask.Version
ask_of (Check a) = ask.Version
ask_of (Draft a version number rows) = ask.Page version number
ask_of (Held a) = if a.version == last_number then ask.Version else ask.Change (a.version + 1)
