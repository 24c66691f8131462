-- The steps of the world. What a step isn't said to change stays.
use Rattle.std.specs.Prelude.{ℕ, suc, ◌+◌, ◌==◌, Bool, true, false, List, [], ◌∷◌, ◌++◌, Option, Some, None, map, ⊤, if◌then◌else◌}
use Rattle.std.specs.List.{filter_map}
use Rattle.std.specs.Option.{option_eq}
use Rattle.std.specs.Str.{bytes_eq}
use Rattle.api_types.specs.RowLists.{RowLists}
use Rattle.api_types.specs.Rows.{Fits, after}
use Rattle.api_types.specs.declared.change.Item.{Item}
use Rattle.plane_types.specs.Verdicts.{fabric_verdict, made_at}
use Rattle.plane_types.specs.declared.event.Event.{Event}
use Rattle.plane_types.specs.declared.verdict.Made.{Made}
use Rattle.plane_types.specs.Node.{Agent, after_change, after_forget, after_restart, after_resync}
use Rattle.bus_core.specs.History.{accepted, change_at}
use Rattle.world_laws.specs.World.{AreSound, World, hosts_of}

pub data Step : Type 0 where
  -- a change is accepted; in automatic delivery each host is told it
  Accept : List Item → Step
  -- a host is told the change with a number
  Deliver : List ℕ → ℕ → Step
  Resync : List ℕ → Step
  Restart : List ℕ → Step
  Forget : List ℕ → Step
  Settle : Step
  Send : Event → Step

-- the host of this name alone
abbrev pub at_host : List ℕ → (Agent → Agent) → List Agent → List Agent
at_host name f agents = map (λ (a : Agent). if bytes_eq name a.name then f a else a) agents

-- where changes are delivered only by hand, no host hears of it
abbrev pub deliver_by : Bool → ℕ → List Item → List Agent → List Agent
deliver_by true n c agents = agents
deliver_by false n c agents = map (after_change n c) agents

abbrev pub accept : World → List Item → World
accept w c = record w {
  history = accepted w.history c;
  agents = deliver_by w.manual (w.history.version + 1) c w.agents;
}

-- a change that is no longer kept, or not yet, reaches nobody
abbrev pub deliver_kept : World → List ℕ → ℕ → Option (List Item) → World
deliver_kept w name n None = w
deliver_kept w name n (Some c) = record w { agents = at_host name (after_change n c) w.agents }

abbrev pub holds : ℕ → Option ℕ → Bool
holds version held = option_eq (λ a b. a == b) held (Some version)

-- given the rows of a version, where it isn't held
abbrev pub after_settle : ℕ → RowLists → Agent → Agent
after_settle version rows a = if holds version a.held then a else after_resync version rows a

-- each entry that an event made is added at the host that made it
abbrev pub add_from : ℕ → List Agent → List Made → List Agent
add_from place [] fresh = []
add_from place (a ∷ rest) fresh =
    record a { entries = a.entries ++ filter_map (made_at place) fresh }
    ∷ add_from (suc place) rest fresh

abbrev pub step : World → Step → World
step w (Accept c) = accept w c
step w (Deliver name n) = deliver_kept w name n (change_at w.history n)
step w (Resync name) =
    record w { agents = at_host name (after_resync w.history.version w.history.rows) w.agents }
step w (Restart name) = record w { agents = at_host name after_restart w.agents }
step w (Forget name) = record w { agents = at_host name after_forget w.agents }
step w Settle = record w { agents = map (after_settle w.history.version w.history.rows) w.agents }
step w (Send event) =
    record w { agents = add_from 0 w.agents (fabric_verdict (hosts_of w) event).fresh }

-- an accepted change fits the rows and leads to sound ones; the other steps are free
abbrev pub May : World → Step → Type 0
May w (Accept c) = Fits w.history.rows c × AreSound w.settings (after w.history.rows c)
May w (Deliver name n) = ⊤
May w (Resync name) = ⊤
May w (Restart name) = ⊤
May w (Forget name) = ⊤
May w Settle = ⊤
May w (Send event) = ⊤

-- the one step by which a host comes to hold no version
abbrev pub restarts : Step → Bool
restarts (Accept c) = false
restarts (Deliver name n) = false
restarts (Resync name) = false
restarts (Restart name) = true
restarts (Forget name) = false
restarts Settle = false
restarts (Send event) = false

-- one after the other
unfoldable pub run : World → List Step → World
run w [] = w
run w (s ∷ ss) = run (step w s) ss

unfoldable pub MayRun : World → List Step → Type 0
MayRun w [] = ⊤
MayRun w (s ∷ ss) = May w s × MayRun (step w s) ss
