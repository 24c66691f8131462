-- What calls of the lab come to: what hosts make of an event, what the rows say of it, the hosts
-- and their tables, and messages that hosts get or lose. They are for administrators alone.
use Rattle.std.specs.Prelude.{◌≡◌, ◌⊎◌, ◌==◌, ◌∷◌, [], not, ℕ, List, Option, Some, None, codes, find, is_some, map}
use Rattle.std.specs.Str.{bytes_eq}
use Rattle.net_addr.specs.Words.{Text, Version}
use Rattle.api_types.specs.Ident.{ident_text}
use Rattle.api_types.specs.Refusing.{first_refusal, not_found, when}
use Rattle.api_types.specs.RowLists.{RowLists}
use Rattle.api_types.specs.Wires.{network_on}
use Rattle.api_types.specs.declared.call.Caller.{Caller}
use Rattle.api_types.specs.declared.change.Item.{Item}
use Rattle.api_types.specs.declared.kind.Kind.TheVariants.{Port as PortKind}
use Rattle.api_types.specs.declared.refusal.PolicyRule.TheVariants.{AdminOnly}
use Rattle.api_types.specs.declared.refusal.Refusal.{Refusal}
use Rattle.api_types.specs.declared.refusal.Refusal.TheVariants.{Forbidden, Invalid, NoHost, NoMessage, NoPage, OutOfMemory, VersionMoved}
use Rattle.api_policy.specs.Visibility.{sees_row}
use Rattle.plane_types.specs.Hosts.{all_entries}
use Rattle.plane_types.specs.Verdicts.{fabric_verdict, rows_verdict}
use Rattle.plane_types.specs.declared.ask.HostState.{HostState}
use Rattle.plane_types.specs.declared.ask.LabAnswer.{LabAnswer}
use Rattle.plane_types.specs.declared.ask.LabAnswer.TheVariants as answer
use Rattle.plane_types.specs.declared.ask.LabAnswer.TheVariants.{Hosts, Seen, Tables, Told}
use Rattle.plane_types.specs.declared.ask.LabCall.{LabCall}
use Rattle.plane_types.specs.declared.ask.LabCall.TheVariants as call
use Rattle.plane_types.specs.declared.event.Event.{Event}
use Rattle.plane_types.specs.declared.event.Event.TheVariants.{FromPort, FromWire}
use Rattle.bus_core.specs.History.{change_at, first_kept}
use Rattle.plane_types.specs.Node.{Agent, hearing}
use Rattle.world_laws.specs.Steps.{Deliver, Forget, Resync, Restart, Send, Settle, Step, step}
use Rattle.wire_types.specs.Pages.{all_rows, is_last_page, is_page, page}
use Rattle.world_laws.specs.World.{World, hosts_of}

-- a call of the lab is refused, or answered, and then the world is this
pub data LabOutcome : Type 0 where
  Barred : Refusal → LabOutcome
  Answered : LabAnswer → World → LabOutcome

abbrev pub unless_barred : Option Refusal → LabOutcome → LabOutcome
unless_barred None outcome = outcome
unless_barred (Some refusal) outcome = Barred refusal

-- an event's port has to be there and to be seen; so has, for an administrator, a network that the
-- physical one carries so
abbrev pub event_refusal : RowLists → Caller → Event → Option Refusal
event_refusal rows caller (FromPort port frame) = first_refusal (
    when (not (sees_row rows caller PortKind port)) (not_found PortKind (ident_text port))
    ∷ when (not caller.admin) (Forbidden AdminOnly)
    ∷ [])
event_refusal rows caller (FromWire physical tag frame) = first_refusal (
    when (not caller.admin) (Forbidden AdminOnly)
    ∷ when (not (is_some (network_on rows (record { physical = physical; tag = tag }))))
    (Invalid (codes "physical_network"))
    ∷ [])

-- a caller who is no administrator is refused before anything else is looked at
abbrev pub for_admins : Caller → LabOutcome → LabOutcome
for_admins caller outcome = unless_barred (when (not caller.admin) (Forbidden AdminOnly)) outcome

abbrev pub host_named : World → Text → Option Agent
host_named w name = find (λ (a : Agent). bytes_eq name a.name) w.agents

abbrev pub with_host : Text → Option Agent → (Agent → LabOutcome) → LabOutcome
with_host name None on = Barred (NoHost name)
with_host name (Some a) on = on a

-- each host and the version that it holds
abbrev pub host_state : Agent → HostState
host_state a = record { name = a.name; held = a.held }

abbrev pub hosts_told : World → LabAnswer
hosts_told w = Hosts (map host_state w.agents)

-- after a step the hosts are told
abbrev pub stepped : World → Step → LabOutcome
stepped w s = Answered (hosts_told (step w s)) (step w s)

-- a host is looked for before the number, which is refused with the first and the last number that
-- are kept
abbrev pub delivered : World → Text → Version → Agent → Option (List Item) → LabOutcome
delivered w name number a None = Barred (NoMessage number (first_kept w.history) w.history.version)
delivered w name number a (Some c) =
    Answered (Told (hearing number a.held)) (step w (Deliver name number))

-- the first and the last number that are kept; the last is the current version
abbrev pub version_told : World → LabAnswer
version_told w = answer.Version (first_kept w.history) w.history.version

-- a change that is kept is told, and one that isn't is refused as at a host
abbrev pub change_told : World → Version → Option (List Item) → LabOutcome
change_told w number None = Barred (NoMessage number (first_kept w.history) w.history.version)
change_told w number (Some c) = Answered (answer.Change number c) w

-- a page is of the current rows, and of one version: the version is looked at first
abbrev pub page_refusal : World → Version → ℕ → Option Refusal
page_refusal w version number = first_refusal (
    when (not (version == w.history.version)) (VersionMoved version w.history.version)
    ∷ when (not (is_page number (all_rows w.history.rows))) (NoPage number)
    ∷ [])

abbrev pub page_told : World → Version → ℕ → LabAnswer
page_told w version number =
    let rows = all_rows w.history.rows in
    answer.Page version number (is_last_page number rows) (page number rows)

abbrev pub lab_outcome : World → Caller → LabCall → LabOutcome
lab_outcome w caller (call.Frames event) =
    unless_barred (event_refusal w.history.rows caller event)
    (Answered (Seen (fabric_verdict (hosts_of w) event)) (step w (Send event)))
lab_outcome w caller (call.Explain event) =
    unless_barred (event_refusal w.history.rows caller event)
    (Answered (Seen (rows_verdict w.history.rows (all_entries (hosts_of w)) event)) w)
lab_outcome w caller call.Hosts = for_admins caller (Answered (hosts_told w) w)
lab_outcome w caller (call.Tables name) =
    for_admins caller (with_host name (host_named w name) (λ a. Answered (Tables a.tables) w))
lab_outcome w caller (call.Deliver name number) =
    for_admins caller
    (with_host name (host_named w name) (λ a.
    delivered w name number a (change_at w.history number)))
lab_outcome w caller (call.Resync name) =
    for_admins caller (with_host name (host_named w name) (λ a. stepped w (Resync name)))
lab_outcome w caller (call.Restart name) =
    for_admins caller (with_host name (host_named w name) (λ a. stepped w (Restart name)))
lab_outcome w caller (call.Forget name) =
    for_admins caller (with_host name (host_named w name) (λ a. stepped w (Forget name)))
lab_outcome w caller call.Settle = for_admins caller (stepped w Settle)
lab_outcome w caller call.Version = for_admins caller (Answered (version_told w) w)
lab_outcome w caller (call.Change number) =
    for_admins caller (change_told w number (change_at w.history number))
lab_outcome w caller (call.Page version number) =
    for_admins caller
    (unless_barred (page_refusal w version number) (Answered (page_told w version number) w))

-- the refusal is the outcome's, or memory could not be had
abbrev pub IsBarred : LabOutcome → Refusal → Type 0
IsBarred outcome refusal = (refusal ≡ OutOfMemory) ⊎ (outcome ≡ Barred refusal)
