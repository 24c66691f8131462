-- What frames come to at hosts that hold the version of now, and what they leave.
use Rattle.std.proofs.Common.{◌≡◌, ℕ, suc, List, [], ◌∷◌, ◌++◌, refl, ap, sym, subst, ◌∙◌, map, length, ◌≤◌}
use Rattle.std.specs.List.{filter_map}
use Rattle.api_types.specs.declared.call.Caller.{Caller}
use Rattle.api_ml2.specs.Carrying.{carries}
use Rattle.plane_types.specs.Crossing.{CrossesAtRouters}
use Rattle.plane_types.specs.Hosts.{Host, all_entries}
use Rattle.plane_types.specs.PortSecurity.{IsLetIn, IsLetOut}
use Rattle.plane_types.specs.Verdicts.{fabric_verdict, hosts_after, with_made_from, made_at, rows_verdict, without_hosts}
use Rattle.plane_types.specs.declared.ask.LabAnswer.TheVariants.{Seen}
use Rattle.plane_types.specs.declared.ask.LabCall.TheVariants.{Frames}
use Rattle.plane_types.specs.declared.event.Event.{Event}
use Rattle.plane_types.specs.declared.verdict.Made.{Made}
use Rattle.plane_types.specs.declared.verdict.Verdict.{Verdict}
use Rattle.plane_laws.specs.Bounds.{HasEightBits}
use Rattle.plane_laws.proofs.BoundsTables.{bounded-by_tables}
use Rattle.plane_laws.proofs.CrossingTop.{by-tables}
use Rattle.plane_laws.proofs.SecurityLaw.{in-by-tables, out-by-tables}
use Rattle.plane_laws.proofs.Theorem.{tables-mean-rows}
use Rattle.plane_types.specs.Node.{Agent, host_of}
use Rattle.world_laws.specs.Lead.{IsWorld}
use Rattle.world_laws.specs.Steps.{Send, add_from, step}
use Rattle.world_laws.specs.World.{IsSynced, World, hosts_of}
use Rattle.world_laws.proofs.MeaningLaw.{synced_hold}
use Rattle.lab_world.specs.Lab.{Answered, lab_outcome}
use Rattle.lab_world.proofs.Asking.{verdict_is}

pub frame_means : (w : World) (event : Event) → IsWorld w → IsSynced w → without_hosts (fabric_verdict (hosts_of w) event) ≡ rows_verdict w.history.rows (all_entries (hosts_of w)) event
frame_means w event is synced = tables-mean-rows (carries w.settings.hosts) w.history.rows (hosts_of w) (synced_hold w is synced) event

pub frame_crosses : (w : World) (event : Event) → IsWorld w → IsSynced w → CrossesAtRouters w.history.rows (fabric_verdict (hosts_of w) event)
frame_crosses w event is synced = by-tables (carries w.settings.hosts) w.history.rows (hosts_of w) (synced_hold w is synced) event

pub frame_let_in : (w : World) (event : Event) → IsWorld w → IsSynced w → IsLetIn w.history.rows (fabric_verdict (hosts_of w) event)
frame_let_in w event is synced = in-by-tables (carries w.settings.hosts) w.history.rows (hosts_of w) (synced_hold w is synced) event

pub frame_let_out : (w : World) (event : Event) → IsWorld w → IsSynced w → IsLetOut w.history.rows event (fabric_verdict (hosts_of w) event)
frame_let_out w event is synced = out-by-tables (carries w.settings.hosts) w.history.rows (hosts_of w) (synced_hold w is synced) event

-- the same of a verdict that is answered
pub answer_means : (w v : World) (caller : Caller) (event : Event) (verdict : Verdict) → IsWorld w → lab_outcome w caller (Frames event) ≡ Answered (Seen verdict) v → IsSynced w
    → without_hosts verdict ≡ rows_verdict w.history.rows (all_entries (hosts_of w)) event
answer_means w v caller event verdict is told synced = ap without_hosts (sym (verdict_is w caller event verdict v told)) ∙ frame_means w event is synced

pub answer_crosses : (w v : World) (caller : Caller) (event : Event) (verdict : Verdict) → IsWorld w → lab_outcome w caller (Frames event) ≡ Answered (Seen verdict) v → IsSynced w → CrossesAtRouters w.history.rows verdict
answer_crosses w v caller event verdict is told synced = subst (CrossesAtRouters w.history.rows) (verdict_is w caller event verdict v told) (frame_crosses w event is synced)

pub answer_let_in : (w v : World) (caller : Caller) (event : Event) (verdict : Verdict) → IsWorld w → lab_outcome w caller (Frames event) ≡ Answered (Seen verdict) v → IsSynced w → IsLetIn w.history.rows verdict
answer_let_in w v caller event verdict is told synced = subst (IsLetIn w.history.rows) (verdict_is w caller event verdict v told) (frame_let_in w event is synced)

pub answer_let_out : (w v : World) (caller : Caller) (event : Event) (verdict : Verdict) → IsWorld w → lab_outcome w caller (Frames event) ≡ Answered (Seen verdict) v → IsSynced w → IsLetOut w.history.rows event verdict
answer_let_out w v caller event verdict is told synced = subst (IsLetOut w.history.rows event) (verdict_is w caller event verdict v told) (frame_let_out w event is synced)

-- an event makes no more entries than there is room for
pub fresh_few : (hosts : List Host) (event : Event) → HasEightBits event → length (fabric_verdict hosts event).fresh ≤ 256
fresh_few hosts event bits = (bounded-by_tables hosts event bits).fresh

-- ---- behind an event

added_hosts : (place : ℕ) (agents : List Agent) (fresh : List Made) → map host_of (add_from place agents fresh) ≡ with_made_from place (map host_of agents) fresh
added_hosts place [] fresh = refl
added_hosts place (a ∷ agents) fresh = λ j. record { name = a.name; tables = a.tables; entries = a.entries ++ filter_map (made_at place) fresh } ∷ added_hosts (suc place) agents fresh j

pub sent_hosts : (w : World) (event : Event) → hosts_of (step w (Send event)) ≡ hosts_after (hosts_of w) event
sent_hosts w event = added_hosts 0 w.agents (fabric_verdict (hosts_of w) event).fresh
