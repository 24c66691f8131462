-- Calls of the lab with their answers, by what is done with the hosts.
use Rattle.std.proofs.Common.{inl, inr, ◌⊎◌, ◌≡◌, ◌<◌, ℕ, List, [], ◌∷◌, Bool, true, false, not, None, Some, refl, ap, sym, subst, ◌∙◌, map, slice_get}
use Rattle.std.specs.Prelude.{◌==◌}
use Rattle.api_types.specs.Refusing.{first_refusal, when}
use Rattle.api_types.specs.RowLists.{RowLists}
use Rattle.api_types.specs.declared.call.Caller.{Caller}
use Rattle.api_types.specs.declared.change.Item.{Item}
use Rattle.api_types.specs.declared.page.PageRow.{PageRow}
use Rattle.api_types.specs.declared.refusal.Refusal.{Refusal}
use Rattle.api_types.specs.declared.refusal.Refusal.TheVariants.{NoHost, NoMessage, NoPage, OutOfMemory, VersionMoved}
use Rattle.net_settings.specs.Settings.{SettingsParts}
use Rattle.plane_types.specs.Node.{Agent, Node, after_change, after_forget, after_restart, after_resync, agents_of, hearing, host_of, ready_for}
use Rattle.plane_types.specs.Verdicts.{fabric_verdict}
use Rattle.plane_types.specs.declared.ask.Heard.{Heard}
use Rattle.plane_types.specs.declared.ask.HostState.{HostState}
use Rattle.plane_types.specs.declared.ask.LabAnswer.{LabAnswer}
use Rattle.plane_types.specs.declared.ask.LabAnswer.TheVariants.{Change, Hosts, Page, Seen, Tables, Told, Version}
use Rattle.plane_types.specs.declared.ask.LabCall.{LabCall}
use Rattle.plane_types.specs.declared.ask.LabCall.TheVariants as call
use Rattle.plane_types.specs.declared.ask.Reply.TheVariants.{LabDone}
use Rattle.plane_types.specs.declared.event.Event.{Event}
use Rattle.plane_types.specs.declared.verdict.Made.{Made}
use Rattle.plane_types.specs.declared.verdict.Verdict.{Verdict}
use Rattle.wire_types.specs.Pages.{all_rows, is_last_page, is_page, page}
use Rattle.bus_core.specs.History.{change_at}
use Rattle.bus_core.specs.Kept.{IsGone, Kept, change_of, first_of}
use Rattle.bus_core.proofs.HistoryLaw.{gone_none}
use Rattle.world_laws.specs.Steps.{Deliver, Forget, Resync, Restart, Send, Settle, Step, add_from, after_settle, at_host, deliver_kept, step}
use Rattle.world_laws.specs.World.{World}
use Rattle.world_laws.proofs.SyncLaw.{settle_syncs}
use Rattle.lab_world.specs.Lab.{Answered, Barred, IsBarred, LabOutcome, change_told, delivered, event_refusal, for_admins, host_named, host_state, lab_outcome, page_refusal, page_told, stepped, unless_barred, version_told, with_host}
use Rattle.lab_world.specs.Hosts.{IsNamedAt, at_place, named_node, settle_each, state_at_version, state_with}
use Rattle.lab_world.specs.Parts.{AreParts, world_seen}
use Rattle.lab_world.specs.World.{ByLab, IsHandled}
use Rattle.lab_world.proofs.Asking.{delivered_told, found, frames_told, hosts_answered, is_handled, stepped_told, undelivered, unfound, admitted}
use Rattle.lab_world.proofs.One.{found_at, none_named, place_named, some_named}
use Rattle.lab_world.proofs.Parts.{by_step, once_named, sent}
use Rattle.lab_world.proofs.Seen.{settle_ready, states_named, states_same, states_settled}

module _ (settings : SettingsParts) (rows : RowLists) (version : ℕ) (kept : Kept) (nodes : List Node) (manual : Bool) (are : AreParts settings rows version kept nodes manual) (caller : Caller) where
  abbrev old : World
  old = world_seen settings rows version kept nodes manual

  -- the world with these hosts is the one behind a call that is answered so
  abbrev IsBehind : LabCall → LabAnswer → List Node → World → Type 0
  IsBehind c answer new w = AreParts settings rows version kept new manual × IsHandled (ByLab (lab_outcome w caller c)) w (world_seen settings rows version kept new manual) (LabDone answer)

  behind : (s : Step) (c : LabCall) (answer : LabAnswer) (new : List Node) (w : World) → old ≡ w → AreParts settings rows version kept new manual × (world_seen settings rows version kept new manual ≡ step old s)
      → lab_outcome old caller c ≡ Answered answer (step old s) → IsBehind c answer new w
  behind s c answer new w is on told = (
    on.0,
    subst (λ (v : World). IsHandled (ByLab (lab_outcome v caller c)) v (world_seen settings rows version kept new manual) (LabDone answer)) is
        (is_handled old (world_seen settings rows version kept new manual) (lab_outcome old caller c) answer (told ∙ ap (Answered answer) (sym on.1))),
  )

  done : (name : List ℕ) (f : Agent → Agent) (at : ℕ) (new : List Node) → IsNamedAt name nodes at → agents_of new ≡ at_place at f (agents_of nodes) → agents_of new ≡ at_host name f (agents_of nodes)
  done name f at new named is = is ∙ place_named name f at nodes (once_named settings rows version kept nodes manual are name) named

  -- a step that is told, at a host that is there
  told_at : (name : List ℕ) (at : ℕ) (s : Step) (states : List HostState) → caller.admin ≡ true → IsNamedAt name nodes at → states ≡ map host_state (step old s).agents
      → for_admins caller (with_host name (host_named old name) (λ a. stepped old s)) ≡ Answered (Hosts states) (step old s)
  told_at name at s states admin named is =
      let n = found_at name nodes at (once_named settings rows version kept nodes manual are name) named in
      found caller name (host_named old name) n.0.agent (λ a. stepped old s) admin n.2 ∙ stepped_told old s states is

  pub restarts : (name : List ℕ) (at : ℕ) (states : List HostState) (new : List Node) (w : World) → world_seen settings rows version kept nodes manual ≡ w → caller.admin ≡ true → IsNamedAt name nodes at
      → states ≡ map (state_with name None) (agents_of nodes) → agents_of new ≡ at_place at after_restart (agents_of nodes)
      → AreParts settings rows version kept new manual × IsHandled (ByLab (lab_outcome w caller (call.Restart name))) w (world_seen settings rows version kept new manual) (LabDone (Hosts states))
  restarts name at states new w is admin named told is_put =
      behind (Restart name) (call.Restart name) (Hosts states) new w is
      (by_step settings rows version kept nodes manual are (Restart name) (at_host name after_restart (agents_of nodes)) refl tt new (done name after_restart at new named is_put))
      (told_at name at (Restart name) states admin named (told ∙ states_named name None after_restart (λ a. refl) (agents_of nodes)))

  pub resyncs : (name : List ℕ) (at : ℕ) (states : List HostState) (new : List Node) (w : World) → world_seen settings rows version kept nodes manual ≡ w → caller.admin ≡ true → IsNamedAt name nodes at
      → states ≡ map (state_with name (Some version)) (agents_of nodes) → agents_of new ≡ at_place at (after_resync version rows) (agents_of nodes)
      → AreParts settings rows version kept new manual × IsHandled (ByLab (lab_outcome w caller (call.Resync name))) w (world_seen settings rows version kept new manual) (LabDone (Hosts states))
  resyncs name at states new w is admin named told is_put =
      behind (Resync name) (call.Resync name) (Hosts states) new w is
      (by_step settings rows version kept nodes manual are (Resync name) (at_host name (after_resync version rows) (agents_of nodes)) refl tt new (done name (after_resync version rows) at new named is_put))
      (told_at name at (Resync name) states admin named (told ∙ states_named name (Some version) (after_resync version rows) (λ a. refl) (agents_of nodes)))

  pub forgets : (name : List ℕ) (at : ℕ) (states : List HostState) (new : List Node) (w : World) → world_seen settings rows version kept nodes manual ≡ w → caller.admin ≡ true → IsNamedAt name nodes at
      → states ≡ map host_state (agents_of nodes) → agents_of new ≡ at_place at after_forget (agents_of nodes)
      → AreParts settings rows version kept new manual × IsHandled (ByLab (lab_outcome w caller (call.Forget name))) w (world_seen settings rows version kept new manual) (LabDone (Hosts states))
  forgets name at states new w is admin named told is_put =
      behind (Forget name) (call.Forget name) (Hosts states) new w is
      (by_step settings rows version kept nodes manual are (Forget name) (at_host name after_forget (agents_of nodes)) refl tt new (done name after_forget at new named is_put))
      (told_at name at (Forget name) states admin named (told ∙ states_same name after_forget (λ a. refl) (agents_of nodes)))

  pub settles : (states : List HostState) (new : List Node) (w : World) → world_seen settings rows version kept nodes manual ≡ w → caller.admin ≡ true
      → states ≡ map (state_at_version version) (agents_of nodes) → agents_of new ≡ settle_each version (map (ready_for version rows) (agents_of nodes)) (agents_of nodes)
      → AreParts settings rows version kept new manual × IsHandled (ByLab (lab_outcome w caller call.Settle)) w (world_seen settings rows version kept new manual) (LabDone (Hosts states))
  settles states new w is admin told is_put =
      behind Settle call.Settle (Hosts states) new w is
      (by_step settings rows version kept nodes manual are Settle (map (after_settle version rows) (agents_of nodes)) refl tt new (is_put ∙ settle_ready version rows (agents_of nodes)))
      (admitted caller (stepped old Settle) admin ∙ stepped_told old Settle states (told ∙ states_settled version rows (agents_of nodes) (settle_syncs old)))

  pub delivers : (name : List ℕ) (at number : ℕ) (c : List Item) (h : Heard) (new : List Node) (w : World) → world_seen settings rows version kept nodes manual ≡ w → caller.admin ≡ true → IsNamedAt name nodes at
      → change_of version kept.changes number ≡ Some c → ((n : Node) → slice_get nodes at ≡ Some n → h ≡ hearing number n.agent.held) → agents_of new ≡ at_place at (after_change number c) (agents_of nodes)
      → AreParts settings rows version kept new manual × IsHandled (ByLab (lab_outcome w caller (call.Deliver name number))) w (world_seen settings rows version kept new manual) (LabDone (Told h))
  delivers name at number c h new w is admin named there told is_put =
      let n = found_at name nodes at (once_named settings rows version kept nodes manual are name) named in
      behind (Deliver name number) (call.Deliver name number) (Told h) new w is
      (by_step settings rows version kept nodes manual are (Deliver name number) (at_host name (after_change number c) (agents_of nodes)) (ap (deliver_kept old name number) there) tt new
      (done name (after_change number c) at new named is_put))
      (found caller name (host_named old name) n.0.agent (λ a. delivered old name number a (change_at old.history number)) admin n.2
      ∙ delivered_told old name number n.0.agent c there ∙ ap (λ x. Answered (Told x) (step old (Deliver name number))) (sym (told n.0 n.1)))

  -- no host has the name, or the change isn't kept
  pub nowhere : (name : List ℕ) (on : Agent → LabOutcome) → caller.admin ≡ true → named_node name nodes ≡ None → for_admins caller (with_host name (host_named (world_seen settings rows version kept nodes manual) name) on) ≡ Barred (NoHost name)
  nowhere name on admin none = unfound caller name (host_named old name) on admin (none_named name nodes none)

  pub gone : (name : List ℕ) (at number : ℕ) → caller.admin ≡ true → IsNamedAt name nodes at → change_of version kept.changes number ≡ None
      → lab_outcome (world_seen settings rows version kept nodes manual) caller (call.Deliver name number) ≡ Barred (NoMessage number (first_of version kept.changes) version)
  gone name at number admin named none =
      let n = found_at name nodes at (once_named settings rows version kept nodes manual are name) named in
      found caller name (host_named old name) n.0.agent (λ a. delivered old name number a (change_at old.history number)) admin n.2 ∙ undelivered old name number n.0.agent none

  pub barred : (name : List ℕ) (on : World → Agent → LabOutcome) (w : World) → world_seen settings rows version kept nodes manual ≡ w → caller.admin ≡ true → (refusal : Refusal)
      → (refusal ≡ OutOfMemory) ⊎ ((refusal ≡ NoHost name) × (named_node name nodes ≡ None)) → IsBarred (for_admins caller (with_host name (host_named w name) (on w))) refusal
  barred name on w is admin refusal (inl memory) = inl memory
  barred name on w is admin refusal (inr (same, none)) = inr (subst (λ (v : World). for_admins caller (with_host name (host_named v name) (on v)) ≡ Barred refusal) is (nowhere name (on old) admin none ∙ ap Barred (sym same)))

  pub ungiven : (name : List ℕ) (at number : ℕ) (w : World) → world_seen settings rows version kept nodes manual ≡ w → caller.admin ≡ true → IsNamedAt name nodes at → (refusal : Refusal)
      → (refusal ≡ NoMessage number (first_of kept.last kept.changes) kept.last) × IsGone kept number → IsBarred (lab_outcome w caller (call.Deliver name number)) refusal
  ungiven name at number w is admin named refusal (same, past) =
      let by_version : refusal ≡ NoMessage number (first_of version kept.changes) version = same ∙ (λ j. NoMessage number (first_of (are.numbered j) kept.changes) (are.numbered j)) in
      let gone_now : (number < first_of version kept.changes) ⊎ (version < number) = subst (λ (n : ℕ). (number < first_of n kept.changes) ⊎ (n < number)) are.numbered past in
      inr (subst (λ (v : World). lab_outcome v caller (call.Deliver name number) ≡ Barred refusal) is
      (gone name at number admin named (gone_none old.history number are.world.lead.history.numbered gone_now) ∙ ap Barred (sym by_version)))

  -- ---- calls that only tell

  pub hosts_seen : (states : List HostState) → caller.admin ≡ true → states ≡ map host_state (agents_of nodes) → lab_outcome (world_seen settings rows version kept nodes manual) caller call.Hosts ≡ Answered (Hosts states) (world_seen settings rows version kept nodes manual)
  hosts_seen states admin is = hosts_answered old caller states admin is

  pub tables_seen : (name : List ℕ) (answer : LabAnswer) → caller.admin ≡ true → (n : Node) × (named_node name nodes ≡ Some n) × (answer ≡ Tables n.agent.tables)
      → lab_outcome (world_seen settings rows version kept nodes manual) caller (call.Tables name) ≡ Answered answer (world_seen settings rows version kept nodes manual)
  tables_seen name answer admin (n, is, same) = found caller name (host_named old name) n.agent (λ a. Answered (Tables a.tables) old) admin (some_named name nodes n is) ∙ ap (λ a. Answered a old) (sym same)

  -- ---- what agents in other processes ask

  pub version_seen : (first last : ℕ) → caller.admin ≡ true → first ≡ first_of kept.last kept.changes → last ≡ kept.last
      → lab_outcome (world_seen settings rows version kept nodes manual) caller call.Version ≡ Answered (Version first last) (world_seen settings rows version kept nodes manual)
  version_seen first last admin first_is last_is =
      let is_first : first_of version kept.changes ≡ first = sym (first_is ∙ ap (λ n. first_of n kept.changes) are.numbered) in
      admitted caller (Answered (version_told old) old) admin ∙ (λ j. Answered (Version (is_first j) (sym (last_is ∙ are.numbered) j)) old)

  pub change_seen : (number : ℕ) (c items : List Item) → caller.admin ≡ true → change_of kept.last kept.changes number ≡ Some c → items ≡ c
      → lab_outcome (world_seen settings rows version kept nodes manual) caller (call.Change number) ≡ Answered (Change number items) (world_seen settings rows version kept nodes manual)
  change_seen number c items admin there same =
      admitted caller (change_told old number (change_at old.history number)) admin
      ∙ ap (change_told old number) (ap (λ n. change_of n kept.changes number) (sym are.numbered) ∙ there)
      ∙ ap (λ x. Answered (Change number x) old) (sym same)

  pub change_gone : (number : ℕ) → caller.admin ≡ true → (refusal : Refusal) → (refusal ≡ NoMessage number (first_of kept.last kept.changes) kept.last) × IsGone kept number
      → lab_outcome (world_seen settings rows version kept nodes manual) caller (call.Change number) ≡ Barred refusal
  change_gone number admin refusal (same, past) =
      let by_version : refusal ≡ NoMessage number (first_of version kept.changes) version = same ∙ (λ j. NoMessage number (first_of (are.numbered j) kept.changes) (are.numbered j)) in
      let gone_now : (number < first_of version kept.changes) ⊎ (version < number) = subst (λ (n : ℕ). (number < first_of n kept.changes) ⊎ (n < number)) are.numbered past in
      admitted caller (change_told old number (change_at old.history number)) admin
      ∙ ap (change_told old number) (gone_none old.history number are.world.lead.history.numbered gone_now)
      ∙ ap Barred (sym by_version)

  -- a page is looked for by its version first
  page_by : (number v : ℕ) (a b : Bool) → (v == version) ≡ a → is_page number (all_rows rows) ≡ b
      → page_refusal old v number ≡ first_refusal (when (not a) (VersionMoved v version) ∷ when (not b) (NoPage number) ∷ [])
  page_by number v a b same there = λ j. first_refusal (when (not (same j)) (VersionMoved v version) ∷ when (not (there j)) (NoPage number) ∷ [])

  abbrev page_answered : ℕ → ℕ → LabOutcome
  page_answered v number = Answered (page_told old v number) old

  pub page_moved : (v number : ℕ) → caller.admin ≡ true → (v == version) ≡ false → lab_outcome (world_seen settings rows version kept nodes manual) caller (call.Page v number) ≡ Barred (VersionMoved v version)
  page_moved v number admin moved =
      admitted caller (unless_barred (page_refusal old v number) (page_answered v number)) admin
      ∙ ap (λ r. unless_barred r (page_answered v number)) (page_by number v false (is_page number (all_rows rows)) moved refl)

  pub page_missing : (v number : ℕ) → caller.admin ≡ true → (v == version) ≡ true → is_page number (all_rows rows) ≡ false
      → lab_outcome (world_seen settings rows version kept nodes manual) caller (call.Page v number) ≡ Barred (NoPage number)
  page_missing v number admin same none =
      admitted caller (unless_barred (page_refusal old v number) (page_answered v number)) admin
      ∙ ap (λ r. unless_barred r (page_answered v number)) (page_by number v true false same none)

  pub page_seen : (v number : ℕ) (last : Bool) (shown : List PageRow) → caller.admin ≡ true → (v == version) ≡ true → is_page number (all_rows rows) ≡ true
      → shown ≡ page number (all_rows rows) → last ≡ is_last_page number (all_rows rows)
      → lab_outcome (world_seen settings rows version kept nodes manual) caller (call.Page v number) ≡ Answered (Page v number last shown) (world_seen settings rows version kept nodes manual)
  page_seen v number last shown admin same there shown_is last_is =
      admitted caller (unless_barred (page_refusal old v number) (page_answered v number)) admin
      ∙ ap (λ r. unless_barred r (page_answered v number)) (page_by number v true true same there)
      ∙ (λ j. Answered (Page v number (sym last_is j) (sym shown_is j)) old)

  -- ---- frames

  pub carries_on : (event : Event) (verdict : Verdict) (fresh : List Made) (new : List Node) (w : World) → world_seen settings rows version kept nodes manual ≡ w → event_refusal rows caller event ≡ None
      → verdict ≡ fabric_verdict (map host_of (agents_of nodes)) event → fresh ≡ verdict.fresh → agents_of new ≡ add_from 0 (agents_of nodes) fresh
      → AreParts settings rows version kept new manual × IsHandled (ByLab (lab_outcome w caller (call.Frames event))) w (world_seen settings rows version kept new manual) (LabDone (Seen verdict))
  carries_on event verdict fresh new w is none verdict_is fresh_is is_put =
      behind (Send event) (call.Frames event) (Seen verdict) new w is
      (sent settings rows version kept nodes manual are event new (is_put ∙ ap (add_from 0 (agents_of nodes)) (fresh_is ∙ ap (λ (v : Verdict). v.fresh) verdict_is)))
      (frames_told old caller event verdict none verdict_is)
