-- What a handled ask says of the step and its reply.
use Rattle.std.proofs.Common.{inl, inr, ◌≡◌, ℕ, ◌+◌, List, [], ◌∷◌, Bool, true, false, Option, None, Some, refl, ap, sym, subst, ◌∙◌, arith}
use Rattle.std.specs.Prelude.{◌&&◌, ◌==◌, if◌then◌else◌, not, suc, ⊤}
use Rattle.std.proofs.lemmas.Bool.Decides.{nat_tests}
use Rattle.std.proofs.lemmas.List.{append-nil}
use Rattle.api_types.specs.Lists.{is_empty}
use Rattle.api_types.specs.Outcome.{Told, Moved}
use Rattle.api_types.specs.Outcome as outcomes
use Rattle.api_types.specs.declared.call.Caller.{Caller}
use Rattle.api_types.specs.declared.refusal.PolicyRule.TheVariants.{AdminOnly}
use Rattle.api_types.specs.declared.refusal.Refusal.{Refusal}
use Rattle.api_types.specs.declared.refusal.Refusal.TheVariants.{Forbidden, OutOfMemory, StoreFault}
use Rattle.api_types.specs.Refusing.{when}
use Rattle.http_heads.specs.Fields.{closes}
use Rattle.http_heads.specs.Heads.{Asked}
use Rattle.bus_core.specs.History.{change_at}
use Rattle.api_machine.specs.WholeStep.{api_step}
use Rattle.api_types.specs.declared.change.Item.{Item}
use Rattle.plane_types.specs.Node.{Agent}
use Rattle.world_laws.specs.Steps.{add_from}
use Rattle.world_laws.specs.World.{World, hosts_of}
use Rattle.lab_world.specs.Lab.{Barred, LabOutcome, change_told, delivered, event_refusal, host_named, lab_outcome, page_refusal, unless_barred, with_host}
use Rattle.lab_world.specs.Lab as lab
use Rattle.lab_world.specs.World.{AskOutcome, ByLab, ByMachine, Handles, IsHandled, IsTold, MovesBy, ask_outcome, is_change, state_of}
use Rattle.http_session.specs.Told.{Answered, Moves, StoreFailed}
use Rattle.neutron_serve.specs.Replies.{outcome_bytes, refusal_bytes, reply_written}
use Rattle.neutron_serve.specs.Causes.{cause_in, may_move, moves_hosts}
use Rattle.neutron_serve.specs.Requests.{request_of}
use Rattle.http_session.specs.Answers.{MovesBy as MovesIn}
use Rattle.http_session.specs.declared.handler.Answer.TheVariants as answer
use Rattle.api_types.proofs.ListLemmas.{and_both}
use Rattle.api_types.proofs.NameLemmas.{not_true}
use Rattle.neutron_serve.specs.Steps.{Steps, fixed_replies, request_outcome}
use Rattle.neutron_serve.specs.declared.api.Cause.TheVariants.{NoMemory, Step, StoreFault as CauseOfStore}
use Rattle.plane_types.specs.Verdicts.{fabric_verdict}
use Rattle.plane_types.specs.declared.ask.Ask.{Ask}
use Rattle.plane_types.specs.declared.ask.Ask.TheVariants.{Api, Lab}
use Rattle.plane_types.specs.declared.ask.LabCall.{LabCall}
use Rattle.plane_types.specs.declared.ask.LabCall.TheVariants as call
use Rattle.plane_types.specs.declared.verdict.Made.{Made}
use Rattle.plane_types.specs.declared.ask.Reply.{Reply}
use Rattle.plane_types.specs.declared.ask.Reply.TheVariants.{Done, LabDone, Refused}

told_written : (close : Bool) (outcome : AskOutcome) (reply : Reply) → IsTold outcome reply → outcome_bytes close outcome ≡ reply_written close reply
told_written close (ByMachine outcome) (Done answer) (inl told) = ap (λ o. outcome_bytes close (ByMachine o)) told
told_written close (ByMachine outcome) (Done answer) (inr moved) = ap (λ o. outcome_bytes close (ByMachine o)) moved.1
told_written close (ByMachine outcome) (Refused refusal) told = ap (λ o. outcome_bytes close (ByMachine o)) told
told_written close (ByMachine outcome) (LabDone answer) told = absurd told
told_written close (ByLab outcome) (Done answer) told = absurd told
told_written close (ByLab outcome) (Refused refusal) told = ap (λ o. outcome_bytes close (ByLab o)) told
told_written close (ByLab outcome) (LabDone answer) told = ap (λ o. outcome_bytes close (ByLab o)) told.1

-- a handled request is one step
pub handled_steps : (old new : World) (asked : Asked) (reply : Reply) (close : Bool) → close ≡ closes asked.head
    → IsHandled (request_outcome old (request_of asked)) old new reply → Steps old asked (reply_written close reply) new
handled_steps old new asked reply close same handled = record {
  moves = handled.moves;
  replies = ap (λ (c : Bool). reply_written c reply) same ∙ sym (told_written (closes asked.head) _ reply handled.tells);
}

refused_same : (outcome : AskOutcome) (old new : World) (refusal : Refusal) → IsHandled outcome old new (Refused refusal) → new ≡ old
refused_same (ByMachine outcome) old new refusal handled = subst (λ o. MovesBy old (ByMachine o) new) handled.tells handled.moves
refused_same (ByLab outcome) old new refusal handled = subst (λ o. MovesBy old (ByLab o) new) handled.tells handled.moves

-- after a refusal all is as it was
pub refusal_same : (outcome : AskOutcome) (old new : World) (refusal : Refusal) → Handles outcome old new (Refused refusal) → new ≡ old
refusal_same outcome old new refusal (inl handled) = refused_same outcome old new refusal handled
refusal_same outcome old new refusal (inr outside) = outside.1

-- ---- calls of the lab that leave the hosts as they are

-- where nothing was made, each host keeps its entries
none_added : (place : ℕ) (agents : List Agent) → add_from place agents [] ≡ agents
none_added place [] = refl
none_added place (a ∷ agents) = λ j. record a { entries = append-nil a.entries j } ∷ none_added (suc place) agents j

no_entries : (fresh : List Made) → not (is_empty fresh) ≡ false → fresh ≡ []
no_entries [] h = refl
no_entries (m ∷ ms) h = absurd cc

-- the world after an answer that is given while hosts don't move
abbrev Quiet : World → LabCall → LabOutcome → Type 0
Quiet old c (Barred refusal) = ⊤
Quiet old c (lab.Answered answer w) = moves_hosts c answer ≡ false → w ≡ old

quiet_unless : (old : World) (c : LabCall) (barred : Option Refusal) (outcome : LabOutcome) → Quiet old c outcome → Quiet old c (unless_barred barred outcome)
quiet_unless old c None outcome quiet = quiet
quiet_unless old c (Some refusal) outcome quiet = tt

quiet_host : (old : World) (c : LabCall) (name : List ℕ) (h : Option Agent) (on : Agent → LabOutcome) → ((a : Agent) → Quiet old c (on a)) → Quiet old c (with_host name h on)
quiet_host old c name None on quiet = tt
quiet_host old c name (Some a) on quiet = quiet a

quiet_delivered : (old : World) (name : List ℕ) (number : ℕ) (a : Agent) (c : Option (List Item)) → Quiet old (call.Deliver name number) (delivered old name number a c)
quiet_delivered old name number a None = tt
quiet_delivered old name number a (Some c) = λ none. absurd cc

quiet_change : (old : World) (number : ℕ) (c : Option (List Item)) → Quiet old (call.Change number) (change_told old number c)
quiet_change old number None = tt
quiet_change old number (Some c) = λ none. refl

quiet_lab : (w : World) (caller : Caller) (c : LabCall) → Quiet w c (lab_outcome w caller c)
quiet_lab w caller (call.Frames event) =
    quiet_unless w (call.Frames event) (event_refusal w.history.rows caller event) _
    (λ none. ap (λ (fresh : List Made). record w { agents = add_from 0 w.agents fresh }) (no_entries (fabric_verdict (hosts_of w) event).fresh none) ∙ ap (λ (agents : List Agent). record w { agents = agents }) (none_added 0 w.agents))
quiet_lab w caller (call.Explain event) = quiet_unless w (call.Explain event) (event_refusal w.history.rows caller event) _ (λ none. refl)
quiet_lab w caller call.Hosts = quiet_unless w call.Hosts (when (not caller.admin) (Forbidden AdminOnly)) _ (λ none. refl)
quiet_lab w caller (call.Tables name) = quiet_unless w (call.Tables name) (when (not caller.admin) (Forbidden AdminOnly)) _ (quiet_host w (call.Tables name) name (host_named w name) _ (λ a none. refl))
quiet_lab w caller (call.Deliver name number) =
    quiet_unless w (call.Deliver name number) (when (not caller.admin) (Forbidden AdminOnly)) _ (quiet_host w (call.Deliver name number) name (host_named w name) _ (λ a. quiet_delivered w name number a (change_at w.history number)))
quiet_lab w caller (call.Resync name) = quiet_unless w (call.Resync name) (when (not caller.admin) (Forbidden AdminOnly)) _ (quiet_host w (call.Resync name) name (host_named w name) _ (λ a none. absurd cc))
quiet_lab w caller (call.Restart name) = quiet_unless w (call.Restart name) (when (not caller.admin) (Forbidden AdminOnly)) _ (quiet_host w (call.Restart name) name (host_named w name) _ (λ a none. absurd cc))
quiet_lab w caller (call.Forget name) = quiet_unless w (call.Forget name) (when (not caller.admin) (Forbidden AdminOnly)) _ (quiet_host w (call.Forget name) name (host_named w name) _ (λ a none. absurd cc))
quiet_lab w caller call.Settle = quiet_unless w call.Settle (when (not caller.admin) (Forbidden AdminOnly)) _ (λ none. absurd cc)
quiet_lab w caller call.Version = quiet_unless w call.Version (when (not caller.admin) (Forbidden AdminOnly)) _ (λ none. refl)
quiet_lab w caller (call.Change number) = quiet_unless w (call.Change number) (when (not caller.admin) (Forbidden AdminOnly)) _ (quiet_change w number (change_at w.history number))
quiet_lab w caller (call.Page version number) =
    quiet_unless w (call.Page version number) (when (not caller.admin) (Forbidden AdminOnly)) _ (quiet_unless w (call.Page version number) (page_refusal w version number) _ (λ none. refl))

-- ---- what moves the world

unmoved_lab : (c : LabCall) (outcome : LabOutcome) (old new : World) (reply : Reply) → Quiet old c outcome → IsTold (ByLab outcome) reply → MovesBy old (ByLab outcome) new → may_move (Lab c) reply ≡ false → new ≡ old
unmoved_lab c (Barred refusal) old new reply quiet told moves none = moves
unmoved_lab c (lab.Answered a w) old new (LabDone answer) quiet told moves none =
    let same : a ≡ answer = cc in
    moves ∙ quiet (ap (moves_hosts c) same ∙ none)
unmoved_lab c (lab.Answered a w) old new (Done answer) quiet told moves none = absurd told
unmoved_lab c (lab.Answered a w) old new (Refused refusal) quiet told moves none = absurd cc

unmoved_call : (outcome : outcomes.Outcome) (old new : World) → MovesBy old (ByMachine outcome) new → new.history.version ≡ old.history.version → new ≡ old
unmoved_call (outcomes.Refused refusal) old new moves same = moves
unmoved_call (Told told) old new moves same = moves
unmoved_call (Moved rows told) old new moves same = absurd (above old.history.version (sym same ∙ ap (λ (w : World). w.history.version) moves.is))
  where
    above : (n : ℕ) → n ≡ n + 1 → ⊥
    above n h = omega (arith, h)

unmoved : (w : World) (caller : Caller) (ask : Ask) (new : World) (reply : Reply) → IsHandled (ask_outcome w caller ask) w new reply → new.history.version ≡ w.history.version → may_move ask reply ≡ false → new ≡ w
unmoved w caller (Api c) new reply handled same none = unmoved_call (api_step w.settings (state_of w) caller c) w new handled.moves same
unmoved w caller (Lab c) new reply handled same none = unmoved_lab c (lab_outcome w caller c) w new reply (quiet_lab w caller c) handled.tells handled.moves none

-- at the same version, and where hosts can't have moved, all is as it was
pub still_same : (old new : World) (caller : Caller) (ask : Ask) (reply : Reply) → Handles (ask_outcome old caller ask) old new reply
    → (new.history.version == old.history.version) && not (may_move ask reply) ≡ true → new ≡ old
still_same old new caller ask reply (inl handled) is =
    let both = and_both (new.history.version == old.history.version) (not (may_move ask reply)) is in
    let version : new.history.version ≡ old.history.version = let e = both.0 in grind (arith, nat_tests, e) in
    unmoved old caller ask new reply handled version (not_true (may_move ask reply) both.1)
still_same old new caller ask reply (inr outside) is = outside.1

-- a reply that tells of no want of memory and no failure of the store is the step's
pub inside_handled : (outcome : AskOutcome) (old new : World) (reply : Reply) → Handles outcome old new reply → (reply ≡ Refused OutOfMemory → ⊥) → (reply ≡ Refused StoreFault → ⊥)
    → IsHandled outcome old new reply
inside_handled outcome old new reply (inl handled) memory store = handled
inside_handled outcome old new reply (inr (inl wanting, same)) memory store = absurd (memory wanting)
inside_handled outcome old new reply (inr (inr failed, same)) memory store = absurd (store failed.0)

-- the store failed: nothing moved, and the reply says so
pub store_failed_moves : (old new : World) (asked : Asked) (reply : Reply) (close : Bool) (written : List ℕ) → reply ≡ Refused StoreFault → is_change (request_outcome old (request_of asked)) ≡ true → close ≡ closes asked.head
    → written ≡ reply_written close reply → Handles (request_outcome old (request_of asked)) old new reply → Moves Steps fixed_replies old asked (StoreFailed written) new
store_failed_moves old new asked reply close written is change same bytes handled = (
  change,
  refusal_same _ old new StoreFault (subst (Handles (request_outcome old (request_of asked)) old new) is handled),
  bytes ∙ (ap (reply_written close) is ∙ ap (λ (c : Bool). refusal_bytes c StoreFault) same),
)

-- any other reply but want of memory is the step's
pub answered_moves : (old new : World) (asked : Asked) (reply : Reply) (close : Bool) (written : List ℕ) → (reply ≡ Refused OutOfMemory → ⊥) → (reply ≡ Refused StoreFault → ⊥)
    → close ≡ closes asked.head → written ≡ reply_written close reply → Handles (request_outcome old (request_of asked)) old new reply
    → Moves Steps fixed_replies old asked (Answered written) new
answered_moves old new asked reply close written memory store same bytes handled =
    subst (λ (b : List ℕ). Steps old asked b new) (sym bytes) (handled_steps old new asked reply close same (inside_handled _ old new reply handled memory store))

-- by its cause: a step's reply tells of neither
pub step_moves : (old new : World) (asked : Asked) (reply : Reply) (close : Bool) (written : List ℕ) → cause_in reply ≡ Step → close ≡ closes asked.head
    → written ≡ reply_written close reply → Handles (request_outcome old (request_of asked)) old new reply → Moves Steps fixed_replies old asked (Answered written) new
step_moves old new asked reply close written cause same bytes handled =
    answered_moves old new asked reply close written (λ e. other (sym (ap cause_in e) ∙ cause)) (λ e. failed (sym (ap cause_in e) ∙ cause)) same bytes handled
  where
    other : NoMemory ≡ Step → ⊥
    other h = absurd cc

    failed : CauseOfStore ≡ Step → ⊥
    failed h = absurd cc

-- the reply could not be written: nothing moved, or the step is made
pub unwritten_moves : (old new : World) (asked : Asked) (reply : Reply) (close same : Bool) → (same ≡ true → new ≡ old) → cause_in reply ≡ Step → close ≡ closes asked.head
    → Handles (request_outcome old (request_of asked)) old new reply → MovesIn Steps fixed_replies old asked (if same then answer.NoMemory else answer.Unwritten) new
unwritten_moves old new asked reply close true is cause closes handled = (refl, is refl)
unwritten_moves old new asked reply close false is cause closes handled = (reply_written close reply, step_moves old new asked reply close (reply_written close reply) cause closes refl handled)
