-- What calls of the lab come to.
use Rattle.std.proofs.Common.{◌≡◌, ℕ, List, Option, None, Some, refl, ap, sym, subst, ◌∙◌, true, map, not}
use Rattle.api_types.specs.Refusing.{when}
use Rattle.api_types.specs.declared.call.Caller.{Caller}
use Rattle.api_types.specs.declared.change.Item.{Item}
use Rattle.api_types.specs.declared.refusal.PolicyRule.TheVariants.{AdminOnly}
use Rattle.api_types.specs.declared.refusal.Refusal.{Refusal}
use Rattle.api_types.specs.declared.refusal.Refusal.TheVariants.{Forbidden, NoHost, NoMessage}
use Rattle.plane_types.specs.Hosts.{all_entries}
use Rattle.plane_types.specs.Verdicts.{fabric_verdict, rows_verdict}
use Rattle.plane_types.specs.declared.ask.HostState.{HostState}
use Rattle.plane_types.specs.declared.ask.LabAnswer.{LabAnswer}
use Rattle.plane_types.specs.declared.ask.LabAnswer.TheVariants.{Hosts, Seen, Told}
use Rattle.plane_types.specs.declared.ask.LabCall.TheVariants as call
use Rattle.plane_types.specs.declared.ask.Reply.TheVariants.{LabDone}
use Rattle.plane_types.specs.declared.event.Event.{Event}
use Rattle.plane_types.specs.declared.verdict.Verdict.{Verdict}
use Rattle.bus_core.specs.History.{change_at, first_kept}
use Rattle.plane_types.specs.Node.{Agent, hearing}
use Rattle.world_laws.specs.Steps.{Deliver, Send, Step, step}
use Rattle.world_laws.specs.World.{World, hosts_of}
use Rattle.lab_world.specs.Lab.{Answered, Barred, LabOutcome, delivered, event_refusal, for_admins, host_state, hosts_told, lab_outcome, stepped, unless_barred, with_host}
use Rattle.lab_world.specs.World.{ByLab, IsHandled, MovesBy}

-- an outcome that is answered is handled by the world that it leads to
pub is_handled : (w v : World) (o : LabOutcome) (answer : LabAnswer) → o ≡ Answered answer v → IsHandled (ByLab o) w v (LabDone answer)
is_handled w v o answer is = record { tells = (v, is); moves = subst (λ (x : LabOutcome). MovesBy w (ByLab x) v) (sym is) refl }

pub admitted : (caller : Caller) (o : LabOutcome) → caller.admin ≡ true → for_admins caller o ≡ o
admitted caller o admin = ap (λ b. unless_barred (when (not b) (Forbidden AdminOnly)) o) admin

-- where the host is there
pub found : (caller : Caller) (name : List ℕ) (h : Option Agent) (a : Agent) (on : Agent → LabOutcome) → caller.admin ≡ true → h ≡ Some a → for_admins caller (with_host name h on) ≡ on a
found caller name h a on admin is = admitted caller (with_host name h on) admin ∙ ap (λ x. with_host name x on) is

-- where it isn't
pub unfound : (caller : Caller) (name : List ℕ) (h : Option Agent) (on : Agent → LabOutcome) → caller.admin ≡ true → h ≡ None → for_admins caller (with_host name h on) ≡ Barred (NoHost name)
unfound caller name h on admin is = admitted caller (with_host name h on) admin ∙ ap (λ x. with_host name x on) is

-- a step is told by the states behind it
pub stepped_told : (w : World) (s : Step) (states : List HostState) → states ≡ map host_state (step w s).agents → stepped w s ≡ Answered (Hosts states) (step w s)
stepped_told w s states is = ap (λ x. Answered (Hosts x) (step w s)) (sym is)

-- a change that is kept is told, and one that isn't is refused
pub delivered_told : (w : World) (name : List ℕ) (number : ℕ) (a : Agent) (c : List Item) → change_at w.history number ≡ Some c → delivered w name number a (change_at w.history number) ≡ Answered (Told (hearing number a.held)) (step w (Deliver name number))
delivered_told w name number a c is = ap (delivered w name number a) is

pub undelivered : (w : World) (name : List ℕ) (number : ℕ) (a : Agent) → change_at w.history number ≡ None → delivered w name number a (change_at w.history number) ≡ Barred (NoMessage number (first_kept w.history) w.history.version)
undelivered w name number a is = ap (delivered w name number a) is

-- events that are let through
pub frames_told : (w : World) (caller : Caller) (event : Event) (verdict : Verdict) → event_refusal w.history.rows caller event ≡ None → verdict ≡ fabric_verdict (hosts_of w) event
    → lab_outcome w caller (call.Frames event) ≡ Answered (Seen verdict) (step w (Send event))
frames_told w caller event verdict none is =
    ap (λ o. unless_barred o (Answered (Seen (fabric_verdict (hosts_of w) event)) (step w (Send event)))) none ∙ ap (λ v. Answered (Seen v) (step w (Send event))) (sym is)

pub explained_told : (w : World) (caller : Caller) (event : Event) (verdict : Verdict) → event_refusal w.history.rows caller event ≡ None → verdict ≡ rows_verdict w.history.rows (all_entries (hosts_of w)) event
    → lab_outcome w caller (call.Explain event) ≡ Answered (Seen verdict) w
explained_told w caller event verdict none is =
    ap (λ o. unless_barred o (Answered (Seen (rows_verdict w.history.rows (all_entries (hosts_of w)) event)) w)) none ∙ ap (λ v. Answered (Seen v) w) (sym is)

-- what is answered is the verdict of the hosts' tables
pub verdict_is : (w : World) (caller : Caller) (event : Event) (verdict : Verdict) (v : World) → lab_outcome w caller (call.Frames event) ≡ Answered (Seen verdict) v → fabric_verdict (hosts_of w) event ≡ verdict
verdict_is w caller event verdict v h = by (event_refusal w.history.rows caller event) h
  where
    by : (o : Option Refusal) → unless_barred o (Answered (Seen (fabric_verdict (hosts_of w) event)) (step w (Send event))) ≡ Answered (Seen verdict) v → fabric_verdict (hosts_of w) event ≡ verdict
    by None g = cc
    by (Some refusal) g = cc

pub hosts_answered : (w : World) (caller : Caller) (states : List HostState) → caller.admin ≡ true → states ≡ map host_state w.agents → lab_outcome w caller call.Hosts ≡ Answered (Hosts states) w
hosts_answered w caller states admin is = admitted caller (Answered (hosts_told w) w) admin ∙ ap (λ s. Answered (Hosts s) w) (sym is)
