-- Each answer of the lab leads to the world of the ask, or to that after a step of the hosts; so the
-- rows stay.
use Rattle.std.proofs.Common.{◌≡◌, ◌∙◌, List, Option, None, Some, ap, not, refl, subst}
use Rattle.std.specs.Prelude.{⊤}
use Rattle.net_addr.specs.Words.{Text, Version}
use Rattle.api_types.specs.Refusing.{when}
use Rattle.api_types.specs.declared.call.Caller.{Caller}
use Rattle.api_types.specs.declared.change.Item.{Item}
use Rattle.api_types.specs.declared.refusal.PolicyRule.TheVariants.{AdminOnly}
use Rattle.api_types.specs.declared.refusal.Refusal.{Refusal}
use Rattle.api_types.specs.declared.refusal.Refusal.TheVariants.{Forbidden}
use Rattle.plane_types.specs.Node.{Agent}
use Rattle.plane_types.specs.declared.ask.LabAnswer.{LabAnswer}
use Rattle.plane_types.specs.declared.ask.LabCall.{LabCall}
use Rattle.plane_types.specs.declared.ask.LabCall.TheVariants as call
use Rattle.plane_types.specs.declared.ask.Reply.TheVariants.{LabDone}
use Rattle.bus_core.specs.History.{change_at}
use Rattle.world_laws.specs.Steps.{Accept, Deliver, Forget, Resync, Restart, Send, Settle, Step, deliver_kept, step}
use Rattle.world_laws.specs.World.{World}
use Rattle.lab_world.specs.Lab.{Answered, Barred, LabOutcome, change_told, delivered, event_refusal, for_admins, host_named, lab_outcome, page_refusal, unless_barred, with_host}
use Rattle.lab_world.specs.World.{ByLab, IsHandled, MovesBy}

-- the step of the hosts that a call asks for
abbrev pub IsAskedBy : LabCall → Step → Type 0
IsAskedBy c (Accept change) = ⊥
IsAskedBy c (Deliver name number) = c ≡ call.Deliver name number
IsAskedBy c (Resync name) = c ≡ call.Resync name
IsAskedBy c (Restart name) = c ≡ call.Restart name
IsAskedBy c (Forget name) = c ≡ call.Forget name
IsAskedBy c Settle = c ≡ call.Settle
IsAskedBy c (Send event) = c ≡ call.Frames event

-- this holds of the world that an answer leads to
abbrev pub LeadsTo : (World → Type 0) → LabOutcome → Type 0
LeadsTo P (Barred refusal) = ⊤
LeadsTo P (Answered answer w) = P w

unless_leads : (P : World → Type 0) (o : Option Refusal) (x : LabOutcome) → LeadsTo P x → LeadsTo P (unless_barred o x)
unless_leads P None x leads = leads
unless_leads P (Some refusal) x leads = tt

admin_leads : (P : World → Type 0) (caller : Caller) (x : LabOutcome) → LeadsTo P x → LeadsTo P (for_admins caller x)
admin_leads P caller x leads = unless_leads P (when (not caller.admin) (Forbidden AdminOnly)) x leads

host_leads : (P : World → Type 0) (caller : Caller) (name : Text) (h : Option Agent) (on : Agent → LabOutcome) → ((a : Agent) → LeadsTo P (on a)) → LeadsTo P (for_admins caller (with_host name h on))
host_leads P caller name h on leads = admin_leads P caller (with_host name h on) (by h)
  where
    by : (h : Option Agent) → LeadsTo P (with_host name h on)
    by None = tt
    by (Some a) = leads a

delivered_leads : (P : World → Type 0) (w : World) (name : Text) (number : Version) (a : Agent) (c : Option (List Item)) → P (step w (Deliver name number)) → LeadsTo P (delivered w name number a c)
delivered_leads P w name number a None leads = tt
delivered_leads P w name number a (Some c) leads = leads

change_leads : (P : World → Type 0) (w : World) (number : Version) (c : Option (List Item)) → P w → LeadsTo P (change_told w number c)
change_leads P w number None now = tt
change_leads P w number (Some c) now = now

pub lab_leads : (P : World → Type 0) (w : World) → P w → (caller : Caller) (c : LabCall) → ((s : Step) → IsAskedBy c s → P (step w s)) → LeadsTo P (lab_outcome w caller c)
lab_leads P w now caller (call.Frames event) steps = unless_leads P (event_refusal w.history.rows caller event) _ (steps (Send event) refl)
lab_leads P w now caller (call.Explain event) steps = unless_leads P (event_refusal w.history.rows caller event) _ now
lab_leads P w now caller call.Hosts steps = admin_leads P caller _ now
lab_leads P w now caller (call.Tables name) steps = host_leads P caller name (host_named w name) _ (λ a. now)
lab_leads P w now caller (call.Deliver name number) steps =
    host_leads P caller name (host_named w name) _ (λ a. delivered_leads P w name number a (change_at w.history number) (steps (Deliver name number) refl))
lab_leads P w now caller (call.Resync name) steps = host_leads P caller name (host_named w name) _ (λ a. steps (Resync name) refl)
lab_leads P w now caller (call.Restart name) steps = host_leads P caller name (host_named w name) _ (λ a. steps (Restart name) refl)
lab_leads P w now caller (call.Forget name) steps = host_leads P caller name (host_named w name) _ (λ a. steps (Forget name) refl)
lab_leads P w now caller call.Settle steps = admin_leads P caller _ (steps Settle refl)
lab_leads P w now caller call.Version steps = admin_leads P caller _ now
lab_leads P w now caller (call.Change number) steps = admin_leads P caller _ (change_leads P w number (change_at w.history number) now)
lab_leads P w now caller (call.Page version number) steps = admin_leads P caller _ (unless_leads P (page_refusal w version number) _ now)

delivery_keeps_rows : (w : World) (name : Text) (number : Version) (c : Option (List Item)) → (deliver_kept w name number c).history.rows ≡ w.history.rows
delivery_keeps_rows w name number None = refl
delivery_keeps_rows w name number (Some c) = refl

steps_keep_rows : (w : World) (c : LabCall) (s : Step) → IsAskedBy c s → (step w s).history.rows ≡ w.history.rows
steps_keep_rows w c (Accept change) asked = absurd asked
steps_keep_rows w c (Deliver name number) asked = delivery_keeps_rows w name number (change_at w.history number)
steps_keep_rows w c (Resync name) asked = refl
steps_keep_rows w c (Restart name) asked = refl
steps_keep_rows w c (Forget name) asked = refl
steps_keep_rows w c Settle asked = refl
steps_keep_rows w c (Send event) asked = refl

pub lab_keeps_rows : (w v : World) (caller : Caller) (c : LabCall) (answer : LabAnswer) → lab_outcome w caller c ≡ Answered answer v → v.history.rows ≡ w.history.rows
lab_keeps_rows w v caller c answer is = subst (LeadsTo (λ (x : World). x.history.rows ≡ w.history.rows)) is (lab_leads (λ (x : World). x.history.rows ≡ w.history.rows) w refl caller c (steps_keep_rows w c))

-- so they do where a call of the lab is answered
pub answer_keeps_rows : (w v : World) (caller : Caller) (c : LabCall) (answer : LabAnswer) → IsHandled (ByLab (lab_outcome w caller c)) w v (LabDone answer) → v.history.rows ≡ w.history.rows
answer_keeps_rows w v caller c answer handled =
    let led = handled.tells in
    let moved : v ≡ led.0 = subst (λ (o : LabOutcome). MovesBy w (ByLab o) v) led.1 handled.moves in
    ap (λ (x : World). x.history.rows) moved ∙ lab_keeps_rows w led.0 caller c answer led.1
