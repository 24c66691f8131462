-- What a tenant is told of an ask depends on its footing alone.
use Rattle.std.proofs.Common.{◌≡◌, ◌∙◌, List, [], ◌∷◌, Bool, true, false, true≢false, not, cond, Option, None, Some, is_some, refl, ap, map, subst, sym}
use Rattle.std.specs.Prelude.{◌&&◌, ◌||◌, codes}
use Rattle.std.specs.List.{filter, list_any}
use Rattle.api_types.specs.Consistent.{IsConsistent}
use Rattle.api_types.specs.Ident.{Ident, ident_text}
use Rattle.api_types.specs.Lists.{is_empty, stands_so}
use Rattle.api_types.specs.RowLists.{RowLists}
use Rattle.api_types.specs.Table.{ident_eq}
use Rattle.api_types.specs.declared.call.Call.{Call}
use Rattle.api_types.specs.declared.call.Caller.{Caller}
use Rattle.api_types.specs.declared.kind.Kind.TheVariants.{Port as PortKind}
use Rattle.api_types.specs.declared.port.PortRow.{PortRow}
use Rattle.api_types.specs.declared.refusal.PolicyRule.TheVariants.{AdminOnly}
use Rattle.api_types.specs.declared.refusal.Refusal.{Refusal}
use Rattle.api_types.specs.declared.refusal.Refusal.TheVariants.{Forbidden, Invalid}
use Rattle.net_settings.specs.Settings.{SettingsParts}
use Rattle.api_policy.specs.Visibility.{seen_ports, sees_port, sees_row}
use Rattle.apart_laws.specs.Footing.{Footing, blank_port, footing}
use Rattle.api_machine.specs.WholeStep.{api_step}
use Rattle.api_types.specs.Refusing.{first_refusal, not_found, answer_alone, when}
use Rattle.api_machine.proofs.WholeStepApart.{step_apart}
use Rattle.api_types.specs.Wires.{network_on}
use Rattle.plane_types.specs.declared.ask.Ask.{Ask}
use Rattle.plane_types.specs.declared.ask.Ask.TheVariants.{Api, Lab}
use Rattle.plane_types.specs.declared.ask.LabCall.{LabCall}
use Rattle.plane_types.specs.declared.ask.LabCall.TheVariants.{Change, Deliver, Explain, Forget, Frames, Hosts, Page, Resync, Restart, Settle, Tables, Version}
use Rattle.plane_types.specs.declared.event.Event.{Event}
use Rattle.plane_types.specs.declared.event.Event.TheVariants.{FromPort, FromWire}
use Rattle.world_laws.specs.World.{World}
use Rattle.lab_world.specs.Lab.{LabOutcome, event_refusal, for_admins, lab_outcome, unless_barred}
use Rattle.lab_world.specs.World.{ByLab, OfApi, ask_outcome, state_of, told_of}

-- what is seen stands among what is seen
seen_there : (i : Ident) (sees : PortRow → Bool) (ports : List PortRow) → stands_so (λ (p : PortRow). p.id) i sees ports ≡ list_any (λ (p : PortRow). ident_eq i p.id) (filter sees ports)
seen_there i sees [] = refl
seen_there i sees (p ∷ ps) = go (ident_eq i p.id) refl (sees p) refl (seen_there i sees ps)
  where
    kept : List PortRow
    kept = filter sees ps

    go : (a : Bool) → ident_eq i p.id ≡ a → (b : Bool) → sees p ≡ b → stands_so (λ (q : PortRow). q.id) i sees ps ≡ list_any (λ (q : PortRow). ident_eq i q.id) kept
        → a && b || stands_so (λ (q : PortRow). q.id) i sees ps ≡ list_any (λ (q : PortRow). ident_eq i q.id) (cond b (p ∷ kept) kept)
    go true e true f rest = sym (ap (λ t. t || list_any (λ (q : PortRow). ident_eq i q.id) kept) e)
    go true e false f rest = rest
    go false e true f rest = rest ∙ sym (ap (λ t. t || list_any (λ (q : PortRow). ident_eq i q.id) kept) e)
    go false e false f rest = rest

-- by ports without their hosts and bindings too
blank_there : (i : Ident) (ports : List PortRow) → list_any (λ (p : PortRow). ident_eq i p.id) ports ≡ list_any (λ (p : PortRow). ident_eq i p.id) (map blank_port ports)
blank_there i [] = refl
blank_there i (p ∷ ps) = ap (λ b. ident_eq i p.id || b) (blank_there i ps)

module _ (caller : Caller) (v w : World) (tenant : caller.admin ≡ false) (same : footing v.settings (state_of v) caller ≡ footing w.settings (state_of w) caller) where
  port_alike : (i : Ident) → sees_row v.history.rows caller PortKind i ≡ sees_row w.history.rows caller PortKind i
  port_alike i =
      seen_blank v
      ∙ ap (λ (f : Footing). list_any (λ (p : PortRow). ident_eq i p.id) f.ports) same
      ∙ sym (seen_blank w)
    where
      seen_blank : (x : World) → sees_row x.history.rows caller PortKind i ≡ list_any (λ (p : PortRow). ident_eq i p.id) (map blank_port (seen_ports x.history.rows caller))
      seen_blank x = seen_there i (sees_port x.history.rows caller) x.history.rows.ports ∙ blank_there i (seen_ports x.history.rows caller)

  event_alike : (event : Event) → event_refusal v.history.rows caller event ≡ event_refusal w.history.rows caller event
  event_alike (FromPort port frame) =
      ap (λ b. first_refusal (when (not b) (not_found PortKind (ident_text port)) ∷ when (not caller.admin) (Forbidden AdminOnly) ∷ [])) (port_alike port)
  event_alike (FromWire physical tag frame) =
      ap (λ b. first_refusal (when (not b) (Forbidden AdminOnly) ∷ when (not (is_some (network_on v.history.rows (record { physical = physical; tag = tag })))) (Invalid (codes "physical_network")) ∷ [])) tenant
      ∙ sym (ap (λ b. first_refusal (when (not b) (Forbidden AdminOnly) ∷ when (not (is_some (network_on w.history.rows (record { physical = physical; tag = tag })))) (Invalid (codes "physical_network")) ∷ [])) tenant)

  -- a tenant is refused
  seen_or_not : (b : Bool) (refusal : Refusal) → is_some (first_refusal (when b refusal ∷ when (not caller.admin) (Forbidden AdminOnly) ∷ [])) ≡ true
  seen_or_not true refusal = refl
  seen_or_not false refusal = ap (λ b. is_some (first_refusal (when (not b) (Forbidden AdminOnly) ∷ []))) tenant

  is_barred : (rows : RowLists) (event : Event) → is_some (event_refusal rows caller event) ≡ true
  is_barred rows (FromPort port frame) = seen_or_not (not (sees_row rows caller PortKind port)) (not_found PortKind (ident_text port))
  is_barred rows (FromWire physical tag frame) =
      ap (λ b. is_some (first_refusal (when (not b) (Forbidden AdminOnly) ∷ when (not (is_some (network_on rows (record { physical = physical; tag = tag })))) (Invalid (codes "physical_network")) ∷ []))) tenant

  barred_alike : (o p : Option Refusal) (x y : LabOutcome) → o ≡ p → is_some o ≡ true → unless_barred o x ≡ unless_barred p y
  barred_alike None p x y e some = absurd (true≢false (sym some))
  barred_alike (Some r) p x y e some = ap (λ o. unless_barred o y) e

  admin_alike : (x y : LabOutcome) → for_admins caller x ≡ for_admins caller y
  admin_alike x y = ap (λ b. unless_barred (when (not b) (Forbidden AdminOnly)) x) tenant ∙ sym (ap (λ b. unless_barred (when (not b) (Forbidden AdminOnly)) y) tenant)

  lab_apart : (call : LabCall) → lab_outcome v caller call ≡ lab_outcome w caller call
  lab_apart (Frames event) = barred_alike (event_refusal v.history.rows caller event) (event_refusal w.history.rows caller event) _ _ (event_alike event) (is_barred v.history.rows event)
  lab_apart (Explain event) = barred_alike (event_refusal v.history.rows caller event) (event_refusal w.history.rows caller event) _ _ (event_alike event) (is_barred v.history.rows event)
  lab_apart Hosts = admin_alike _ _
  lab_apart (Tables name) = admin_alike _ _
  lab_apart (Deliver host number) = admin_alike _ _
  lab_apart (Resync host) = admin_alike _ _
  lab_apart (Restart host) = admin_alike _ _
  lab_apart (Forget host) = admin_alike _ _
  lab_apart Settle = admin_alike _ _
  lab_apart Version = admin_alike _ _
  lab_apart (Change number) = admin_alike _ _
  lab_apart (Page version number) = admin_alike _ _

-- a call, at states under one and the same settings
call_apart : (caller : Caller) (v w : World) → caller.admin ≡ false → not (is_empty caller.project) ≡ true → IsConsistent v.history.rows → IsConsistent w.history.rows → v.settings ≡ w.settings
    → footing v.settings (state_of v) caller ≡ footing w.settings (state_of w) caller → (call : Call) → answer_alone (api_step v.settings (state_of v) caller call) ≡ answer_alone (api_step w.settings (state_of w) caller call)
call_apart caller v w tenant named c d one same call = subst At one here same
  where
    At : SettingsParts → Type 0
    At settings = footing v.settings (state_of v) caller ≡ footing settings (state_of w) caller → answer_alone (api_step v.settings (state_of v) caller call) ≡ answer_alone (api_step settings (state_of w) caller call)

    here : footing v.settings (state_of v) caller ≡ footing v.settings (state_of w) caller → answer_alone (api_step v.settings (state_of v) caller call) ≡ answer_alone (api_step v.settings (state_of w) caller call)
    here alike = step_apart v.settings caller (state_of v) (state_of w) tenant named c d alike call

pub ask_apart : (caller : Caller) (v w : World) → caller.admin ≡ false → not (is_empty caller.project) ≡ true → IsConsistent v.history.rows → IsConsistent w.history.rows → v.settings ≡ w.settings
    → footing v.settings (state_of v) caller ≡ footing w.settings (state_of w) caller → (ask : Ask) → told_of (ask_outcome v caller ask) ≡ told_of (ask_outcome w caller ask)
ask_apart caller v w tenant named c d one same (Api call) = ap OfApi (call_apart caller v w tenant named c d one same call)
ask_apart caller v w tenant named c d one same (Lab call) = ap (λ o. told_of (ByLab o)) (lab_apart caller v w tenant same call)
