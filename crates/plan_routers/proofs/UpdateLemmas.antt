-- Where the change of a router leads whose parts are known.
use Rattle.std.proofs.Common.{◌≡◌, ◌∙◌, ℕ, List, [], ◌∷◌, ◌++◌, Option, Some, None, ap, inl, inr, sym}
use Rattle.std.specs.Prelude.{◌⊎◌, Bool, unwrap_or}
use Rattle.api_ipam.specs.MacChoice.{free_mac}
use Rattle.api_types.specs.Outcome.{Moved, Outcome, Refused}
use Rattle.api_types.specs.Printed.{OneRow}
use Rattle.api_types.specs.Refusing.{unless, when}
use Rattle.api_types.specs.Registration.{Drawing, drawn_id}
use Rattle.api_types.specs.declared.call.Caller.{Caller}
use Rattle.api_types.specs.declared.form.RouterForm.{RouterForm}
use Rattle.api_types.specs.declared.kind.Row.TheVariants.{Router}
use Rattle.api_types.specs.declared.network.NetworkRow.{NetworkRow}
use Rattle.api_types.specs.declared.port.Fixed.{Fixed}
use Rattle.api_types.specs.declared.port.PortRow.{PortRow}
use Rattle.api_types.specs.declared.refusal.Refusal.TheVariants.{CountersSpent, OutOfMemory}
use Rattle.api_types.specs.declared.refusal.Refusal.{Refusal}
use Rattle.api_types.specs.declared.router.RouterRow.{RouterRow}
use Rattle.call_parts.specs.Answers.{IsRefusalIn, IsRefusalOf, Leads}
use Rattle.call_parts.specs.Drafts.{DraftParts}
use Rattle.call_parts.specs.Edits.{Edit, Put, made}
use Rattle.call_parts.specs.State.{State, drawing_at, is_last}
use Rattle.net_settings.specs.Settings.{SettingsParts}
use Rattle.plan_routers.specs.Plans.{outer_refusal}
use Rattle.plan_routers.specs.RouterCalls.{changed_router, gateway_edits, gateway_gone, gateway_network, gateway_port, gateway_replaced, lost_gateway, new_gateway, old_snat, outer_addresses, router_changed, router_moved, router_replaced, router_shown, update_refusal, with_gateway}
use Rattle.plan_routers.proofs.EditLemmas.{append_none}
use Rattle.plan_routers.proofs.SupplyLemmas.{all_there, undrawn, unsupplied}
use Rattle.api_policy.specs.Reserved.{snat_asked}

module _ (settings : SettingsParts) (state : State) (caller : Caller) (form : RouterForm) (old new : RouterRow) where
  abbrev gone : List Edit
  gone = gateway_gone (lost_gateway old.gateway new.gateway)

  -- without a new gateway
  abbrev kept_by : Option Refusal → Outcome
  kept_by last = unless last (router_replaced caller state.rows old new new [])

  pub kept_refused : (e : Refusal) → when (is_last state) CountersSpent ≡ Some e → router_moved settings state caller form old new None ≡ Refused e
  kept_refused e is = ap kept_by is

  pub kept_moved : (draft : DraftParts) (r : RouterRow) → when (is_last state) CountersSpent ≡ None → draft.start ≡ state.rows → r ≡ new → draft.rows ≡ made state.rows (Put (Router new) ∷ gone)
      → Leads state.rows (router_moved settings state caller form old new None) draft (λ after. OneRow (router_shown after caller r []))
  kept_moved draft r passed start is leads =
      let to : draft.rows ≡ made state.rows (Put (Router new) ∷ gone ++ []) = leads ∙ ap (λ es. made state.rows (Put (Router new) ∷ es)) (sym (append_none (lost_gateway old.gateway new.gateway))) in
      record {
        start = start;
        moved = ap kept_by passed ∙ (λ j. Moved (sym to j) (OneRow (router_shown (sym to j) caller (sym is j) [])));
      }

  -- with one
  module _ (n : NetworkRow) where
    abbrev snat : Bool
    snat = unwrap_or (snat_asked form) (old_snat old.gateway)

    abbrev port : RouterRow → Drawing → ℕ → List Fixed → PortRow
    port r d m f = gateway_port settings r n (drawn_id d 0) m f

    abbrev rest : List Fixed → ℕ → Drawing → Outcome
    rest f m d = gateway_replaced caller d.rows old new (port old d m f) snat

    pub to_unsupplied : (e : Refusal) → IsRefusalIn (outer_refusal state.rows n) e → IsRefusalOf (router_moved settings state caller form old new (Some n)) e
    to_unsupplied e (inl memory) = inl memory
    to_unsupplied e (inr is) = inr (unsupplied n.id (outer_addresses state.rows n) (free_mac state.rows.ports n.id) (drawing_at state old.project 1) rest e is)

    module _ (f : List Fixed) (m : ℕ) (is_f : outer_addresses state.rows n ≡ Some f) (is_m : free_mac state.rows.ports n.id ≡ Some m) where
      pub to_spent : (e : Refusal) → (e ≡ OutOfMemory) ⊎ ((e ≡ CountersSpent) × (drawing_at state old.project 1 ≡ None)) → IsRefusalOf (router_moved settings state caller form old new (Some n)) e
      to_spent e (inl memory) = inl memory
      to_spent e (inr spent) =
          inr (undrawn n.id (outer_addresses state.rows n) (free_mac state.rows.ports n.id) (drawing_at state old.project 1) rest f m is_f is_m spent.1 ∙ ap Refused (sym spent.0))

      -- the changed router has the id and the host of the old one, and so has the port
      pub to_moved : (d : Drawing) (draft : DraftParts) (r : RouterRow) → new ≡ changed_router form old → drawing_at state old.project 1 ≡ Some d → draft.start ≡ state.rows
          → r ≡ with_gateway new n.id (drawn_id d 0) snat → draft.rows ≡ made d.rows (Put (Router new) ∷ gone ++ gateway_edits new (port new d m f) snat)
          → Leads state.rows (router_moved settings state caller form old new (Some n)) draft (λ after. OneRow (router_shown after caller r []))
      to_moved d draft r changed drew start is leads =
          let same : port new d m f ≡ port old d m f = ap (λ q. port q d m f) changed in
          let to = leads ∙ ap (λ p. made d.rows (Put (Router new) ∷ gone ++ gateway_edits new p snat)) same in
          record {
            start = start;
            moved = all_there n.id (outer_addresses state.rows n) (free_mac state.rows.ports n.id) (drawing_at state old.project 1) rest f m is_f is_m d drew
                ∙ (λ j. Moved (sym to j) (OneRow (router_shown (sym to j) caller (sym is j) [])));
          }

  -- once nothing forbids it
  abbrev changed_by : Option Refusal → Option NetworkRow → Outcome
  changed_by refusal network = unless refusal (router_moved settings state caller form old new network)

  pub changed_refused : (e : Refusal) → IsRefusalIn (update_refusal state.rows caller form old new) e → IsRefusalOf (router_changed settings state caller form old new) e
  changed_refused e (inl memory) = inl memory
  changed_refused e (inr is) = inr (ap (λ r. changed_by r (new_gateway (gateway_network state.rows caller form) new.gateway)) is)

  pub changed_as : (network : Option NetworkRow) → update_refusal state.rows caller form old new ≡ None → new_gateway (gateway_network state.rows caller form) new.gateway ≡ network
      → router_changed settings state caller form old new ≡ router_moved settings state caller form old new network
  changed_as network passed seen = λ j. changed_by (passed j) (seen j)
