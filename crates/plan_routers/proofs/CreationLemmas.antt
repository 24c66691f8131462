-- Where the creation of a router leads whose parts are known.
use Rattle.std.proofs.Common.{◌≡◌, ◌∙◌, ℕ, List, [], ◌∷◌, Option, Some, None, ap, inl, inr, sym}
use Rattle.std.specs.Prelude.{◌⊎◌, Bool, true, unwrap_or}
use Rattle.api_ipam.specs.MacChoice.{free_mac}
use Rattle.api_types.specs.Outcome.{Moved, Outcome, Refused}
use Rattle.api_types.specs.Printed.{NewRow}
use Rattle.api_types.specs.Refusing.{needing, unless}
use Rattle.api_types.specs.Registration.{Drawing, drawn_id}
use Rattle.api_types.specs.declared.call.Caller.{Caller}
use Rattle.api_types.specs.declared.form.RouterForm.{RouterForm}
use Rattle.api_types.specs.declared.kind.Row.TheVariants.{Router}
use Rattle.api_types.specs.declared.network.NetworkRow.{NetworkRow}
use Rattle.api_types.specs.declared.port.Fixed.{Fixed}
use Rattle.api_types.specs.declared.port.PortRow.{PortRow}
use Rattle.api_types.specs.declared.refusal.Refusal.TheVariants.{CountersSpent, OutOfMemory}
use Rattle.api_types.specs.declared.refusal.Refusal.{Refusal}
use Rattle.api_types.specs.declared.router.RouterRow.{RouterRow}
use Rattle.call_parts.specs.Answers.{IsRefusalIn, IsRefusalOf, Leads}
use Rattle.call_parts.specs.Drafts.{DraftParts}
use Rattle.call_parts.specs.Edits.{Add, made}
use Rattle.api_types.specs.WithRows.{with_added}
use Rattle.call_parts.specs.State.{State, drawing_at}
use Rattle.net_settings.specs.Settings.{SettingsParts}
use Rattle.plan_routers.specs.Plans.{outer_refusal}
use Rattle.plan_routers.specs.RouterCalls.{creation_refusal, gateway_added, gateway_edits, gateway_network, gateway_port, new_router, outer_addresses, router_added, router_made, router_shown, router_with, with_gateway}
use Rattle.plan_routers.proofs.SupplyLemmas.{all_there, undrawn, unsupplied}
use Rattle.api_policy.specs.Reserved.{snat_asked}

module _ (settings : SettingsParts) (state : State) (caller : Caller) (form : RouterForm) (owner : List ℕ) where
  -- without a gateway
  abbrev bare_by : Option Drawing → Outcome
  bare_by drew = needing CountersSpent drew (λ d. router_added caller d.rows (new_router settings form owner (drawn_id d 0)) (new_router settings form owner (drawn_id d 0)) [])

  pub bare_spent : (e : Refusal) → (e ≡ OutOfMemory) ⊎ ((e ≡ CountersSpent) × (drawing_at state owner 1 ≡ None)) → IsRefusalOf (router_with settings state caller form owner None) e
  bare_spent e (inl memory) = inl memory
  bare_spent e (inr spent) = inr (ap bare_by spent.1 ∙ ap Refused (sym spent.0))

  pub bare_moved : (d : Drawing) (draft : DraftParts) (r : RouterRow) → drawing_at state owner 1 ≡ Some d → draft.start ≡ state.rows → r ≡ new_router settings form owner (drawn_id d 0)
      → draft.rows ≡ with_added d.rows (Router r) → Leads state.rows (router_with settings state caller form owner None) draft (λ after. NewRow (router_shown after caller r []))
  bare_moved d draft r drew start is leads = record {
    start = start;
    moved = ap bare_by drew ∙ (ap (λ q. router_added caller d.rows q q []) (sym is) ∙ ap (λ x. Moved x (NewRow (router_shown x caller r []))) (sym leads));
  }

  -- with one
  module _ (n : NetworkRow) where
    abbrev snat : Bool
    snat = unwrap_or (snat_asked form) true

    abbrev first : Drawing → RouterRow
    first d = new_router settings form owner (drawn_id d 0)

    abbrev port : Drawing → ℕ → List Fixed → PortRow
    port d m f = gateway_port settings (first d) n (drawn_id d 1) m f

    abbrev rest : List Fixed → ℕ → Drawing → Outcome
    rest f m d = gateway_added caller d.rows (first d) (port d m f) snat

    pub with_unsupplied : (e : Refusal) → IsRefusalIn (outer_refusal state.rows n) e → IsRefusalOf (router_with settings state caller form owner (Some n)) e
    with_unsupplied e (inl memory) = inl memory
    with_unsupplied e (inr is) = inr (unsupplied n.id (outer_addresses state.rows n) (free_mac state.rows.ports n.id) (drawing_at state owner 2) rest e is)

    module _ (f : List Fixed) (m : ℕ) (is_f : outer_addresses state.rows n ≡ Some f) (is_m : free_mac state.rows.ports n.id ≡ Some m) where
      pub with_spent : (e : Refusal) → (e ≡ OutOfMemory) ⊎ ((e ≡ CountersSpent) × (drawing_at state owner 2 ≡ None)) → IsRefusalOf (router_with settings state caller form owner (Some n)) e
      with_spent e (inl memory) = inl memory
      with_spent e (inr spent) =
          inr (undrawn n.id (outer_addresses state.rows n) (free_mac state.rows.ports n.id) (drawing_at state owner 2) rest f m is_f is_m spent.1 ∙ ap Refused (sym spent.0))

      pub with_moved : (d : Drawing) (draft : DraftParts) (r : RouterRow) → drawing_at state owner 2 ≡ Some d → draft.start ≡ state.rows → r ≡ with_gateway (first d) n.id (drawn_id d 1) snat
          → draft.rows ≡ made d.rows (Add (Router (first d)) ∷ gateway_edits (first d) (port d m f) snat)
          → Leads state.rows (router_with settings state caller form owner (Some n)) draft (λ after. NewRow (router_shown after caller r []))
      with_moved d draft r drew start is leads = record {
        start = start;
        moved = all_there n.id (outer_addresses state.rows n) (free_mac state.rows.ports n.id) (drawing_at state owner 2) rest f m is_f is_m d drew
            ∙ (λ j. Moved (sym leads j) (NewRow (router_shown (sym leads j) caller (sym is j) [])));
      }

  -- once nothing forbids it
  abbrev made_by : Option Refusal → Option NetworkRow → Outcome
  made_by refusal network = unless refusal (router_with settings state caller form owner network)

  pub made_refused : (e : Refusal) → IsRefusalIn (creation_refusal settings state.rows caller form owner) e → IsRefusalOf (router_made settings state caller form owner) e
  made_refused e (inl memory) = inl memory
  made_refused e (inr is) = inr (ap (λ r. made_by r (gateway_network state.rows caller form)) is)

  pub made_as : (network : Option NetworkRow) → creation_refusal settings state.rows caller form owner ≡ None → gateway_network state.rows caller form ≡ network
      → router_made settings state caller form owner ≡ router_with settings state caller form owner network
  made_as network passed seen = λ j. made_by (passed j) (seen j)
