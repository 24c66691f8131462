-- Where adding an interface by a subnet leads, whose parts are known.
use Rattle.std.proofs.Common.{◌≡◌, ◌∙◌, ℕ, Option, Some, None, ap, inl, inr, sym}
use Rattle.std.specs.Prelude.{◌⊎◌}
use Rattle.api_ipam.specs.MacChoice.{free_mac}
use Rattle.api_types.specs.HeldAddresses.{fixed_at}
use Rattle.api_types.specs.Outcome.{Moved, Outcome, Refused}
use Rattle.api_types.specs.Printed.{InterfaceRow, ShownRow}
use Rattle.api_types.specs.Refusing.{needing, unless}
use Rattle.api_types.specs.Registration.{Drawing, drawn_id}
use Rattle.api_types.specs.declared.call.Caller.{Caller}
use Rattle.api_types.specs.declared.kind.Row.TheVariants.{Port}
use Rattle.api_types.specs.declared.network.NetworkRow.{NetworkRow}
use Rattle.api_types.specs.declared.port.PortRow.{PortRow}
use Rattle.api_types.specs.declared.refusal.Refusal.TheVariants.{CountersSpent, OutOfMemory}
use Rattle.api_types.specs.declared.refusal.Refusal.{Refusal}
use Rattle.api_types.specs.declared.router.RouterRow.{RouterRow}
use Rattle.api_types.specs.declared.subnet.SubnetRow.{SubnetRow}
use Rattle.call_parts.specs.Answers.{IsRefusalIn, IsRefusalOf, Leads}
use Rattle.call_parts.specs.Drafts.{DraftParts}
use Rattle.api_types.specs.WithRows.{with_added}
use Rattle.call_parts.specs.State.{State, drawing_at}
use Rattle.net_addr.specs.declared.address.Addr.{Addr}
use Rattle.net_settings.specs.Settings.{SettingsParts}
use Rattle.plan_routers.specs.InterfaceCalls.{added_by_subnet, interface_made, interface_port, interface_shown, subnet_refusal}

module _ (settings : SettingsParts) (state : State) (caller : Caller) (r : RouterRow) (s : SubnetRow) (n : NetworkRow) (x : Addr) where
  abbrev port : Drawing → ℕ → PortRow
  port d m = interface_port settings d.rows caller r n (drawn_id d 0) m (fixed_at s.id x)

  abbrev added_by : Option Refusal → Option ℕ → Option Drawing → Outcome
  added_by refusal mac drew = unless refusal (needing CountersSpent mac (λ m. needing CountersSpent drew (λ d. interface_made d.rows r (port d m) s.id)))

  pub subnet_refused : (e : Refusal) → IsRefusalIn (subnet_refusal state.rows caller r s x) e → IsRefusalOf (added_by_subnet settings state caller r s n x) e
  subnet_refused e (inl memory) = inl memory
  subnet_refused e (inr is) = inr (ap (λ o. added_by o (free_mac state.rows.ports n.id) (drawing_at state r.project 1)) is)

  module _ (passed : subnet_refusal state.rows caller r s x ≡ None) where
    pub no_mac : free_mac state.rows.ports n.id ≡ None → added_by_subnet settings state caller r s n x ≡ Refused CountersSpent
    no_mac none = λ j. added_by (passed j) (none j) (drawing_at state r.project 1)

    module _ (m : ℕ) (is_m : free_mac state.rows.ports n.id ≡ Some m) where
      pub subnet_spent : (e : Refusal) → (e ≡ OutOfMemory) ⊎ ((e ≡ CountersSpent) × (drawing_at state r.project 1 ≡ None)) → IsRefusalOf (added_by_subnet settings state caller r s n x) e
      subnet_spent e (inl memory) = inl memory
      subnet_spent e (inr spent) = inr ((λ j. added_by (passed j) (is_m j) (spent.1 j)) ∙ ap Refused (sym spent.0))

      pub subnet_moved : (d : Drawing) (draft : DraftParts) (shown : ShownRow) → drawing_at state r.project 1 ≡ Some d → draft.start ≡ state.rows → draft.rows ≡ with_added d.rows (Port (port d m))
          → shown ≡ interface_shown r (port d m) s.id → Leads state.rows (added_by_subnet settings state caller r s n x) draft (λ after. InterfaceRow shown)
      subnet_moved d draft shown drew start leads is = record {
        start = start;
        moved = (λ j. added_by (passed j) (is_m j) (drew j)) ∙ (λ j. Moved (sym leads j) (InterfaceRow (sym is j)));
      }
