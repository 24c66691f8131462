-- An accepted deletion of a port keeps rows consistent.
use Rattle.kept_laws.proofs.FixedFits.{each_append, each_cons, each_none}
use Rattle.kept_laws.proofs.TypedKept.{HaveKept, IsTypedEdit, disassociations_typed, made_typed}
use Rattle.std.proofs.Common.{Bool, None, Option, Some, [], ap, false, not, refl, slice_get, subst, sym, true, ℕ, ◌∙◌, ◌∷◌, ◌≡◌}
use Rattle.std.specs.Prelude.{◌&&◌}
use Rattle.api_types.specs.Consistent.{IsConsistent}
use Rattle.api_types.specs.Lists.{Each, is_some_so}
use Rattle.api_types.specs.Outcome.{Moved, Outcome}
use Rattle.api_types.specs.Printed.{NoRow, Reply}
use Rattle.api_types.specs.RowLists.{RowLists}
use Rattle.api_types.specs.Table.{ident_eq}
use Rattle.api_types.specs.declared.call.Caller.{Caller}
use Rattle.api_types.specs.declared.call.IdText.{IdText}
use Rattle.api_types.specs.declared.floating.FloatingRow.{FloatingRow}
use Rattle.api_types.specs.declared.floating.Target.{Target}
use Rattle.api_types.specs.declared.kind.Kind.TheVariants.{Port as PortKind}
use Rattle.api_types.specs.declared.port.PortRow.{PortRow}
use Rattle.api_types.specs.declared.refusal.Refusal.TheVariants.{CountersSpent}
use Rattle.row_laws.specs.Gone.{IsOfNoUse, with_ports_kept}
use Rattle.row_laws.proofs.Service.DhcpLemmas.{itself}
use Rattle.api_types.proofs.ListLemmas.{any-none}
use Rattle.api_types.proofs.NameLemmas.{not_false}
use Rattle.row_laws.proofs.PortReplaced.{no_own_port}
use Rattle.row_laws.proofs.PortsGone.{ports_gone}
use Rattle.kept_laws.proofs.Disassociated.{disassociations_keep}
use Rattle.kept_laws.proofs.EditedRows.{none_refused}
use Rattle.plan_ports.proofs.NoService.{serves_nothing}
use Rattle.call_parts.specs.Edits.{Drop, accepted, made}
use Rattle.call_parts.specs.Leaving.{disassociations, loses_target}
use Rattle.api_policy.specs.Permits.{port_delete}
use Rattle.plan_ports.specs.PortCalls.{deletion_refusal, port_deleted, port_gone}
use Rattle.api_policy.specs.Seen.{port_seen}
use Rattle.api_types.specs.Owners.{is_service}
use Rattle.api_policy.specs.Uses.{service_in_use}
use Rattle.api_policy.specs.Visibility.{sees_port}
use Rattle.kept_laws.proofs.OutcomeLemmas.{moved_rows, named_is, needing_moved, not_when, unless_moved}
use Rattle.api_types.specs.Refusing.{not_found, unless, when}
use Rattle.call_parts.specs.State.{State, is_last}
use Rattle.kept_laws.proofs.CarriedKept.{IsCarriedEdit, disassociations_carried, made_carried}
use Rattle.api_ml2.specs.Carrying.{carries}
use Rattle.net_settings.specs.Settings.{SettingsParts}
use Rattle.call_parts.proofs.EditLemmas.{made-append}

-- no refusal of the deletion: the port is no service's
no_service_port : (state : State) (caller : Caller) (p : PortRow) → deletion_refusal state caller p ≡ None → is_service p.owner ≡ false
no_service_port state caller p h =
    let os = port_delete state.rows caller p ∷ service_in_use state.rows caller true p ∷ when (is_last state) CountersSpent ∷ [] in
    not_when (is_service p.owner) _ (none_refused os h 1 (service_in_use state.rows caller true p) refl)

-- a port that is no service's and that no floating address leads to is of no use
of_no_use : (rows : RowLists) (k : ℕ) (p : PortRow) → slice_get rows.ports k ≡ Some p → is_service p.owner ≡ false → IsConsistent rows
    → Each (λ (f : FloatingRow). is_some_so (loses_target p.id []) f.target ≡ false) rows.floatings → IsOfNoUse rows.floatings p
of_no_use rows k p at plain c none =
    let owner = serves_nothing p.owner plain in
    record {
      no_interface = owner.no_interface;
      no_gateway = owner.no_gateway;
      no_dhcp = owner.no_dhcp;
      no_own_port = no_own_port rows k p p at owner.no_floating c;
      no_target = any-none (λ f. is_some_so (λ (t : Target). ident_eq p.id t.port) f.target) rows.floatings (λ l f at_f. not_led f.target (none l f at_f));
    }
  where
    and_true : (b : Bool) → b && true ≡ false → b ≡ false
    and_true true h = h
    and_true false h = refl

    not_led : (o : Option Target) → is_some_so (loses_target p.id []) o ≡ false → is_some_so (λ (t : Target). ident_eq p.id t.port) o ≡ false
    not_led None h = refl
    not_led (Some t) h = and_true (ident_eq p.id t.port) h

-- the port goes, after what leads to it was disassociated
pub port_gone_keeps : (rows : RowLists) (k : ℕ) (p : PortRow) → slice_get rows.ports k ≡ Some p → is_service p.owner ≡ false → IsConsistent rows → IsConsistent (made rows (port_gone rows.floatings p.id))
port_gone_keeps rows k p at plain c =
    let before = disassociations_keep rows p.id [] c in
    let left : RowLists = record rows { floatings = before.floatings } in
    let stays : PortRow → Bool = λ q. not (ident_eq p.id q.id) in
    let no_use = of_no_use left k p at plain before.consistent before.none in
    let gone : IsConsistent (with_ports_kept stays left) = ports_gone stays left
    (λ l q at_q goes. subst (IsOfNoUse before.floatings) (itself rows c k p at l q at_q (not_false (ident_eq p.id q.id) goes)) no_use) before.consistent in
    subst IsConsistent (sym (made-append rows (disassociations rows.floatings p.id []) (Drop PortKind p.id ∷ []) ∙ ap (λ (r : RowLists). made r (Drop PortKind p.id ∷ [])) before.is)) gone

pub deleted_kept : (settings : SettingsParts) (state : State) (caller : Caller) (name : IdText) (rows : RowLists) (reply : Reply) → IsConsistent state.rows → port_deleted state caller name ≡ Moved rows reply → HaveKept settings state.rows rows
deleted_kept settings state caller name rows reply c h =
    let rest : PortRow → Outcome = λ p. unless (deletion_refusal state caller p) (accepted state.rows (port_gone state.rows.floatings p.id) (λ rows. NoRow)) in
    let found = needing_moved (not_found PortKind name.text) (port_seen state.rows caller name.id) rest rows reply h in
    let p : PortRow = found.0 in
    let here = named_is (λ (q : PortRow). q.id) (sees_port state.rows caller) state.rows.ports name.id p found.1 in
    let passed = unless_moved (deletion_refusal state caller p) (accepted state.rows (port_gone state.rows.floatings p.id) (λ rows. NoRow)) rows reply found.2 in
    subst (HaveKept settings state.rows) (moved_rows (made state.rows (port_gone state.rows.floatings p.id)) rows NoRow reply passed.1) (record {
      consistent = port_gone_keeps state.rows here.place p here.at (no_service_port state caller p passed.0) c;
      typed = λ t. made_typed state.rows (port_gone state.rows.floatings p.id) t (each_append IsTypedEdit (disassociations state.rows.floatings p.id []) (Drop PortKind p.id ∷ [])
          (disassociations_typed state.rows.floatings p.id []) (each_cons IsTypedEdit (Drop PortKind p.id) [] tt (each_none IsTypedEdit)));
      carried = λ held. let can = carries settings.hosts in
          let lost = disassociations state.rows.floatings p.id [] in
          made_carried can state.rows (port_gone state.rows.floatings p.id) held (each_append (IsCarriedEdit can state.rows.networks) lost (Drop PortKind p.id ∷ [])
          (disassociations_carried can state.rows.networks state.rows.floatings p.id []) (each_cons (IsCarriedEdit can state.rows.networks) (Drop PortKind p.id) [] tt (each_none (IsCarriedEdit can state.rows.networks))));
    })
