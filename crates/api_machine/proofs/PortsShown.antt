-- A tenant is shown the same of a port wherever its footing is the same.
use Rattle.std.proofs.Common.{◌≡◌, List, true, false, ap, ◌∙◌, ℕ}
use Rattle.api_types.specs.Consistent.{IsConsistent}
use Rattle.api_types.specs.Ident.{Ident}
use Rattle.api_types.specs.Outcome.{Told}
use Rattle.api_types.specs.Printed.{OneRow}
use Rattle.api_types.specs.declared.call.Caller.{Caller}
use Rattle.api_types.specs.declared.call.IdText.{IdText}
use Rattle.api_types.specs.declared.kind.Kind.TheVariants.{Port as PortKind}
use Rattle.api_types.specs.declared.port.PortRow.{PortRow}
use Rattle.net_settings.specs.Settings.{SettingsParts}
use Rattle.api_policy.specs.Visibility.{seen_ports}
use Rattle.api_policy.specs.Ports.{port_members}
use Rattle.apart_laws.specs.Footing.{Near, blank_port, footing, is_near}
use Rattle.plan_ports.specs.PortCalls.{port_shown}
use Rattle.api_machine.specs.Reads.{row_told}
use Rattle.api_types.specs.Refusing.{at_name, not_found, answer_alone}
use Rattle.call_parts.specs.State.{State}
use Rattle.apart_laws.proofs.FootingLemmas.{bound_same, near_same, needing_by, port_id, port_near, ports_same}
use Rattle.apart_laws.proofs.ListLemmas.{name_here}
use Rattle.apart_laws.proofs.ShownAlike.{port_shown_alike, up_at}

module _ (settings : SettingsParts) (caller : Caller) (tenant : caller.admin ≡ false) (s t : State) (same : footing settings s caller ≡ footing settings t caller) where
  up_same : (i : Ident) → is_near s.rows caller i ≡ true → up_at i s.rows.networks ≡ up_at i t.rows.networks
  up_same i near = ap (λ (x : Near). x.up) (near_same settings caller s t same i near)

  pub port_shown_apart : IsConsistent s.rows → IsConsistent t.rows → (name : IdText) (fields : List (List ℕ))
      → answer_alone (row_told PortKind port_id (port_members s.rows) caller name fields (seen_ports s.rows caller))
      ≡ answer_alone (row_told PortKind port_id (port_members t.rows) caller name fields (seen_ports t.rows caller))
  port_shown_apart c d name fields = needing_by (not_found PortKind name.text) (at_name port_id name.id (seen_ports s.rows caller)) (at_name port_id name.id (seen_ports t.rows caller))
      (λ p. Told (OneRow (port_shown s.rows caller p fields))) (λ p. Told (OneRow (port_shown t.rows caller p fields))) blank_port
      (ports_same settings caller s t same name.id)
      (λ p q found_p found_q alike.
      let here = name_here port_id name.id (seen_ports s.rows caller) p found_p in
      let there = name_here port_id name.id (seen_ports t.rows caller) q found_q in
      ap (λ shown. Told (OneRow shown)) (port_shown_alike s.rows t.rows caller p q fields tenant alike (bound_same settings caller s t same c d here.0 there.0 p q here.1 there.1 alike)
      (up_same p.network (port_near s.rows caller tenant here.0 p here.1) ∙ ap (λ (x : PortRow). up_at x.network t.rows.networks) alike)))
