-- A tenant is shown the same of a network wherever its footing is the same.
use Rattle.std.proofs.Common.{◌≡◌, List, true, false, ap, ◌∙◌, ℕ}
use Rattle.api_types.specs.Outcome.{Told}
use Rattle.api_types.specs.Printed.{OneRow, ShownRow}
use Rattle.api_types.specs.declared.call.Caller.{Caller}
use Rattle.api_types.specs.declared.call.IdText.{IdText}
use Rattle.api_types.specs.declared.kind.Kind.TheVariants.{Network as NetworkKind}
use Rattle.api_types.specs.declared.network.NetworkRow.{NetworkRow}
use Rattle.net_settings.specs.Settings.{SettingsParts}
use Rattle.api_policy.specs.Visibility.{seen_networks}
use Rattle.api_policy.specs.Networks.{network_members, subnets_of}
use Rattle.apart_laws.specs.Footing.{Near, blank, footing, is_near}
use Rattle.plan_networks.specs.NetworkCalls.{network_shown}
use Rattle.api_machine.specs.Reads.{row_told}
use Rattle.api_types.specs.Refusing.{not_found, answer_alone}
use Rattle.call_parts.specs.State.{State}
use Rattle.apart_laws.proofs.FootingLemmas.{named_alike, named_near, near_alike, network_id, subnets_same}
use Rattle.apart_laws.proofs.ShownAlike.{network_shown_alike}

module _ (settings : SettingsParts) (caller : Caller) (tenant : caller.admin ≡ false) (s t : State) (same : footing settings s caller ≡ footing settings t caller) where
  shown_same : (n m : NetworkRow) → is_near s.rows caller n.id ≡ true → blank n ≡ blank m → (fields : List (List ℕ)) → network_shown s.rows caller n fields ≡ network_shown t.rows caller m fields
  shown_same n m near alike fields = let told_near = near_alike settings caller s t same n m near alike in
      network_shown_alike s.rows t.rows caller n m fields tenant alike (ap (λ (x : Near). x.external_to_all) told_near) (ap (λ (x : Near). x.shared_to_all) told_near)
      (subnets_same settings caller s t same n.id ∙ ap (λ x. subnets_of t.rows caller x.id) alike)

  pub network_shown_apart : (name : IdText) (fields : List (List ℕ))
      → answer_alone (row_told NetworkKind network_id (network_members s.rows caller) caller name fields (seen_networks s.rows caller))
      ≡ answer_alone (row_told NetworkKind network_id (network_members t.rows caller) caller name fields (seen_networks t.rows caller))
  network_shown_apart name fields = named_alike settings caller s t same (not_found NetworkKind name.text) name.id
      (λ n. Told (OneRow (network_shown s.rows caller n fields))) (λ n. Told (OneRow (network_shown t.rows caller n fields)))
      (λ n m found_n found_m alike. ap (λ (row : ShownRow). Told (OneRow row)) (shown_same n m (named_near s.rows caller name.id n found_n) alike fields))
