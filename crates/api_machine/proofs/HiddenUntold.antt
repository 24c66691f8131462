-- So a tenant can't tell whether a network of another project is there that no policy opens, but for the number that it takes.
use Rattle.std.proofs.Common.{◌≡◌, ℕ, ◌+◌, ◌-◌, ◌++◌, List, [], ◌∷◌, Option, true, false, length, not}
use Rattle.std.specs.Prelude.{is_some, nat_le}
use Rattle.std.specs.Str.{bytes_eq}
use Rattle.api_machine.specs.WholeStep.{api_step}
use Rattle.api_ml2.specs.Numbers.{least_free}
use Rattle.api_types.specs.Refusing.{answer_alone}
use Rattle.api_types.specs.Consistent.{IsConsistent}
use Rattle.api_types.specs.Consistent.Carried.{is_bound}
use Rattle.api_types.specs.Consistent.Numbered.{times_in}
use Rattle.api_types.specs.Consistent.Segments.{most_networks}
use Rattle.api_types.specs.Lists.{is_empty}
use Rattle.api_types.specs.RowLists.{RowLists}
use Rattle.api_types.specs.declared.call.Call.{Call}
use Rattle.api_types.specs.declared.call.Caller.{Caller}
use Rattle.api_types.specs.declared.network.NetworkRow.{NetworkRow}
use Rattle.api_types.specs.declared.port.PortRow.{PortRow}
use Rattle.api_types.specs.declared.port.Vif.{Vif}
use Rattle.api_types.specs.declared.router.RouterRow.{RouterRow}
use Rattle.net_settings.specs.Settings.{SettingsParts}
use Rattle.row_laws.specs.NewRows.{with_network}
use Rattle.api_machine.proofs.HiddenHosts.{hidden_hosts, moved}
use Rattle.api_machine.proofs.HiddenNetwork.{hidden_network}
use Rattle.api_machine.proofs.WholeStepApart.{step_apart}

pub hidden_untold : (settings : SettingsParts) (version : ℕ) (caller : Caller) (rows : RowLists) (n : NetworkRow) → caller.admin ≡ false → not (is_empty caller.project) ≡ true
    → IsConsistent rows → IsConsistent (with_network rows n) → times_in rows n.id ≡ 0 → bytes_eq n.project caller.project ≡ false
    → is_some (least_free (rows.networks ++ n ∷ []) settings.vxlan_first (settings.vxlan_last + 1 - settings.vxlan_first)) ≡ is_some (least_free rows.networks settings.vxlan_first (settings.vxlan_last + 1 - settings.vxlan_first))
    → nat_le most_networks (length (rows.networks ++ n ∷ [])) ≡ nat_le most_networks (length rows.networks)
    → (call : Call) → answer_alone (api_step settings (record { rows = with_network rows n; version = version }) caller call) ≡ answer_alone (api_step settings (record { rows = rows; version = version }) caller call)
hidden_untold settings version caller rows n tenant named c d fresh others number full =
    step_apart settings caller (record { rows = with_network rows n; version = version }) (record { rows = rows; version = version }) tenant named d c
    (hidden_network caller tenant rows c n fresh others settings version number full)

-- nor on which hosts ports and routers stand, nor how ports are bound, but for which it sees bound
pub hosts_untold : (settings : SettingsParts) (version : ℕ) (caller : Caller) (rows : RowLists) (host : PortRow → List ℕ) (vif : PortRow → Vif) (stand : RouterRow → Option (List ℕ))
    → caller.admin ≡ false → not (is_empty caller.project) ≡ true → IsConsistent rows → IsConsistent (moved rows host vif stand) → ((p : PortRow) → is_bound (vif p) ≡ is_bound p.vif)
    → (call : Call) → answer_alone (api_step settings (record { rows = moved rows host vif stand; version = version }) caller call) ≡ answer_alone (api_step settings (record { rows = rows; version = version }) caller call)
hosts_untold settings version caller rows host vif stand tenant named c d bound =
    step_apart settings caller (record { rows = moved rows host vif stand; version = version }) (record { rows = rows; version = version }) tenant named d c
    (hidden_hosts rows host vif stand settings version caller bound)
