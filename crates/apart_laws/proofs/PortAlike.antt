-- The ports that a tenant sees.
use Rattle.std.proofs.Common.{◌≡◌, true, false, Option, Some, slice_get, ℕ}
use Rattle.std.specs.Prelude.{option_map}
use Rattle.api_policy.specs.Seen.{port_seen}
use Rattle.api_policy.specs.Visibility.{seen_ports, sees_port}
use Rattle.apart_laws.specs.Footing.{blank_port, footing, is_near}
use Rattle.call_parts.specs.State.{State}
use Rattle.api_types.specs.Consistent.{IsConsistent}
use Rattle.api_types.specs.Ident.{Ident}
use Rattle.api_types.specs.declared.call.Caller.{Caller}
use Rattle.api_types.specs.declared.port.PortRow.{PortRow}
use Rattle.net_settings.specs.Settings.{SettingsParts}
use Rattle.api_types.proofs.ListLemmas.{at_filter}
use Rattle.apart_laws.proofs.FootingLemmas.{port_id, port_near, ports_same}
use Rattle.apart_laws.proofs.ListLemmas.{name_here}

module _ (settings : SettingsParts) (caller : Caller) (tenant : caller.admin ≡ false) (s t : State) (c : IsConsistent s.rows) (d : IsConsistent t.rows) (same : footing settings s caller ≡ footing settings t caller) where
  -- a port that is seen

  pub port_found : (name : Option Ident) → option_map blank_port (port_seen s.rows caller name) ≡ option_map blank_port (port_seen t.rows caller name)
  port_found name = ports_same settings caller s t same name

  pub port_here : (state : State) (name : Option Ident) (p : PortRow) → port_seen state.rows caller name ≡ Some p
      → (k : ℕ) × (slice_get state.rows.ports k ≡ Some p) × (sees_port state.rows caller p ≡ true) × (is_near state.rows caller p.network ≡ true)
  port_here state name p found =
      let here = name_here port_id name (seen_ports state.rows caller) p found in
      let there = at_filter (sees_port state.rows caller) state.rows.ports here.0 p here.1 in
      (there.0, there.1, there.2, port_near state.rows caller tenant here.0 p here.1)
