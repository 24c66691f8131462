-- The groups that a tenant sees.
use Rattle.std.proofs.Common.{◌≡◌, false, Option, ap}
use Rattle.api_policy.specs.Seen.{group_seen}
use Rattle.apart_laws.specs.Footing.{footing}
use Rattle.api_types.specs.Refusing.{at_name}
use Rattle.call_parts.specs.State.{State}
use Rattle.api_types.specs.Ident.{Ident}
use Rattle.api_types.specs.declared.call.Caller.{Caller}
use Rattle.api_types.specs.declared.group.GroupRow.{GroupRow}
use Rattle.net_settings.specs.Settings.{SettingsParts}
use Rattle.apart_laws.proofs.OwnAlike.{groups_alike}

abbrev pub group_id : GroupRow → Ident
group_id g = g.id

module _ (settings : SettingsParts) (caller : Caller) (tenant : caller.admin ≡ false) (s t : State) (same : footing settings s caller ≡ footing settings t caller) where
  pub group_found : (name : Option Ident) → group_seen s.rows caller name ≡ group_seen t.rows caller name
  group_found name = ap (at_name group_id name) (groups_alike settings caller tenant s t same)
