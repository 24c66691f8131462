-- What accepted calls keep of rows.
use Rattle.call_parts.specs.InForm.{IsInForm}
use Rattle.call_parts.specs.Typed.{AreTyped}
use Rattle.api_ml2.specs.Carrying.{carries}
use Rattle.call_parts.specs.State.{State}
use Rattle.api_types.specs.Consistent.{IsConsistent}
use Rattle.api_types.specs.Consistent.Carried.{AreCarried}
use Rattle.api_types.specs.Outcome.{Moved, Outcome}
use Rattle.api_types.specs.Printed.{Reply}
use Rattle.api_types.specs.RowLists.{RowLists}
use Rattle.api_types.specs.declared.call.Call.{Call}
use Rattle.api_types.specs.declared.call.Caller.{Caller}
use Rattle.net_settings.specs.Settings.{SettingsParts}
use Rattle.std.specs.Prelude.{◌≡◌}

-- each port that is bound is on a host that can carry its network
abbrev pub HostsCarry : SettingsParts → RowLists → Type 0
HostsCarry settings rows = AreCarried (carries settings.hosts) rows.networks rows.ports

-- the rows after a call are consistent and typed, and hosts carry them where they carried those
-- before
pub record AreKept (settings : SettingsParts) (before after : RowLists) : Type 0 where
  pub consistent : IsConsistent after
  pub typed : AreTyped after
  pub carried : HostsCarry settings before → HostsCarry settings after

-- each call in form that such a step accepts keeps consistent and typed rows
abbrev pub KeepsRows : SettingsParts → (State → Caller → Call → Outcome) → Type 0
KeepsRows settings step =
    (call : Call) (state : State) (caller : Caller) (rows : RowLists) (reply : Reply)
    → IsConsistent state.rows → AreTyped state.rows → IsInForm caller call
    → step state caller call ≡ Moved rows reply → AreKept settings state.rows rows

-- such a step for a call in form keeps consistent and typed rows where it is accepted
abbrev pub KeepsCall : SettingsParts → Call → (State → Caller → Outcome) → Type 0
KeepsCall settings call step =
    (state : State) (caller : Caller) (rows : RowLists) (reply : Reply)
    → IsConsistent state.rows → AreTyped state.rows → IsInForm caller call
    → step state caller ≡ Moved rows reply → AreKept settings state.rows rows
