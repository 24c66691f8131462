-- Two states that a tenant can't tell apart: another one with consistent rows, in which it has the
-- same footing.
use Rattle.std.specs.Prelude.{◌≡◌, false, not, true}
use Rattle.api_types.specs.Consistent.{IsConsistent}
use Rattle.api_types.specs.Lists.{is_empty}
use Rattle.api_types.specs.Outcome.{Outcome}
use Rattle.api_types.specs.Refusing.{answer_alone}
use Rattle.api_types.specs.declared.call.Call.{Call}
use Rattle.api_types.specs.declared.call.Caller.{Caller}
use Rattle.net_settings.specs.Settings.{SettingsParts}
use Rattle.apart_laws.specs.Footing.{footing}
use Rattle.call_parts.specs.State.{State}

pub record AreAlike (settings : SettingsParts) (caller : Caller) (now other : State) : Type 0 where
  pub tenant : caller.admin ≡ false
  pub consistent : IsConsistent other.rows
  pub same : footing settings now caller ≡ footing settings other caller

-- a tenant, whose project has a name, is told the same of each call at any two consistent states
-- in which it has the same footing
abbrev pub KeepsApart : {F : Type 0} → (State → Caller → F) → (State → Caller → Call → Outcome)
    → Type 0
KeepsApart footing_of step =
    (caller : Caller) (s t : State)
    → caller.admin ≡ false → not (is_empty caller.project) ≡ true → IsConsistent s.rows
    → IsConsistent t.rows
    → footing_of s caller ≡ footing_of t caller
    → (call : Call) → answer_alone (step s caller call) ≡ answer_alone (step t caller call)

-- by such a step for one call a tenant is told the same at any two of them
abbrev pub KeepsCallApart : SettingsParts → (State → Caller → Outcome) → Type 0
KeepsCallApart settings step =
    (caller : Caller) (s t : State)
    → caller.admin ≡ false → not (is_empty caller.project) ≡ true → IsConsistent s.rows
    → IsConsistent t.rows → footing settings s caller ≡ footing settings t caller
    → answer_alone (step s caller) ≡ answer_alone (step t caller)
