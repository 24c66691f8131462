-- Counts of faults, and what an object tells.
use Rattle.std.specs.Prelude.{◌≡◌, ℕ, ◌+◌, ◌-◌, ◌^◌, ◌≤◌, min, Result, OnErr, IsErrOf, Option, Some, None, ⊤}
use Rattle.keeper_core.specs.declared.refusal.OutsideRefusal.{OutsideRefusal}
use Rattle.keeper_core.specs.declared.refusal.OutsideRefusal.TheVariants.{Failed, OutOfMemory}

-- a count of 64 bits, one higher. At the type's end it stands still
abbrev pub raised : ℕ → ℕ
raised count = min (count + 1) (2 ^ 64 - 1)

-- the count rose by at least n, or stands at its type's end
abbrev pub RoseBy : ℕ → ℕ → ℕ → Type 0
RoseBy n before now = min (before + n) (2 ^ 64 - 1) ≤ now

-- the count never falls, and an error comes only where it rose
pub record HasCause {T E : Type 0} (before now : ℕ) (result : Result T E) : Type 0 where
  pub later : before ≤ now
  pub failed : OnErr result (RoseBy 1 before now)

-- the refusal is a failure, and not out of memory
abbrev pub IsFailure : {T : Type 0} → Result T OutsideRefusal → Type 0
IsFailure result = IsErrOf result Failed

-- memory could not be had
abbrev pub IsWant : OutsideRefusal → Type 0
IsWant refusal = refusal ≡ OutOfMemory

-- the same of a refusal that may also be out of memory, which is free
pub record HasRefusalCause {T : Type 0} (before now : ℕ) (result : Result T OutsideRefusal)
    : Type 0 where
  pub later : before ≤ now
  pub failed : IsFailure result → RoseBy 1 before now

-- where something is told, it is this
abbrev pub Tells : {A : Type 0} → Option A → A → Type 0
Tells None x = ⊤
Tells (Some y) x = x ≡ y
