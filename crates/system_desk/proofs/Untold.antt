-- A desk that tells nothing but its counts, after a call that was refused.
use Rattle.std.proofs.Common.{◌≡◌, ◌≤◌, ℕ, refl}
use Rattle.std.specs.Prelude.{Err}
use Rattle.keeper_core.specs.Counts.{HasRefusalCause, RoseBy}
use Rattle.keeper_core.specs.Desk.{Asks, HandsOut, untold_desk}
use Rattle.keeper_core.specs.declared.ask.DeskAsk.{DeskAsk}
use Rattle.keeper_core.specs.declared.ask.DeskAsk.TheVariants.{Next}
use Rattle.keeper_core.specs.declared.refusal.OutsideRefusal.{OutsideRefusal}
use Rattle.keeper_core.specs.declared.refusal.OutsideRefusal.TheVariants.{Failed, OutOfMemory}

cause_of : {T : Type 0} (refusal : OutsideRefusal) (before now : ℕ) → before ≤ now → (refusal ≡ Failed → RoseBy 1 before now) → HasRefusalCause {T = T} before now (Err refusal)
cause_of refusal before now later rose = record {
  later = later;
  failed = λ e. let same : refusal ≡ Failed = cc in rose same;
}

pub asks_refused : {P T : Type 0} (ask : DeskAsk) (refusal : OutsideRefusal) (before now stores : ℕ) → before ≤ now → (refusal ≡ Failed → RoseBy 1 before now)
    → Asks {P = P} {T = T} ask (Err refusal) (untold_desk before stores) (untold_desk now stores)
asks_refused ask Failed before now stores later rose = record { is = refl; cause = cause_of Failed before now later rose }
asks_refused ask OutOfMemory before now stores later rose = record { is = refl; cause = cause_of OutOfMemory before now later rose }

pub none_refused : {P : Type 0} (refusal : OutsideRefusal) (before now stores : ℕ) → before ≤ now → (refusal ≡ Failed → RoseBy 1 before now)
    → HandsOut {P = P} (Err refusal) (untold_desk before stores) (untold_desk now stores)
none_refused refusal before now stores later rose = record { comes = refl; asks = asks_refused Next refusal before now stores later rose }
