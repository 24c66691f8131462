-- Statuses and their numbers.
use Rattle.std.proofs.Common.{◌≡◌, ◌≤◌, ◌∙◌, ℕ, ap, arith, inl, inr, refl, sym}
use Rattle.std.specs.Prelude.{◌==◌, ◌⊎◌, Bool, None, Option, false, if◌then◌else◌, is_some, true}
use Rattle.command_lines.specs.declared.line.Opening.{Opening}
use Rattle.keeper_core.specs.Counts.{RoseBy}
use Rattle.keeper_core.specs.Desk.{Closes, DeskTold}
use Rattle.keeper_core.specs.Kept.{KeeperTold}
use Rattle.http_session.specs.declared.session_end.SessionEnd.{SessionEnd}
use Rattle.http_session.specs.declared.session_end.SessionEnd.TheVariants as end
use Rattle.openings.specs.Openings.{AreBadSettings, AreBroken, DeskRose, IsCause}
use Rattle.neutron_serve.specs.Status.{ended_status, is_drilling, is_listening, is_serving, status_code, unopened_status}
use Rattle.openings.specs.declared.unopened.Unopened.{Unopened}
use Rattle.openings.specs.declared.unopened.Unopened.TheVariants as unopened
use Rattle.neutron_serve.specs.declared.status.Status.{Status}
use Rattle.neutron_serve.specs.declared.status.Status.TheVariants.{BadSettings, Budget, Done, Failed, Inconsistent, OutOfMemory, ReadFault, WriteFault, WrongWords}

abbrev by_code : ℕ → Status
by_code n =
    if n == 0 then Done
    else (if n == 1 then WrongWords
    else (if n == 2 then ReadFault
    else (if n == 3 then WriteFault
    else (if n == 4 then OutOfMemory
    else (if n == 5 then BadSettings
    else (if n == 6 then Inconsistent
    else (if n == 7 then Failed else Budget)))))))

coded : (s : Status) → by_code (status_code s) ≡ s
coded Done = refl
coded WrongWords = refl
coded ReadFault = refl
coded WriteFault = refl
coded OutOfMemory = refl
coded BadSettings = refl
coded Inconsistent = refl
coded Failed = refl
coded Budget = refl

-- a number is that of one status
pub status_is : (s : Status) (n : ℕ) → status_code s ≡ n → s ≡ by_code n
status_is s n e = sym (coded s) ∙ ap by_code e

impossible : {X : Type 0} → false ≡ true → X
impossible e = absurd cc

-- a status that is none of these is done, out of memory, or at the end of the bytes
pub ends_well : (s : Status) (b : Bool) → (s ≡ WrongWords → ⊥) → (s ≡ ReadFault → ⊥) → (s ≡ WriteFault → ⊥) → (s ≡ BadSettings → ⊥) → (s ≡ Inconsistent → ⊥) → (s ≡ Failed → ⊥) → (s ≡ Budget → b ≡ true)
    → (status_code s ≡ 0) ⊎ (status_code s ≡ 4) ⊎ ((status_code s ≡ 8) × (b ≡ true))
ends_well Done b words read write settings rows failed budget = inl refl
ends_well WrongWords b words read write settings rows failed budget = absurd (words refl)
ends_well ReadFault b words read write settings rows failed budget = absurd (read refl)
ends_well WriteFault b words read write settings rows failed budget = absurd (write refl)
ends_well OutOfMemory b words read write settings rows failed budget = inr (inl refl)
ends_well BadSettings b words read write settings rows failed budget = absurd (settings refl)
ends_well Inconsistent b words read write settings rows failed budget = absurd (rows refl)
ends_well Failed b words read write settings rows failed budget = absurd (failed refl)
ends_well Budget b words read write settings rows failed budget = inr (inr (refl, budget refl))

-- what isn't there isn't some
pub no_line : {A X : Type 0} {o : Option A} → o ≡ None → is_some o ≡ true → X
no_line none some = impossible (sym (ap is_some none) ∙ some)

-- ---- sessions

abbrev is_end : Status → Bool
is_end Done = true
is_end ReadFault = true
is_end WriteFault = true
is_end OutOfMemory = true
is_end Budget = true
is_end other = false

ended_is : (e : SessionEnd) → is_end (ended_status e) ≡ true
ended_is end.Done = refl
ended_is end.ReadFault = refl
ended_is end.WriteFault = refl
ended_is end.Budget = refl
ended_is end.OutOfMemory = refl

-- no session ends so
pub not_ended : {X : Type 0} (e : SessionEnd) (s : Status) → is_end s ≡ false → ended_status e ≡ s → X
not_ended e s never is = impossible (sym never ∙ sym (ap is_end is) ∙ ended_is e)

pub ended_read : (e : SessionEnd) → ended_status e ≡ ReadFault → e ≡ end.ReadFault
ended_read end.Done is = absurd cc
ended_read end.ReadFault is = refl
ended_read end.WriteFault is = absurd cc
ended_read end.Budget is = absurd cc
ended_read end.OutOfMemory is = absurd cc

pub ended_write : (e : SessionEnd) → ended_status e ≡ WriteFault → e ≡ end.WriteFault
ended_write end.Done is = absurd cc
ended_write end.ReadFault is = absurd cc
ended_write end.WriteFault is = refl
ended_write end.Budget is = absurd cc
ended_write end.OutOfMemory is = absurd cc

-- ---- nothing is opened

abbrev is_refusal : Status → Bool
is_refusal BadSettings = true
is_refusal Inconsistent = true
is_refusal Failed = true
is_refusal OutOfMemory = true
is_refusal other = false

refusal_is : (why : Unopened) → is_refusal (unopened_status why) ≡ true
refusal_is unopened.BadSettings = refl
refusal_is unopened.Inconsistent = refl
refusal_is unopened.Failed = refl
refusal_is unopened.OutOfMemory = refl

pub not_unopened : {X : Type 0} (why : Unopened) (s : Status) → is_refusal s ≡ false → unopened_status why ≡ s → X
not_unopened why s never is = impossible (sym never ∙ sym (ap is_refusal is) ∙ refusal_is why)

-- it may end the serving of connections
pub unopened_serving : (why : Unopened) → is_serving (unopened_status why) ≡ true
unopened_serving unopened.BadSettings = refl
unopened_serving unopened.Inconsistent = refl
unopened_serving unopened.Failed = refl
unopened_serving unopened.OutOfMemory = refl

module _ {P : Type 0} where
  pub bad_settings : (why : Unopened) (opening : Opening) (old new : DeskTold P) → IsCause why opening old new → unopened_status why ≡ BadSettings → AreBadSettings old.files opening.settings
  bad_settings unopened.BadSettings opening old new cause is = cause
  bad_settings unopened.Inconsistent opening old new cause is = absurd cc
  bad_settings unopened.Failed opening old new cause is = absurd cc
  bad_settings unopened.OutOfMemory opening old new cause is = absurd cc

  pub broken_rows : (why : Unopened) (opening : Opening) (old new : DeskTold P) → IsCause why opening old new → unopened_status why ≡ Inconsistent → AreBroken opening old
  broken_rows unopened.BadSettings opening old new cause is = absurd cc
  broken_rows unopened.Inconsistent opening old new cause is = cause
  broken_rows unopened.Failed opening old new cause is = absurd cc
  broken_rows unopened.OutOfMemory opening old new cause is = absurd cc

  pub desk_rose : (why : Unopened) (opening : Opening) (old new : DeskTold P) → IsCause why opening old new → unopened_status why ≡ Failed → DeskRose old new
  desk_rose unopened.BadSettings opening old new cause is = absurd cc
  desk_rose unopened.Inconsistent opening old new cause is = absurd cc
  desk_rose unopened.Failed opening old new cause is = cause
  desk_rose unopened.OutOfMemory opening old new cause is = absurd cc

  -- the desk's count rose while it listened
  pub served_rose : (old opened served new : DeskTold P) (store : KeeperTold) → old.faults ≤ opened.faults → RoseBy 1 opened.faults served.faults → Closes store served new → DeskRose old new
  served_rose old opened served new store le rose closes = inl (whole old.faults opened.faults served.faults new.faults le rose (ap (λ (d : DeskTold P). d.faults) closes.is))
    where
      whole : (a b c d : ℕ) → a ≤ b → RoseBy 1 b c → d ≡ c → RoseBy 1 a d
      whole a b c d le rose same = omega (arith, le, rose, same)

-- ---- connections

pub listening_serves : (s : Status) → is_listening s ≡ true → is_serving s ≡ true
listening_serves Done is = refl
listening_serves WrongWords is = absurd cc
listening_serves ReadFault is = absurd cc
listening_serves WriteFault is = absurd cc
listening_serves OutOfMemory is = refl
listening_serves BadSettings is = refl
listening_serves Inconsistent is = refl
listening_serves Failed is = refl
listening_serves Budget is = absurd cc

pub not_listening : {X : Type 0} (s t : Status) → is_listening t ≡ false → is_listening s ≡ true → s ≡ t → X
not_listening s t never now is = impossible (sym never ∙ sym (ap is_listening is) ∙ now)

pub not_serving : {X : Type 0} (s t : Status) → is_serving t ≡ false → is_serving s ≡ true → s ≡ t → X
not_serving s t never now is = impossible (sym never ∙ sym (ap is_serving is) ∙ now)

-- ---- drills

pub not_drilling : {X : Type 0} (s t : Status) → is_drilling t ≡ false → is_drilling s ≡ true → s ≡ t → X
not_drilling s t never now is = impossible (sym never ∙ sym (ap is_drilling is) ∙ now)
