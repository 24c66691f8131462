-- What `audit` does, and what its status tells.
use Rattle.std.proofs.Common.{◌≡◌, ◌≤◌, ◌∙◌, ℕ, Option, Some, None, ap, arith, inl, inr, refl, subst, sym, take}
use Rattle.std.specs.Prelude.{◌==◌, Result, Err, IfOk, drop, if◌then◌else◌, string_bytes}
use Rattle.std.proofs.lemmas.List.{take-append-drop}
use Rattle.std.specs.Io.KnownBytes.{Appends}
use Rattle.net_addr.specs.Words.{Bytes}
use Rattle.api_types.specs.RowLists.{RowLists}
use Rattle.keeper_core.specs.Counts.{RoseBy}
use Rattle.keeper_core.specs.Desk.{AreNamed, Asks, DeskTold}
use Rattle.keeper_core.specs.Ends.{SinkTold}
use Rattle.keeper_core.specs.declared.ask.DeskAsk.TheVariants.{Settings}
use Rattle.keeper_core.specs.declared.refusal.OutsideRefusal.{OutsideRefusal}
use Rattle.keeper_core.specs.declared.refusal.OutsideRefusal.TheVariants as outside
use Rattle.net_settings.specs.Settings.{SettingsParts}
use Rattle.openings.specs.Openings.{DeskRose, IsUnopened, Opens, with_closing, with_opening}
use Rattle.openings.specs.declared.unopened.Unopened.{Unopened}
use Rattle.openings.specs.declared.unopened.Unopened.TheVariants as unopened
use Rattle.openings.proofs.OpeningLemmas.{cause_of}
use Rattle.reach_audit.specs.AuditLines.{lines_of}
use Rattle.reach_audit.specs.Runs.{AsksWanted, FrontWritten, HasBadSettings, HasBadWanted, HasBrokenRows, IsAudited, IsToldBy, IsUnaudited, IsWritten, RunsAudit}
use Rattle.reach_audit.specs.Status.{refused_status, status_code, unopened_status}
use Rattle.reach_audit.specs.declared.arguments.Arguments.{Arguments}
use Rattle.reach_audit.specs.declared.audit.Audit.{Audit}
use Rattle.reach_audit.specs.declared.status.Status.{Status}
use Rattle.reach_audit.specs.declared.status.Status.TheVariants.{BadSettings, BadWanted, Broken, Done, Failed, Inconsistent, OutOfMemory, WriteFault, WrongWords}

-- ---- statuses and their numbers

abbrev by_code : ℕ → Status
by_code n =
    if n == 0 then Done
    else (if n == 1 then WrongWords
    else (if n == 3 then WriteFault
    else (if n == 4 then OutOfMemory
    else (if n == 5 then BadSettings
    else (if n == 6 then Inconsistent
    else (if n == 7 then Failed
    else (if n == 12 then BadWanted else Broken)))))))

coded : (s : Status) → by_code (status_code s) ≡ s
coded Done = refl
coded WrongWords = refl
coded WriteFault = refl
coded OutOfMemory = refl
coded BadSettings = refl
coded Inconsistent = refl
coded Failed = refl
coded BadWanted = refl
coded Broken = refl

-- a number is that of one status
pub status_is : (s : Status) (n : ℕ) → status_code s ≡ n → s ≡ by_code n
status_is s n e = sym (coded s) ∙ ap by_code e

-- ---- what is written

-- a front of the lines is written
pub front_of : (lines : Bytes) (n : ℕ) (old new : SinkTold) → Appends old.written new.written (take n lines) → new.flushed ≡ old.flushed → FrontWritten lines old new
front_of lines n old new wrote stays = record {
  front = take n lines;
  back = drop n lines;
  parts = sym (take-append-drop n lines);
  wrote = wrote;
  flushed = stays;
}

-- the desk's count rose while the wanted file was asked for
rose_at_last : (old opened new : ℕ) → old ≤ opened → RoseBy 1 opened new → RoseBy 1 old new
rose_at_last old opened new later rose = omega (arith, later, rose)

module _ {P : Type 0} where
  -- ---- why nothing is written

  pub unopened_so : (why : Unopened) (a : Arguments) (old new : DeskTold P) → IsUnopened why a.opening old new → IsUnaudited (unopened_status why) a old new
  unopened_so unopened.BadSettings a old new u = u
  unopened_so unopened.Inconsistent a old new u = u
  unopened_so unopened.Failed a old new u = inl u
  unopened_so unopened.OutOfMemory a old new u = inl u

  -- the store is closed again, and the wanted file was asked for
  pub asked_wanted : (a : Arguments) (settings : SettingsParts) (rows : RowLists) (given : Result Bytes OutsideRefusal) (old mid new : DeskTold P) → Opens a.opening settings rows old → old.faults ≤ mid.faults
      → ((counted : ℕ) × (mid ≡ with_closing a.opening rows counted (with_opening a.opening mid.faults old)))
      → Asks (Settings a.wanted) given mid new → IfOk given (AreNamed mid.files a.wanted) → AsksWanted a rows given old new
  asked_wanted a settings rows given old mid new opens later closed asks named = record {
    settings = settings;
    opens = opens;
    faults = mid.faults;
    later = later;
    counted = closed.0;
    asks = subst (λ (d : DeskTold P). Asks (Settings a.wanted) given d new) closed.1 asks;
    named = subst (λ f. IfOk given (AreNamed f a.wanted)) (ap (λ (d : DeskTold P). d.files) closed.1) named;
  }

  pub refused_so : (why : OutsideRefusal) (a : Arguments) (rows : RowLists) (old new : DeskTold P) → AsksWanted a rows (Err why) old new → IsUnaudited (refused_status why) a old new
  refused_so outside.Failed a rows old new asked = inr (rows, asked)
  refused_so outside.OutOfMemory a rows old new asked = inr (inl (rows, asked))

  -- the lines of the audit are written
  pub audited : (a : Arguments) (audit : Audit) (s : Status) (old new : DeskTold P) (before after : SinkTold) → IsToldBy a audit old new → IsWritten (string_bytes audit.lines) audit.hold s before after
      → IsAudited a s old new before after
  audited a audit s old new before after told written = record {
    rows = told.rows;
    bytes = told.bytes;
    given = told.given;
    wanted = told.wanted;
    tables = told.tables;
    judged = told.says.judged;
    right = told.says.right;
    written = subst (λ h. IsWritten (lines_of told.wanted told.says.judged) h s before after) told.says.hold
        (subst (λ l. IsWritten l audit.hold s before after) told.says.lines written);
  }

  refused_rose : (a : Arguments) (rows : RowLists) (old new : DeskTold P) → AsksWanted a rows (Err outside.Failed) old new → DeskRose old new
  refused_rose a rows old new asked = inl (rose_at_last old.faults asked.faults new.faults asked.later (asked.asks.cause.failed refl))

-- ---- what a status tells

module _ {D O P : Type 0} (desk : D → DeskTold P) (output : O → SinkTold) where
  -- how a run ended, by its number
  abbrev pub Ran : Option Arguments → ℕ → D → D → O → O → Type 0
  Ran a n old new before after = (s : Status) × (n ≡ status_code s) × RunsAudit desk output a s old new before after

  ended : (a : Option Arguments) (n code : ℕ) (old new : D) (before after : O) → Ran a n old new before after → n ≡ code → RunsAudit desk output a (by_code code) old new before after
  ended a n code old new before after ran e = subst (λ s. RunsAudit desk output a s old new before after) (status_is ran.0 code (sym ran.1 ∙ e)) ran.2

  wrong : (a : Option Arguments) (old new : D) (before after : O) → RunsAudit desk output a WrongWords old new before after → a ≡ None
  wrong None old new before after runs = refl
  wrong (Some a) old new before after (inl u) = absurd (no_want u.0)
    where
      no_want : WrongWords ≡ OutOfMemory → ⊥
      no_want e = absurd cc
  wrong (Some a) old new before after (inr (inl u)) = absurd u.0
  wrong (Some a) old new before after (inr (inr u)) = absurd u.written

  pub wrong_words : (a : Option Arguments) (n : ℕ) (old new : D) (before after : O) → Ran a n old new before after → n ≡ 1 → a ≡ None
  wrong_words a n old new before after ran e = wrong a old new before after (ended a n 1 old new before after ran e)

  unwritten : (a : Option Arguments) (old new : D) (before after : O) → RunsAudit desk output a WriteFault old new before after → RoseBy 1 (output before).faults (output after).faults
  unwritten None old new before after (inl e, same, still) = absurd cc
  unwritten None old new before after (inr e, same, still) = absurd cc
  unwritten (Some a) old new before after (inl (e, same, still)) = absurd cc
  unwritten (Some a) old new before after (inr (inl u)) = absurd u.0
  unwritten (Some a) old new before after (inr (inr u)) = u.written.1

  pub write_fault : (a : Option Arguments) (n : ℕ) (old new : D) (before after : O) → Ran a n old new before after → n ≡ 3 → RoseBy 1 (output before).faults (output after).faults
  write_fault a n old new before after ran e = unwritten a old new before after (ended a n 3 old new before after ran e)

  unset : (a : Option Arguments) (old new : D) (before after : O) → RunsAudit desk output a BadSettings old new before after → HasBadSettings a (desk old)
  unset None old new before after (inl e, same, still) = absurd cc
  unset None old new before after (inr e, same, still) = absurd cc
  unset (Some a) old new before after (inl (e, same, still)) = absurd cc
  unset (Some a) old new before after (inr (inl u)) = cause_of unopened.BadSettings a.opening (desk old) (desk new) u.0
  unset (Some a) old new before after (inr (inr u)) = absurd u.written

  pub bad_settings : (a : Option Arguments) (n : ℕ) (old new : D) (before after : O) → Ran a n old new before after → n ≡ 5 → HasBadSettings a (desk old)
  bad_settings a n old new before after ran e = unset a old new before after (ended a n 5 old new before after ran e)

  unsound : (a : Option Arguments) (old new : D) (before after : O) → RunsAudit desk output a Inconsistent old new before after → HasBrokenRows a (desk old)
  unsound None old new before after (inl e, same, still) = absurd cc
  unsound None old new before after (inr e, same, still) = absurd cc
  unsound (Some a) old new before after (inl (e, same, still)) = absurd cc
  unsound (Some a) old new before after (inr (inl u)) = cause_of unopened.Inconsistent a.opening (desk old) (desk new) u.0
  unsound (Some a) old new before after (inr (inr u)) = absurd u.written

  pub broken_rows : (a : Option Arguments) (n : ℕ) (old new : D) (before after : O) → Ran a n old new before after → n ≡ 6 → HasBrokenRows a (desk old)
  broken_rows a n old new before after ran e = unsound a old new before after (ended a n 6 old new before after ran e)

  rose : (a : Option Arguments) (old new : D) (before after : O) → RunsAudit desk output a Failed old new before after → DeskRose (desk old) (desk new)
  rose None old new before after (inl e, same, still) = absurd cc
  rose None old new before after (inr e, same, still) = absurd cc
  rose (Some a) old new before after (inl (e, same, still)) = absurd cc
  rose (Some a) old new before after (inr (inl (inl u, same))) = cause_of unopened.Failed a.opening (desk old) (desk new) u
  rose (Some a) old new before after (inr (inl (inr u, same))) = refused_rose a u.0 (desk old) (desk new) u.1
  rose (Some a) old new before after (inr (inr u)) = absurd u.written

  pub outside_rose : (a : Option Arguments) (n : ℕ) (old new : D) (before after : O) → Ran a n old new before after → n ≡ 7 → DeskRose (desk old) (desk new)
  outside_rose a n old new before after ran e = rose a old new before after (ended a n 7 old new before after ran e)

  unread : (a : Option Arguments) (old new : D) (before after : O) → RunsAudit desk output a BadWanted old new before after → HasBadWanted a (desk old)
  unread None old new before after (inl e, same, still) = absurd cc
  unread None old new before after (inr e, same, still) = absurd cc
  unread (Some a) old new before after (inl (e, same, still)) = absurd cc
  unread (Some a) old new before after (inr (inl ((rows, bytes, given, bad), same))) = record {
    settings = given.settings;
    rows = rows;
    opens = given.opens;
    bytes = bytes;
    named = given.named;
    bad = bad;
  }
  unread (Some a) old new before after (inr (inr u)) = absurd u.written

  pub bad_wanted : (a : Option Arguments) (n : ℕ) (old new : D) (before after : O) → Ran a n old new before after → n ≡ 12 → HasBadWanted a (desk old)
  bad_wanted a n old new before after ran e = unread a old new before after (ended a n 12 old new before after ran e)

  -- memory ran out before anything was touched
  pub untouched : (a : Option Arguments) (d : D) (o : O) → RunsAudit desk output a OutOfMemory d d o o
  untouched None d o = (inr refl, refl, refl)
  untouched (Some a) d o = inl (refl, refl, refl)
