-- What `agent` does, and what its status tells.
use Rattle.std.proofs.Common.{◌≡◌, ◌∙◌, ℕ, Bool, [], Option, Some, None, ap, inl, inr, refl, subst, sym, take, true, false}
use Rattle.std.specs.Prelude.{◌==◌, drop, if◌then◌else◌}
use Rattle.std.proofs.lemmas.List.{append-nil, take-append-drop}
use Rattle.std.specs.Io.KnownBytes.{Appends}
use Rattle.api_types.proofs.ListLemmas.{none_some, some_equal}
use Rattle.net_addr.specs.Words.{Bytes, Text}
use Rattle.command_lines.specs.declared.line.AgentLine.{AgentLine}
use Rattle.keeper_core.specs.Counts.{RoseBy}
use Rattle.keeper_core.specs.Desk.{DeskTold}
use Rattle.keeper_core.specs.Ends.{SinkTold, SourceTold}
use Rattle.openings.specs.Openings.{AreBadSettings, IsSettingsCause}
use Rattle.openings.specs.declared.unopened.Unopened.{Unopened}
use Rattle.openings.specs.declared.unopened.Unopened.TheVariants as unopened
use Rattle.wire_types.specs.declared.step.WireStep.{WireStep}
use Rattle.wire_types.specs.declared.step.WireStep.TheVariants as step
use Rattle.agent_links.specs.Links.{LinkTold}
use Rattle.agent_wire.specs.HostAgents.{HostAgent}
use Rattle.agent_run.specs.Runs.{AreOver, FrontWritten, HasBadSettings, IsFollowed, Outside, Runs, RunsLine, RunsRounds, first_host, status_by}
use Rattle.agent_run.specs.Status.{status_code, unopened_status}
use Rattle.agent_run.specs.declared.status.Status.{Status}
use Rattle.agent_run.specs.declared.status.Status.TheVariants.{BadReply, BadRows, BadSettings, Done, Failed, OutOfMemory, WriteFault, WrongWords}

-- ---- statuses and their numbers

abbrev by_code : ℕ → Status
by_code n =
    if n == 0 then Done
    else (if n == 1 then WrongWords
    else (if n == 3 then WriteFault
    else (if n == 4 then OutOfMemory
    else (if n == 5 then BadSettings
    else (if n == 7 then Failed
    else (if n == 9 then BadReply else BadRows))))))

coded : (s : Status) → by_code (status_code s) ≡ s
coded Done = refl
coded WrongWords = refl
coded WriteFault = refl
coded OutOfMemory = refl
coded BadSettings = refl
coded Failed = refl
coded BadReply = refl
coded BadRows = refl

-- a number is that of one status
status_is : (s : Status) (n : ℕ) → status_code s ≡ n → s ≡ by_code n
status_is s n e = sym (coded s) ∙ ap by_code e

false_true : (P : Type 0) → false ≡ true → P
false_true P e = cc

pub not_done : OutOfMemory ≡ Done → ⊥
not_done e = absurd cc

-- ---- what is written

-- a front of the line is written
pub front_of : (line : Bytes) (n : ℕ) (old new : SinkTold) → Appends old.written new.written (take n line) → new.flushed ≡ old.flushed → FrontWritten line old new
front_of line n old new wrote stays = record {
  front = take n line;
  back = drop n line;
  parts = sym (take-append-drop n line);
  wrote = wrote;
  flushed = stays;
}

appends_none : (o : Option Bytes) → Appends o o []
appends_none None = tt
appends_none (Some bytes) = sym (append-nil bytes)

-- nothing is written
pub none_written : (line : Bytes) (old : SinkTold) → FrontWritten line old old
none_written line old = record { front = []; back = line; parts = refl; wrote = appends_none old.written; flushed = refl }

-- ---- rounds that end

-- whether rounds end so
abbrev ends_rounds : Status → Bool
ends_rounds Done = true
ends_rounds OutOfMemory = true
ends_rounds BadReply = true
ends_rounds BadRows = true
ends_rounds WrongWords = false
ends_rounds WriteFault = false
ends_rounds BadSettings = false
ends_rounds Failed = false

said_badly : (s : WireStep) (status : Status) → status_by s ≡ Some status → ends_rounds status ≡ true
said_badly step.Same status e = none_some status (ends_rounds status ≡ true) e
said_badly (step.Anew version) status e = none_some status (ends_rounds status ≡ true) e
said_badly step.Page status e = none_some status (ends_rounds status ≡ true) e
said_badly (step.Took held) status e = none_some status (ends_rounds status ≡ true) e
said_badly step.Restarted status e = none_some status (ends_rounds status ≡ true) e
said_badly step.Asked status e = none_some status (ends_rounds status ≡ true) e
said_badly step.Again status e = none_some status (ends_rounds status ≡ true) e
said_badly step.BadReply status e = ap ends_rounds (sym (some_equal BadReply status e))
said_badly step.BadRows status e = ap ends_rounds (sym (some_equal BadRows status e))

module _ {I O : Type 0} (input : I → SourceTold) (output : O → SinkTold) where
  rounds_end : (status : Status) (most : ℕ) (address : Text) (first last : HostAgent) (old new : LinkTold (I × O)) → RunsRounds input output status most address first old new last → ends_rounds status ≡ true
  rounds_end status most address first last old new runs = go runs.over
    where
      go : AreOver input output status most runs.made runs.said last runs.wanting → ends_rounds status ≡ true
      go (inl o) = ap ends_rounds o.0
      go (inr (inl o)) = said_badly o.0.last status o.0.bad
      go (inr (inr o)) = ap ends_rounds o.0

module _ {D L O A I Q : Type 0} (desk : D → DeskTold A) (link : L → LinkTold (I × Q)) (input : I → SourceTold) (sent : Q → SinkTold) (output : O → SinkTold) where
  -- ---- what a status tells of a line

  -- rounds don't end so
  no_end : (P : Type 0) (status : Status) (most : ℕ) (address : Text) (first last : HostAgent) (a b : LinkTold (I × Q)) → ends_rounds status ≡ false → RunsRounds input sent status most address first a b last → P
  no_end P status most address first last a b otherwise runs = false_true P (sym otherwise ∙ rounds_end input sent status most address first last a b runs)

  at_words : (line : AgentLine) (old new : Outside D L O) → RunsLine desk link input sent output line WrongWords old new → ⊥
  at_words line old new (inl r) = refused r.0 r.1
    where
      refused : (why : Unopened) → WrongWords ≡ unopened_status why → ⊥
      refused unopened.BadSettings e = absurd cc
      refused unopened.Inconsistent e = absurd cc
      refused unopened.Failed e = absurd cc
      refused unopened.OutOfMemory e = absurd cc
  at_words line old new (inr f) = followed f.is
    where
      followed : IsFollowed link input sent output line (first_host line f.settings) WrongWords old.link new.link old.output new.output → ⊥
      followed (last, inl (runs, never)) = never
      followed (last, inr (undone, runs, same)) = no_end ⊥ WrongWords line.rounds line.connect (first_host line f.settings) last (link old.link) (link new.link) refl runs

  pub line_words : (line : AgentLine) (status : Status) (old new : Outside D L O) → RunsLine desk link input sent output line status old new → status ≡ WrongWords → ⊥
  line_words line status old new runs e = at_words line old new (subst (λ s. RunsLine desk link input sent output line s old new) e runs)

  at_write : (line : AgentLine) (old new : Outside D L O) → RunsLine desk link input sent output line WriteFault old new → RoseBy 1 (output old.output).faults (output new.output).faults
  at_write line old new (inl r) = refused r.0 r.1
    where
      refused : (why : Unopened) → WriteFault ≡ unopened_status why → RoseBy 1 (output old.output).faults (output new.output).faults
      refused unopened.BadSettings e = absurd cc
      refused unopened.Inconsistent e = absurd cc
      refused unopened.Failed e = absurd cc
      refused unopened.OutOfMemory e = absurd cc
  at_write line old new (inr f) = followed f.is
    where
      followed : IsFollowed link input sent output line (first_host line f.settings) WriteFault old.link new.link old.output new.output → RoseBy 1 (output old.output).faults (output new.output).faults
      followed (last, inl (runs, (front, rose))) = rose
      followed (last, inr (undone, runs, same)) = no_end (RoseBy 1 (output old.output).faults (output new.output).faults) WriteFault line.rounds line.connect (first_host line f.settings) last (link old.link) (link new.link) refl runs

  pub line_write : (line : AgentLine) (status : Status) (old new : Outside D L O) → RunsLine desk link input sent output line status old new → status ≡ WriteFault → RoseBy 1 (output old.output).faults (output new.output).faults
  line_write line status old new runs e = at_write line old new (subst (λ s. RunsLine desk link input sent output line s old new) e runs)

  at_settings : (line : AgentLine) (old new : Outside D L O) → RunsLine desk link input sent output line BadSettings old new → AreBadSettings (desk old.desk).files line.opening.settings
  at_settings line old new (inl r) = refused r.0 r.1 r.2.cause
    where
      refused : (why : Unopened) → BadSettings ≡ unopened_status why → IsSettingsCause why line.opening (desk old.desk) (desk new.desk) → AreBadSettings (desk old.desk).files line.opening.settings
      refused unopened.BadSettings e cause = cause
      refused unopened.Inconsistent e cause = absurd cause
      refused unopened.Failed e cause = absurd cc
      refused unopened.OutOfMemory e cause = absurd cc
  at_settings line old new (inr f) = followed f.is
    where
      followed : IsFollowed link input sent output line (first_host line f.settings) BadSettings old.link new.link old.output new.output → AreBadSettings (desk old.desk).files line.opening.settings
      followed (last, inl (runs, never)) = absurd never
      followed (last, inr (undone, runs, same)) = no_end (AreBadSettings (desk old.desk).files line.opening.settings) BadSettings line.rounds line.connect (first_host line f.settings) last (link old.link) (link new.link) refl runs

  pub line_settings : (line : AgentLine) (status : Status) (old new : Outside D L O) → RunsLine desk link input sent output line status old new → status ≡ BadSettings → AreBadSettings (desk old.desk).files line.opening.settings
  line_settings line status old new runs e = at_settings line old new (subst (λ s. RunsLine desk link input sent output line s old new) e runs)

  at_outside : (line : AgentLine) (old new : Outside D L O) → RunsLine desk link input sent output line Failed old new → RoseBy 1 (desk old.desk).faults (desk new.desk).faults
  at_outside line old new (inl r) = refused r.0 r.1 r.2.cause
    where
      refused : (why : Unopened) → Failed ≡ unopened_status why → IsSettingsCause why line.opening (desk old.desk) (desk new.desk) → RoseBy 1 (desk old.desk).faults (desk new.desk).faults
      refused unopened.BadSettings e cause = absurd cc
      refused unopened.Inconsistent e cause = absurd cause
      refused unopened.Failed e cause = cause.1
      refused unopened.OutOfMemory e cause = absurd cc
  at_outside line old new (inr f) = followed f.is
    where
      followed : IsFollowed link input sent output line (first_host line f.settings) Failed old.link new.link old.output new.output → RoseBy 1 (desk old.desk).faults (desk new.desk).faults
      followed (last, inl (runs, never)) = absurd never
      followed (last, inr (undone, runs, same)) = no_end (RoseBy 1 (desk old.desk).faults (desk new.desk).faults) Failed line.rounds line.connect (first_host line f.settings) last (link old.link) (link new.link) refl runs

  pub line_outside : (line : AgentLine) (status : Status) (old new : Outside D L O) → RunsLine desk link input sent output line status old new → status ≡ Failed → RoseBy 1 (desk old.desk).faults (desk new.desk).faults
  line_outside line status old new runs e = at_outside line old new (subst (λ s. RunsLine desk link input sent output line s old new) e runs)

  -- ---- what a number tells

  -- how a run ended, by its number
  abbrev pub Ran : Option AgentLine → ℕ → Outside D L O → Outside D L O → Type 0
  Ran line n old new = (s : Status) × (n ≡ status_code s) × Runs desk link input sent output line s old new

  ended : (line : Option AgentLine) (n code : ℕ) (old new : Outside D L O) → Ran line n old new → n ≡ code → Runs desk link input sent output line (by_code code) old new
  ended line n code old new ran e = subst (λ s. Runs desk link input sent output line s old new) (status_is ran.0 code (sym ran.1 ∙ e)) ran.2

  wrong : (line : Option AgentLine) (old new : Outside D L O) → Runs desk link input sent output line WrongWords old new → line ≡ None
  wrong None old new runs = refl
  wrong (Some line) old new (inl u) = absurd (no_want u.0)
    where
      no_want : WrongWords ≡ OutOfMemory → ⊥
      no_want e = absurd cc
  wrong (Some line) old new (inr runs) = absurd (at_words line old new runs)

  pub wrong_words : (line : Option AgentLine) (n : ℕ) (old new : Outside D L O) → Ran line n old new → n ≡ 1 → line ≡ None
  wrong_words line n old new ran e = wrong line old new (ended line n 1 old new ran e)

  unwritten : (line : Option AgentLine) (old new : Outside D L O) → Runs desk link input sent output line WriteFault old new → RoseBy 1 (output old.output).faults (output new.output).faults
  unwritten None old new (inl e, same) = absurd cc
  unwritten None old new (inr e, same) = absurd cc
  unwritten (Some line) old new (inl (e, same)) = absurd cc
  unwritten (Some line) old new (inr runs) = at_write line old new runs

  pub write_fault : (line : Option AgentLine) (n : ℕ) (old new : Outside D L O) → Ran line n old new → n ≡ 3 → RoseBy 1 (output old.output).faults (output new.output).faults
  write_fault line n old new ran e = unwritten line old new (ended line n 3 old new ran e)

  unset : (line : Option AgentLine) (old new : Outside D L O) → Runs desk link input sent output line BadSettings old new → HasBadSettings line (desk old.desk)
  unset None old new (inl e, same) = absurd cc
  unset None old new (inr e, same) = absurd cc
  unset (Some line) old new (inl (e, same)) = absurd cc
  unset (Some line) old new (inr runs) = at_settings line old new runs

  pub bad_settings : (line : Option AgentLine) (n : ℕ) (old new : Outside D L O) → Ran line n old new → n ≡ 5 → HasBadSettings line (desk old.desk)
  bad_settings line n old new ran e = unset line old new (ended line n 5 old new ran e)

  failed : (line : Option AgentLine) (old new : Outside D L O) → Runs desk link input sent output line Failed old new → RoseBy 1 (desk old.desk).faults (desk new.desk).faults
  failed None old new (inl e, same) = absurd cc
  failed None old new (inr e, same) = absurd cc
  failed (Some line) old new (inl (e, same)) = absurd cc
  failed (Some line) old new (inr runs) = at_outside line old new runs

  pub outside_rose : (line : Option AgentLine) (n : ℕ) (old new : Outside D L O) → Ran line n old new → n ≡ 7 → RoseBy 1 (desk old.desk).faults (desk new.desk).faults
  outside_rose line n old new ran e = failed line old new (ended line n 7 old new ran e)

  -- memory ran out before anything was touched
  pub untouched : (line : Option AgentLine) (all : Outside D L O) → Runs desk link input sent output line OutOfMemory all all
  untouched None all = (inr refl, refl)
  untouched (Some line) all = inl (refl, refl)
