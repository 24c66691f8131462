-- What a run comes to.
use Rattle.std.proofs.Common.{Bool, List, None, Option, Some, [], ap, append-nil, arith, false, inl, inr, refl, subst, sym, true, ℕ, ◌∙◌, ◌≡◌}
use Rattle.std.specs.Prelude.{if◌then◌else◌, ◌==◌}
use Rattle.std.specs.Io.KnownBytes.{Appends, Keeps}
use Rattle.std.proofs.KnownBytes.{Appends-nil, Appends-trans, Consumes-nil}
use Rattle.api_types.specs.RowLists.{RowLists}
use Rattle.command_lines.specs.declared.line.Opening.{Opening}
use Rattle.dvr_run.specs.Answers.{Answers, IsFront, IsWritten, Stops}
use Rattle.dvr_run.specs.Runs.{Outside, Runs}
use Rattle.dvr_run.specs.Status.{IsFinished, is_read_fault, is_whole, status_code, unopened_status}
use Rattle.dvr_run.specs.declared.status.Status.{Status}
use Rattle.dvr_run.specs.declared.status.Status.TheVariants.{BadLine, BadSettings, Budget, Done, Failed, Inconsistent, OutOfMemory, ReadFault, WriteFault, WrongWords}
use Rattle.keeper_core.specs.Desk.{DeskTold}
use Rattle.keeper_core.specs.Ends.{SinkTold, SourceTold, has_failed}
use Rattle.openings.specs.Openings.{AreBadSettings, AreBroken, DeskRose, IsCause}
use Rattle.openings.specs.declared.unopened.Unopened.{Unopened}
use Rattle.openings.specs.declared.unopened.Unopened.TheVariants as unopened
use Rattle.plane_types.specs.declared.event.Event.{Event}

-- ---- statuses and their numbers

abbrev by_code : ℕ → Status
by_code n =
    if n == 0 then Done
    else (if n == 1 then WrongWords
    else (if n == 2 then ReadFault
    else (if n == 3 then WriteFault
    else (if n == 4 then OutOfMemory
    else (if n == 5 then BadSettings
    else (if n == 6 then Inconsistent
    else (if n == 7 then Failed
    else (if n == 8 then Budget else BadLine))))))))

coded : (s : Status) → by_code (status_code s) ≡ s
coded Done = refl
coded WrongWords = refl
coded ReadFault = refl
coded WriteFault = refl
coded OutOfMemory = refl
coded BadSettings = refl
coded Inconsistent = refl
coded Failed = refl
coded Budget = refl
coded BadLine = refl

-- a number is that of one status
pub status_is : (s : Status) (n : ℕ) → status_code s ≡ n → s ≡ by_code n
status_is s n e = sym (coded s) ∙ ap by_code e

impossible : {X : Type 0} → false ≡ true → X
impossible e = absurd cc

-- ---- nothing is opened

abbrev is_refusal : Status → Bool
is_refusal BadSettings = true
is_refusal Inconsistent = true
is_refusal Failed = true
is_refusal OutOfMemory = true
is_refusal other = false

refusal_is : (why : Unopened) → is_refusal (unopened_status why) ≡ true
refusal_is unopened.BadSettings = refl
refusal_is unopened.Inconsistent = refl
refusal_is unopened.Failed = refl
refusal_is unopened.OutOfMemory = refl

pub not_unopened : {X : Type 0} (why : Unopened) (s : Status) → is_refusal s ≡ false → unopened_status why ≡ s → X
not_unopened why s never is = impossible (sym never ∙ sym (ap is_refusal is) ∙ refusal_is why)

module _ {P : Type 0} where
  pub bad_settings : (why : Unopened) (opening : Opening) (old new : DeskTold P) → IsCause why opening old new → unopened_status why ≡ BadSettings → AreBadSettings old.files opening.settings
  bad_settings unopened.BadSettings opening old new cause is = cause
  bad_settings unopened.Inconsistent opening old new cause is = absurd cc
  bad_settings unopened.Failed opening old new cause is = absurd cc
  bad_settings unopened.OutOfMemory opening old new cause is = absurd cc

  pub broken_rows : (why : Unopened) (opening : Opening) (old new : DeskTold P) → IsCause why opening old new → unopened_status why ≡ Inconsistent → AreBroken opening old
  broken_rows unopened.BadSettings opening old new cause is = absurd cc
  broken_rows unopened.Inconsistent opening old new cause is = cause
  broken_rows unopened.Failed opening old new cause is = absurd cc
  broken_rows unopened.OutOfMemory opening old new cause is = absurd cc

  pub desk_rose : (why : Unopened) (opening : Opening) (old new : DeskTold P) → IsCause why opening old new → unopened_status why ≡ Failed → DeskRose old new
  desk_rose unopened.BadSettings opening old new cause is = absurd cc
  desk_rose unopened.Inconsistent opening old new cause is = absurd cc
  desk_rose unopened.Failed opening old new cause is = cause
  desk_rose unopened.OutOfMemory opening old new cause is = absurd cc

-- memory ran out before anything was touched
pub untouched : {D I O : Type 0} (desk : D → DeskTold (I × O)) (input : I → SourceTold) (output : O → SinkTold) (opening : Option Opening) (w : Outside D I O) → Runs desk input output opening OutOfMemory w w
untouched desk input output None w = (inr refl, refl)
untouched desk input output (Some opening) w = inl (refl, refl)

-- ---- the input is answered

module _ (rows : RowLists) (reply : List Event → List ℕ) (i : SourceTold) (o : SinkTold) where
  -- memory ran out before anything was read
  pub none_answered : Stops rows reply OutOfMemory i o i o
  none_answered = record {
    lines = [];
    rest = [];
    events = [];
    ask = record { unbroken = refl; asked = refl };
    read = Consumes-nil i.left;
    within = omega arith;
    wrote = ([], reply [], refl, Appends-nil o.written);
    ends = tt;
  }

  pub none_run : Answers rows reply OutOfMemory i o i o
  none_run = record { stops = none_answered; flushed = λ e. impossible e; last_read = λ h. h }

  kept-written : (s : Status) (p q : SinkTold) (all : List ℕ) → Keeps p.written q.written → IsWritten s all o p → IsWritten s all o q
  kept-written s p q all keeps h = by s h
    where
      none-more : (a b : Option (List ℕ)) → Keeps a b → Appends a b []
      none-more None b k = tt
      none-more (Some x) None k = k
      none-more (Some x) (Some y) k = k ∙ sym (append-nil x)

      more : (bs : List ℕ) → Appends o.written p.written bs → Appends o.written q.written bs
      more bs a = subst (Appends o.written q.written) (append-nil bs) (Appends-trans o.written p.written q.written bs [] a (none-more p.written q.written keeps))

      by : (s : Status) → IsWritten s all o p → IsWritten s all o q
      by WriteFault f = (f.0, f.1, f.2, more f.0 f.3)
      by OutOfMemory f = (f.0, f.1, f.2, more f.0 f.3)
      by Done a = more all a
      by WrongWords a = more all a
      by ReadFault a = more all a
      by BadSettings a = more all a
      by Inconsistent a = more all a
      by Failed a = more all a
      by Budget a = more all a
      by BadLine a = more all a

  -- what is whole is a front of itself
  whole-front : (s : Status) (p : SinkTold) (all : List ℕ) → is_whole s ≡ true → IsWritten s all o p → IsFront all o p
  whole-front Done p all is a = (all, [], sym (append-nil all), a)
  whole-front BadLine p all is a = (all, [], sym (append-nil all), a)
  whole-front WriteFault p all is a = a
  whole-front OutOfMemory p all is a = a
  whole-front WrongWords p all is a = impossible is
  whole-front ReadFault p all is a = impossible is
  whole-front BadSettings p all is a = impossible is
  whole-front Inconsistent p all is a = impossible is
  whole-front Failed p all is a = impossible is
  whole-front Budget p all is a = impossible is

  whole-read : (s : Status) → is_whole s ≡ true → is_read_fault s ≡ false
  whole-read Done is = refl
  whole-read BadLine is = refl
  whole-read WriteFault is = refl
  whole-read OutOfMemory is = refl
  whole-read WrongWords is = refl
  whole-read ReadFault is = impossible is
  whole-read BadSettings is = refl
  whole-read Inconsistent is = refl
  whole-read Failed is = refl
  whole-read Budget is = refl

  -- the output is flushed, or that fails
  pub finished : (s now : Status) (j : SourceTold) (p q : SinkTold) → Stops rows reply s i o j p → Keeps p.written q.written → IsFinished s q now
      → (has_failed i ≡ false → has_failed j ≡ is_read_fault s) → Answers rows reply now i o j q
  finished s now j p q st keeps (inl e) last = subst (λ t. Answers rows reply t i o j q) (sym e.0) (record {
    stops = record {
      lines = st.lines;
      rest = st.rest;
      events = st.events;
      ask = st.ask;
      read = st.read;
      within = st.within;
      wrote = kept-written s p q (reply st.events) keeps st.wrote;
      ends = st.ends;
    };
    flushed = e.1;
    last_read = last;
  })
  finished s now j p q st keeps (inr e) last = subst (λ t. Answers rows reply t i o j q) (sym e.0) (record {
    stops = record {
      lines = st.lines;
      rest = st.rest;
      events = st.events;
      ask = st.ask;
      read = st.read;
      within = st.within;
      wrote = kept-written WriteFault p q (reply st.events) keeps (whole-front s p (reply st.events) e.1 st.wrote);
      ends = tt;
    };
    flushed = λ f. impossible f;
    last_read = λ h. last h ∙ whole-read s e.1;
  })

-- by what is the same for all lists of events
pub answers_as : (rows : RowLists) (f g : List Event → List ℕ) (s : Status) (i : SourceTold) (o : SinkTold) (j : SourceTold) (p : SinkTold) → ((events : List Event) → f events ≡ g events) → Answers rows f s i o j p → Answers rows g s i o j p
answers_as rows f g s i o j p same a = record {
  stops = record {
    lines = a.stops.lines;
    rest = a.stops.rest;
    events = a.stops.events;
    ask = a.stops.ask;
    read = a.stops.read;
    within = a.stops.within;
    wrote = subst (λ b. IsWritten s b o p) (same a.stops.events) a.stops.wrote;
    ends = a.stops.ends;
  };
  flushed = a.flushed;
  last_read = a.last_read;
}

abbrev may_end : Status → Bool
may_end BadSettings = false
may_end Inconsistent = false
may_end Failed = false
may_end WrongWords = false
may_end other = true

-- no input ends so
pub not_answered : {X : Type 0} (rows : RowLists) (f : List Event → List ℕ) (s t : Status) (i : SourceTold) (o : SinkTold) (j : SourceTold) (p : SinkTold) → Answers rows f s i o j p → may_end t ≡ false → s ≡ t → X
not_answered {X} rows f s t i o j p a never is = by t never (subst (λ u. Answers rows f u i o j p) is a)
  where
    by : (u : Status) → may_end u ≡ false → Answers rows f u i o j p → X
    by BadSettings e b = absurd b.stops.ends
    by Inconsistent e b = absurd b.stops.ends
    by Failed e b = absurd b.stops.ends
    by WrongWords e b = absurd b.stops.ends
    by Done e b = impossible (sym e)
    by ReadFault e b = impossible (sym e)
    by WriteFault e b = impossible (sym e)
    by OutOfMemory e b = impossible (sym e)
    by Budget e b = impossible (sym e)
    by BadLine e b = impossible (sym e)
