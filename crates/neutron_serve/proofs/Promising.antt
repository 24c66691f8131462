-- A session keeps its promises.
use Rattle.std.proofs.Common.{◌≡◌, ◌∙◌, inl, inr, ℕ, Bool, true, false, not, cond, List, [], ◌∷◌, Option, None, Some, refl, ap, sym, subst}
use Rattle.std.specs.Fmt.{digits}
use Rattle.std.specs.Prelude.{Result, Ok, Err}
use Rattle.std.proofs.lemmas.Option.{same_Some}
use Rattle.api_types.specs.Consistent.{IsConsistent}
use Rattle.api_types.specs.Lists.{is_empty}
use Rattle.api_types.specs.Outcome.{Moved, Refused, Told as ToldReply}
use Rattle.api_types.specs.declared.call.Caller.{Caller}
use Rattle.api_types.specs.declared.refusal.Refusal.{Refusal}
use Rattle.apart_laws.specs.Footing.{footing}
use Rattle.json_values.specs.Grammars.{is_project_name}
use Rattle.plane_types.specs.Verdicts.{fabric_verdict}
use Rattle.plane_types.specs.declared.ask.Ask.{Ask}
use Rattle.plane_types.specs.declared.ask.Ask.TheVariants.{Lab}
use Rattle.plane_types.specs.declared.ask.LabCall.TheVariants.{Frames, Restart}
use Rattle.plane_types.specs.declared.event.Event.{Event}
use Rattle.world_laws.specs.Lead.{IsWorld}
use Rattle.world_laws.specs.World.{IsSynced, World, hosts_of}
use Rattle.world_laws.proofs.MeaningLaw.{held_rows, rows_of_now, synced_cross, synced_let_in, synced_let_out, synced_mean}
use Rattle.world_laws.proofs.SyncLaw.{sent_synced}
use Rattle.lab_world.specs.Lab.{Answered, Barred, event_refusal}
use Rattle.lab_world.specs.World.{AskOutcome, ByLab, ByMachine, IsAskInForm, MovesBy, OfApi, OfLab, Said, ask_outcome, state_of, told_of}
use Rattle.lab_world.proofs.AskApart.{ask_apart}
use Rattle.lab_world.proofs.Asking.{frames_told}
use Rattle.lab_world.proofs.FrameLaws.{frame_crosses, frame_let_in, frame_let_out, frame_means, sent_hosts}
use Rattle.lab_world.proofs.SyncLaws.{ask_syncs}
use Rattle.lab_world.proofs.WorldLaws.{ask_keeps, sound_of}
use Rattle.http_heads.specs.Fields.{closes, is_admin, project_of}
use Rattle.http_heads.specs.Heads.{Asked}
use Rattle.http_heads.specs.Parts.{path_of, query_of}
use Rattle.http_session.specs.Serves.{Answers, EndsBy, EndsShort, EndsWhole, Ending, Goes, IsLast, Last, LastRefusal, LastRequest, Moment, Scene, Serves, ServesFrom, stage_of}
use Rattle.http_session.specs.Told.{IsStep, Moves, NoMemory, Stage, StoreFailed, Told, Answered as ToldStep}
use Rattle.http_session.specs.declared.session_end.SessionEnd.{SessionEnd}
use Rattle.http_session.specs.declared.session_end.SessionEnd.TheVariants.{Budget, Done, OutOfMemory, ReadFault, WriteFault}
use Rattle.neutron_serve.specs.Promises.{FrameTold, Promised, Promises, is_refusal}
use Rattle.api_types.specs.Printed.{InterfaceRow, ManyRows, NewRow, NoRow, OneRow, Reply}
use Rattle.neutron_serve.specs.Replies.{answer_bytes, is_success, lab_bytes, outcome_bytes, refusal_bytes}
use Rattle.neutron_serve.specs.Requests.{asked_by, by_caller, caller_of, request_of}
use Rattle.neutron_serve.specs.Steps.{Steps, fixed_replies, request_outcome}
use Rattle.neutron_serve.proofs.InForm.{asked_in_form, caller_named_asks}
use Rattle.neutron_serve.proofs.Naming.{name_there}
use Rattle.neutron_serve.proofs.Sparing.{ask_spares}

-- ---- what is read of a request

abbrev caller_in : Result (Caller × Ask) Refusal → Option Caller
caller_in (Ok r) = Some r.0
caller_in (Err refusal) = None

abbrev ask_in : Result (Caller × Ask) Refusal → Option Ask
ask_in (Ok r) = Some r.1
ask_in (Err refusal) = None

record IsRead (o : Option Caller) (r : Result Ask Refusal) (caller : Caller) (ask : Ask) : Type 0 where
  who : o ≡ Some caller
  what : r ≡ Ok ask

parts_read : (o : Option Caller) (r : Result Ask Refusal) (caller : Caller) (ask : Ask) → by_caller o r ≡ Ok (caller, ask) → IsRead o r caller ask
parts_read None r caller ask e = absurd cc
parts_read (Some c) (Err refusal) caller ask e = absurd cc
parts_read (Some c) (Ok a) caller ask e = record { who = ap caller_in e; what = ap Ok (same_Some a ask (ap ask_in e)) }

has_name_by : (name : List ℕ) (admin : Bool) (caller : Caller) (b : Bool) → is_project_name name ≡ b → (cond b (Some (record { project = name; admin = admin })) None) ≡ Some caller → not (is_empty caller.project) ≡ true
has_name_by name admin caller true is e = ap (λ (c : Caller). not (is_empty c.project)) (sym (same_Some (record { project = name; admin = admin }) caller e)) ∙ name_there name is
has_name_by name admin caller false is e = absurd cc

has_name : (o : Option (List ℕ)) (admin : Bool) (caller : Caller) → caller_of o admin ≡ Some caller → not (is_empty caller.project) ≡ true
has_name None admin caller e = absurd cc
has_name (Some name) admin caller e = has_name_by name admin caller (is_project_name name) refl e

record IsFormed (caller : Caller) (ask : Ask) : Type 0 where
  named : not (is_empty caller.project) ≡ true
  in_form : IsAskInForm caller ask

formed : (asked : Asked) (caller : Caller) (ask : Ask) → request_of asked ≡ Ok (caller, ask) → IsFormed caller ask
unfolding request_of
formed asked caller ask e =
    let head = asked.head in
    let read = parts_read (caller_of (project_of head) (is_admin head)) (asked_by head.method (path_of head.target) (query_of head.target) asked.body) caller ask e in
    let named = has_name (project_of head) (is_admin head) caller read.who in
    record { named = named; in_form = caller_named_asks caller ask named (asked_in_form head.method (path_of head.target) (query_of head.target) asked.body ask read.what) }

-- ---- one step

holds_by : (old new : World) (asked : Asked) (r : Result (Caller × Ask) Refusal) → request_of asked ≡ r → IsWorld old → MovesBy old (request_outcome old r) new → IsWorld new
holds_by old new asked (Err refusal) e is moves = subst IsWorld (sym moves) is
holds_by old new asked (Ok (caller, ask)) e is moves = ask_keeps caller ask old new (formed asked caller ask e).in_form is moves

pub step_holds : (old new : World) (asked : Asked) (reply : List ℕ) → IsWorld old → Steps old asked reply new → IsWorld new
step_holds old new asked reply is s = holds_by old new asked (request_of asked) refl is s.moves

frame_told : (old : World) (caller : Caller) (event : Event) (close : Bool) (reply : List ℕ) → IsWorld old → event_refusal old.history.rows caller event ≡ None
    → reply ≡ outcome_bytes close (ask_outcome old caller (Lab (Frames event))) → FrameTold old event close reply
frame_told old caller event close reply world none is =
    let verdict = fabric_verdict (hosts_of old) event in
    record {
      told = is ∙ ap (λ o. outcome_bytes close (ByLab o)) (frames_told old caller event verdict none refl);
      means = λ synced. frame_means old event world synced;
      crosses = λ synced. frame_crosses old event world synced;
      lets_in = λ synced. frame_let_in old event world synced;
      lets_out = λ synced. frame_let_out old event world synced;
    }

-- the bytes are those of what is told
abbrev said_bytes : Bool → Said → List ℕ
said_bytes close (OfApi outcome) = outcome_bytes close (ByMachine outcome)
said_bytes close (OfLab (Ok answer)) = lab_bytes close answer
said_bytes close (OfLab (Err refusal)) = refusal_bytes close refusal

bytes_told : (close : Bool) (o : AskOutcome) → outcome_bytes close o ≡ said_bytes close (told_of o)
bytes_told close (ByMachine (Refused refusal)) = refl
bytes_told close (ByMachine (ToldReply reply)) = refl
bytes_told close (ByMachine (Moved rows reply)) = refl
bytes_told close (ByLab (Barred refusal)) = refl
bytes_told close (ByLab (Answered answer world)) = refl

told_apart : (old other : World) (caller : Caller) (ask : Ask) (close : Bool) → not (is_empty caller.project) ≡ true → IsWorld old → caller.admin ≡ false → IsConsistent other.history.rows
    → other.settings ≡ old.settings → footing other.settings (state_of other) caller ≡ footing old.settings (state_of old) caller → outcome_bytes close (ask_outcome old caller ask) ≡ outcome_bytes close (ask_outcome other caller ask)
told_apart old other caller ask close named world tenant consistent one same =
    bytes_told close (ask_outcome old caller ask)
    ∙ ap (said_bytes close) (ask_apart caller old other tenant named (sound_of old world).consistent consistent (sym one) (sym same) ask)
    ∙ sym (bytes_told close (ask_outcome other caller ask))

answer_succeeds : (close : Bool) (r : Reply) → is_success (answer_bytes close r) ≡ true
unfolding digits
answer_succeeds close (NewRow row) = refl
answer_succeeds close NoRow = refl
answer_succeeds close (OneRow row) = refl
answer_succeeds close (ManyRows kind rows) = refl
answer_succeeds close (InterfaceRow row) = refl

succeeds : (close : Bool) (o : AskOutcome) → is_refusal o ≡ false → is_success (outcome_bytes close o) ≡ true
unfolding digits
succeeds close (ByMachine (Refused refusal)) is = absurd cc
succeeds close (ByMachine (ToldReply reply)) is = answer_succeeds close reply
succeeds close (ByMachine (Moved rows reply)) is = answer_succeeds close reply
succeeds close (ByLab (Barred refusal)) is = absurd cc
succeeds close (ByLab (Answered answer world)) is = refl

stays : (old new : World) (o : AskOutcome) → MovesBy old o new → is_refusal o ≡ true → new ≡ old
stays old new (ByMachine (Refused refusal)) moves is = moves
stays old new (ByMachine (ToldReply reply)) moves is = moves
stays old new (ByMachine (Moved rows reply)) moves is = absurd cc
stays old new (ByLab (Barred refusal)) moves is = moves
stays old new (ByLab (Answered answer world)) moves is = absurd cc

syncs_by : (old new : World) (r : Result (Caller × Ask) Refusal) → IsWorld old → old.manual ≡ false → IsSynced old
    → ((caller : Caller) (name : List ℕ) → r ≡ Ok (caller, Lab (Restart name)) → ⊥) → MovesBy old (request_outcome old r) new → IsSynced new
syncs_by old new (Err refusal) is automatic synced other moves = subst IsSynced (sym moves) synced
syncs_by old new (Ok (caller, ask)) is automatic synced other moves = ask_syncs caller ask old new is automatic synced (λ name same. other caller name (λ j. Ok (caller, same j))) moves

pub step_promised : (old new : World) (asked : Asked) (reply : List ℕ) → IsWorld old → Steps old asked reply new → Promised old asked reply new
step_promised old new asked reply world s = record {
  steps = s;
  world = world;
  hosts = record { told = held_rows old world; now = rows_of_now old world; realised = world.realised };
  frame = λ caller event is none. frame_told old caller event (closes asked.head) reply world none (s.replies ∙ ap (λ r. outcome_bytes (closes asked.head) (request_outcome old r)) is);
  frames = record {
    means = synced_mean old world;
    crosses = synced_cross old world;
    lets_in = synced_let_in old world;
    lets_out = synced_let_out old world;
    follows = sent_hosts old;
    stays = sent_synced old;
  };
  synced = λ automatic synced other. syncs_by old new (request_of asked) world automatic synced other s.moves;
  apart = λ caller ask is tenant other consistent one same.
      s.replies ∙ ap (λ r. outcome_bytes (closes asked.head) (request_outcome old r)) is
      ∙ told_apart old other caller ask (closes asked.head) (formed asked caller ask is).named world tenant consistent one same;
  others = λ caller ask is tenant. ask_spares caller ask old new tenant (formed asked caller ask is).named world (subst (λ r. MovesBy old (request_outcome old r) new) is s.moves);
  succeeds = λ is. ap is_success s.replies ∙ succeeds (closes asked.head) (request_outcome old (request_of asked)) is;
  refused = stays old new (request_outcome old (request_of asked)) s.moves;
}

-- ---- a session

abbrev Fulfils : (old new : World) → Asked → Told → Type 0
Fulfils old new asked told = Moves Promised fixed_replies old asked told new × IsWorld new

moves_more : (old new : World) (asked : Asked) (told : Told) → IsWorld old → Moves Steps fixed_replies old asked told new → Fulfils old new asked told
moves_more old new asked (ToldStep reply) held s = (step_promised old new asked reply held s, step_holds old new asked reply held s)
moves_more old new asked (StoreFailed reply) held m = (m, subst IsWorld (sym m.1) held)
moves_more old new asked (NoMemory reply) held m = (m, subst IsWorld (sym m.1) held)

stage_more : (old new : Stage World) (asked : Asked) (told : Told) → IsWorld old.world → IsStep Steps fixed_replies asked told old new → IsStep Promised fixed_replies asked told old new × IsWorld new.world
stage_more old new asked told held s =
    let more = moves_more old.world new.world asked told held s.moves in (record { moves = more.0; faults = s.faults }, more.1)

world_on : (old new : Stage World) → new ≡ old → IsWorld old.world → IsWorld new.world
world_on old new same held = subst (λ (s : Stage World). IsWorld s.world) (sym same) held

answers_more : (old new : Stage World) (bytes : List ℕ) (tolds : List Told) (rest : List ℕ) → IsWorld old.world → Answers Steps fixed_replies old bytes tolds new rest
    → Answers Promised fixed_replies old bytes tolds new rest × IsWorld new.world
answers_more old new bytes [] rest held a = (a, world_on old new a.0 held)
answers_more old new bytes (told ∷ tolds) rest held (asked, after, takes, on, (mid, steps, more)) =
    let first = stage_more old mid asked told held steps in
    let later = answers_more mid new after tolds rest first.1 more in
    ((asked, after, takes, on, (mid, first.0, later.0)), later.1)

goes_more : (a b : Moment World) → IsWorld a.scene.world → Goes Steps fixed_replies a b → Goes Promised fixed_replies a b × IsWorld b.scene.world
goes_more a b held g =
    let more = answers_more (stage_of a) (stage_of b) _ g.tolds b.buffer held g.answers in
    (record { more = g.more; tolds = g.tolds; read = g.read; taken = g.taken; answers = more.0; wrote = g.wrote; flushed = g.flushed }, more.1)

last_more : (limit : ℕ) (m : Moment World) (last : Last) (new : Stage World) → IsWorld m.scene.world → IsLast Steps fixed_replies limit m last new
    → IsLast Promised fixed_replies limit m last new × IsWorld new.world
last_more limit m (LastRequest asked told) new held is = let more = stage_more (stage_of m) new asked told held is.1 in ((is.0, more.0), more.1)
last_more limit m (LastRefusal bad) new held is = (is, world_on (stage_of m) new is.1 held)

ends_more : (limit : ℕ) (m z : Moment World) (last : Last) (front : List ℕ) → IsWorld m.scene.world → EndsBy Steps fixed_replies limit m z last front
    → EndsBy Promised fixed_replies limit m z last front × IsWorld z.scene.world
ends_more limit m z last front held e =
    let more = last_more limit m last (stage_of z) held e.is in
    (record { is = more.0; wrote = e.wrote; input = e.input; taken = e.taken }, more.1)

same_holds : (m z : Moment World) → z ≡ m → IsWorld m.scene.world → IsWorld z.scene.world
same_holds m z same held = subst (λ (x : Moment World). IsWorld x.scene.world) (sym same) held

short_more : (limit : ℕ) (m z : Moment World) (last : Last) → IsWorld m.scene.world → EndsShort Steps fixed_replies limit m z last
    → EndsShort Promised fixed_replies limit m z last × IsWorld z.scene.world
short_more limit m z last held (front, back, whole, by, unflushed) =
    let more = ends_more limit m z last front held by in ((front, back, whole, more.0, unflushed), more.1)

whole_more : (limit : ℕ) (m z : Moment World) (last : Last) → IsWorld m.scene.world → EndsWhole Steps fixed_replies limit m z last
    → EndsWhole Promised fixed_replies limit m z last × IsWorld z.scene.world
whole_more limit m z last held (by, close, flushed) = let more = ends_more limit m z last _ held by in ((more.0, close, flushed), more.1)

ending_more : (limit : ℕ) (m z : Moment World) (end : SessionEnd) → IsWorld m.scene.world → Ending Steps fixed_replies limit m z end → Ending Promised fixed_replies limit m z end × IsWorld z.scene.world
ending_more limit m z Done held (inl e) = (inl e, same_holds m z e.0 held)
ending_more limit m z Done held (inr (last, e)) = let more = whole_more limit m z last held e in (inr (last, more.0), more.1)
ending_more limit m z ReadFault held e = (e, same_holds m z e.0 held)
ending_more limit m z Budget held e = (e, same_holds m z e.0 held)
ending_more limit m z WriteFault held (last, e) = let more = short_more limit m z last held e in ((last, more.0), more.1)
ending_more limit m z OutOfMemory held (last, e) = let more = short_more limit m z last held e in ((last, more.0), more.1)

serves_more : (limit : ℕ) (a z : Moment World) (end : SessionEnd) → IsWorld a.scene.world → ServesFrom Steps fixed_replies limit a z end
    → ServesFrom Promised fixed_replies limit a z end × IsWorld z.scene.world
serves_more limit a z end held (inl (m, goes, ending)) =
    let on = goes_more a m held goes in
    let last = ending_more limit m z end on.1 ending in
    (inl (m, on.0, last.0), last.1)
serves_more limit a z end held (inr (none, same)) = (inr (none, same), same_holds a z same held)

pub session_promised : (limit : ℕ) (a z : Scene World) (end : SessionEnd) → IsWorld a.world → Serves Steps fixed_replies limit a z end → Promises limit a z end
session_promised limit a z end held s =
    let more = serves_more limit _ _ end held s.serves in
    record { serves = record { buffer = s.buffer; taken = s.taken; within = s.within; serves = more.0; last_read = s.last_read }; world = more.1 }
