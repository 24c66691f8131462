-- What a session does: requests on one connection, answered in order (RFC 9112, sections 9.3.2 and
-- 9.6).
use Rattle.std.specs.Prelude.{◌≡◌, ℕ, ◌+◌, ◌<◌, ◌≤◌, ◌⊎◌, Bool, true, false, List, [], ◌∷◌, ◌++◌, length, option_map}
use Rattle.std.specs.Io.KnownBytes.{Consumes, Appends, IsAtEnd}
use Rattle.net_addr.specs.Words.{Bytes}
use Rattle.http_heads.specs.Heads.{Asked, Takes, Decides, Refuses, IsWaiting}
use Rattle.http_heads.specs.Fields.{closes}
use Rattle.keeper_core.specs.Ends.{SinkTold, SourceTold, has_failed}
use Rattle.keeper_core.specs.Kept.{KeeperTold}
use Rattle.keeper_core.specs.declared.last_read.LastRead.TheVariants.{AtEnd}
use Rattle.http_session.specs.BadBytes.{bad_number}
use Rattle.http_session.specs.Told.{Told, told_bytes, replies, Fixed, Stage, IsStep, Transition, stage}
use Rattle.http_session.specs.declared.bad_bytes.BadBytes.{BadBytes}
use Rattle.http_session.specs.declared.bad_bytes.BadBytes.TheVariants.{Malformed}
use Rattle.http_session.specs.declared.session_end.SessionEnd.{SessionEnd}
use Rattle.http_session.specs.declared.session_end.SessionEnd.TheVariants.{Done, ReadFault, WriteFault, Budget, OutOfMemory}

-- what a session works with: the world, and what the store, the input and the output tell
pub record Scene (W : Type 0) : Type 0 where
  pub world : W
  pub store : KeeperTold
  pub input : SourceTold
  pub output : SinkTold

abbrev pub scene : {W : Type 0} → W → KeeperTold → SourceTold → SinkTold → Scene W
scene world store input output =
    record { world = world; store = store; input = input; output = output }

-- a moment of a session: what it works with, the bytes that are read and not answered, and how many
-- were read
pub record Moment (W : Type 0) : Type 0 where
  pub scene : Scene W
  pub buffer : Bytes
  pub taken : ℕ

abbrev pub stage_of : {W : Type 0} → Moment W → Stage W
stage_of m = stage m.scene.world m.scene.store.faults

-- all that was written is flushed
abbrev pub IsFlushed : SinkTold → Type 0
IsFlushed output = output.flushed ≡ option_map length output.written

-- the last read said that the input has ended, and nothing is left
abbrev pub HasEnded : SourceTold → Type 0
HasEnded input = (input.last ≡ AtEnd) × IsAtEnd input.left

-- requests one after the other, each told its whole reply, and none of them closes the session
abbrev pub Answers : {W : Type 0} → Transition W → Fixed W → Stage W → Bytes → List Told → Stage W
    → Bytes → Type 0
Answers step fixed old bytes [] new rest = (new ≡ old) × (rest ≡ bytes)
Answers step fixed old bytes (told ∷ tolds) new rest =
    (asked : Asked) × (after : Bytes) × Takes bytes asked after × (closes asked.head ≡ false)
    × ((mid : _) × IsStep step fixed asked told old mid
    × Answers step fixed mid after tolds new rest)

-- from one moment to a later one: some bytes are read, and the whole requests in front are
-- answered, in order
pub record Goes {W : Type 0} (step : Transition W) (fixed : Fixed W) (a b : Moment W)
    : Type 0 where
  pub more : Bytes
  pub tolds : List Told
  pub read : Consumes a.scene.input.left b.scene.input.left more
  pub taken : b.taken ≡ a.taken + length more
  pub answers : Answers step fixed (stage_of a) (a.buffer ++ more) tolds (stage_of b) b.buffer
  pub wrote : Appends a.scene.output.written b.scene.output.written (replies tolds)
  pub flushed : IsFlushed a.scene.output ⊎ (0 < length tolds) → IsFlushed b.scene.output

-- the bytes are refused: the first prefix that says something refuses them, or the input ends in
-- them
abbrev pub IsRefused : ℕ → Bytes → SourceTold → ℕ → BadBytes → Type 0
IsRefused limit buffer input taken bad = Decides buffer (Refuses (bad_number bad))
    ⊎ ((bad ≡ Malformed) × (0 < length buffer) × IsWaiting buffer × HasEnded input
    × (taken < limit))

-- what is answered last: a request, or bytes that are refused
pub data Last : Type 0 where
  LastRequest : Asked → Told → Last
  LastRefusal : BadBytes → Last

abbrev pub last_bytes : {W : Type 0} → Fixed W → Last → Bytes
last_bytes fixed (LastRequest asked told) = told_bytes told
last_bytes fixed (LastRefusal bad) = fixed.refusal bad

abbrev pub last_closes : Last → Bool
last_closes (LastRequest asked told) = closes asked.head
last_closes (LastRefusal bad) = true

abbrev pub IsLast : {W : Type 0} → Transition W → Fixed W → ℕ → Moment W → Last → Stage W → Type 0
IsLast step fixed limit m (LastRequest asked told) new =
    ((after : Bytes) × Takes m.buffer asked after) × IsStep step fixed asked told (stage_of m) new
IsLast step fixed limit m (LastRefusal bad) new =
    IsRefused limit m.buffer m.scene.input m.taken bad × (new ≡ stage_of m)

-- the last answer is made, and so much of its reply is written
pub record EndsBy {W : Type 0} (step : Transition W) (fixed : Fixed W) (limit : ℕ) (m z : Moment W)
    (last : Last) (front : Bytes) : Type 0 where
  pub is : IsLast step fixed limit m last (stage_of z)
  pub wrote : Appends m.scene.output.written z.scene.output.written front
  pub input : z.scene.input ≡ m.scene.input
  pub taken : z.taken ≡ m.taken

-- the last answer has its whole reply
abbrev pub EndsWhole : {W : Type 0} → Transition W → Fixed W → ℕ → Moment W → Moment W → Last
    → Type 0
EndsWhole step fixed limit m z last =
    EndsBy step fixed limit m z last (last_bytes fixed last) × (last_closes last ≡ true)
    × IsFlushed z.scene.output

-- the last answer has a front of its reply, and nothing more is flushed
abbrev pub EndsShort : {W : Type 0} → Transition W → Fixed W → ℕ → Moment W → Moment W → Last
    → Type 0
EndsShort step fixed limit m z last =
    (front : Bytes) × (back : Bytes) × (last_bytes fixed last ≡ front ++ back)
    × EndsBy step fixed limit m z last front
    × (z.scene.output.flushed ≡ m.scene.output.flushed)

-- why the session ends
abbrev pub Ending : {W : Type 0} → Transition W → Fixed W → ℕ → Moment W → Moment W → SessionEnd
    → Type 0
Ending step fixed limit m z Done =
    ((z ≡ m) × (m.buffer ≡ []) × HasEnded m.scene.input × (m.taken < limit))
    ⊎ ((last : Last) × EndsWhole step fixed limit m z last)
Ending step fixed limit m z ReadFault = (z ≡ m) × IsWaiting m.buffer × (m.taken < limit)
Ending step fixed limit m z Budget = (z ≡ m) × IsWaiting m.buffer × (m.taken ≡ limit)
Ending step fixed limit m z WriteFault = (last : Last) × EndsShort step fixed limit m z last
Ending step fixed limit m z OutOfMemory = (last : Last) × EndsShort step fixed limit m z last

-- whole requests are answered in order, and then it ends. Memory may also run out before all
abbrev pub ServesFrom : {W : Type 0} → Transition W → Fixed W → ℕ → Moment W → Moment W
    → SessionEnd → Type 0
ServesFrom step fixed limit a z end =
    ((m : Moment _) × Goes step fixed a m × Ending step fixed limit m z end)
    ⊎ ((end ≡ OutOfMemory) × (z ≡ a))

abbrev pub is_read_fault : SessionEnd → Bool
is_read_fault ReadFault = true
is_read_fault other = false

-- A session, which reads at most so many bytes. It ends with `ReadFault` exactly if its last read
-- failed. So before each read every whole request has its reply, and all replies are flushed:
-- whether a read fails is known by the read alone, and each write and flush after it may fail too
pub record Serves {W : Type 0} (step : Transition W) (fixed : Fixed W) (limit : ℕ) (a z : Scene W)
    (end : SessionEnd) : Type 0 where
  pub buffer : Bytes
  pub taken : ℕ
  pub within : taken ≤ limit
  pub serves : ServesFrom step fixed limit (record { scene = a; buffer = []; taken = 0 })
      (record { scene = z; buffer = buffer; taken = taken }) end
  pub last_read : has_failed a.input ≡ false → has_failed z.input ≡ is_read_fault end
