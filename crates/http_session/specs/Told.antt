-- How one request is answered.
use Rattle.std.specs.Prelude.{◌≡◌, ℕ, Bool, true, List}
use Rattle.std.specs.List.{flat_map}
use Rattle.net_addr.specs.Words.{Bytes}
use Rattle.http_heads.specs.Heads.{Asked}
use Rattle.http_heads.specs.Fields.{closes}
use Rattle.keeper_core.specs.Counts.{RoseBy}
use Rattle.http_session.specs.declared.bad_bytes.BadBytes.{BadBytes}

-- the machine's reply, or a refusal because the store failed or memory ran out
pub data Told : Type 0 where
  Answered : Bytes → Told
  StoreFailed : Bytes → Told
  NoMemory : Bytes → Told

abbrev pub told_bytes : Told → Bytes
told_bytes (Answered reply) = reply
told_bytes (StoreFailed reply) = reply
told_bytes (NoMemory reply) = reply

-- one where the store failed
abbrev pub told_faults : Told → ℕ
told_faults (Answered reply) = 0
told_faults (StoreFailed reply) = 1
told_faults (NoMemory reply) = 0

abbrev pub replies : List Told → Bytes
replies tolds = flat_map told_bytes tolds

-- the replies that aren't the machine's: of the store's failing, which only a change meets, of
-- running out of memory, and of bytes that are refused
pub record Fixed (W : Type 0) : Type 0 where
  pub store_failed : Bool → Bytes
  pub no_memory : Bool → Bytes
  pub refusal : BadBytes → Bytes
  -- whether a request comes to a change, which the store is to keep
  pub changes : W → Asked → Bool
  -- whether any reply may be replaced by one that says out of memory
  pub may_want : Bool

-- what a request, and its reply, make of a world of this type
abbrev pub Transition : Type 0 → Type 1
Transition W = W → Asked → Bytes → W → Type 0

-- a request moves the world by the machine's step, or not at all
abbrev pub Moves : {W : Type 0} → Transition W → Fixed W → W → Asked → Told → W → Type 0
Moves step fixed old asked (Answered reply) new = step old asked reply new
Moves step fixed old asked (StoreFailed reply) new =
    (fixed.changes old asked ≡ true) × (new ≡ old)
    × (reply ≡ fixed.store_failed (closes asked.head))
Moves step fixed old asked (NoMemory reply) new =
    (fixed.may_want ≡ true) × (new ≡ old) × (reply ≡ fixed.no_memory (closes asked.head))

-- what requests move: the world, and how many calls of the store failed
pub record Stage (W : Type 0) : Type 0 where
  pub world : W
  pub store_faults : ℕ

abbrev pub stage : {W : Type 0} → W → ℕ → Stage W
stage world store_faults = record { world = world; store_faults = store_faults }

-- a request moves the world so, and a reply that says that the store failed comes only if one of
-- its calls failed in this request
pub record IsStep {W : Type 0} (step : Transition W) (fixed : Fixed W) (asked : Asked) (told : Told)
    (old new : Stage W) : Type 0 where
  pub moves : Moves step fixed old.world asked told new.world
  pub faults : RoseBy (told_faults told) old.store_faults new.store_faults
