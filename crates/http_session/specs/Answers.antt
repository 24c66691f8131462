-- What an answer says of the world.
use Rattle.std.specs.Prelude.{◌≡◌, ℕ, true}
use Rattle.net_addr.specs.Words.{Bytes}
use Rattle.http_heads.specs.Heads.{Asked}
use Rattle.http_session.specs.Told.{Fixed, Moves, Answered, StoreFailed, Transition}
use Rattle.http_session.specs.declared.handler.Answer.{Answer}
use Rattle.http_session.specs.declared.handler.Answer.TheVariants.{Reply, StoreFault, NoMemory, Unwritten}

-- how the world moved. Where the reply could not be written, the step was made for some reply
abbrev pub MovesBy : {W : Type 0} → Transition W → Fixed W → W → Asked → Answer → W → Type 0
MovesBy step fixed old asked (Reply bytes) new = Moves step fixed old asked (Answered bytes) new
MovesBy step fixed old asked (StoreFault bytes) new =
    Moves step fixed old asked (StoreFailed bytes) new
MovesBy step fixed old asked NoMemory new = (fixed.may_want ≡ true) × (new ≡ old)
MovesBy step fixed old asked Unwritten new =
    (reply : Bytes) × Moves step fixed old asked (Answered reply) new

-- how many faults of the store it says
abbrev pub answer_faults : Answer → ℕ
answer_faults (Reply bytes) = 0
answer_faults (StoreFault bytes) = 1
answer_faults NoMemory = 0
answer_faults Unwritten = 0
