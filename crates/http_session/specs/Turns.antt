-- One turn of a session.
use Rattle.std.specs.Prelude.{◌≡◌, ℕ, ◌+◌, ◌-◌, ◌<◌, Bool, true, false, ◌++◌, length}
use Rattle.std.specs.Io.KnownBytes.{Appends}
use Rattle.net_addr.specs.Words.{Bytes}
use Rattle.http_heads.specs.Heads.{Asked}
use Rattle.keeper_core.specs.Ends.{SinkTold}
use Rattle.http_session.specs.Told.{Told, told_bytes, Fixed, Stage, IsStep, Transition}
use Rattle.http_session.specs.Serves.{Moment, Goes, Ending, IsFlushed, is_read_fault}
use Rattle.http_session.specs.declared.session_end.SessionEnd.TheVariants.{Done, ReadFault, WriteFault, Budget, OutOfMemory}
use Rattle.http_session.specs.declared.turn.Turn.{Turn}
use Rattle.http_session.specs.declared.turn.Turn.TheVariants.{Again, Ends}

-- all of the reply is written and flushed
pub record Whole (old new : SinkTold) (reply : Bytes) : Type 0 where
  pub wrote : Appends old.written new.written reply
  pub flushed_all : IsFlushed new

-- a front of the reply is written, and nothing more is flushed
pub record Short (old new : SinkTold) (reply : Bytes) : Type 0 where
  pub front : Bytes
  pub back : Bytes
  pub parts : reply ≡ front ++ back
  pub wrote : Appends old.written new.written front
  pub flushed_stays : new.flushed ≡ old.flushed

-- what came of a reply
abbrev pub IsSent : SinkTold → SinkTold → Bytes → Bool → Turn → Type 0
IsSent old new reply close Again = Whole old new reply × (close ≡ false)
IsSent old new reply close (Ends Done) = Whole old new reply × (close ≡ true)
IsSent old new reply close (Ends WriteFault) = Short old new reply
IsSent old new reply close (Ends OutOfMemory) = Short old new reply
IsSent old new reply close (Ends ReadFault) = ⊥
IsSent old new reply close (Ends Budget) = ⊥

-- a request is answered, and so much of the reply is sent
pub record IsAnswered {W : Type 0} (step : Transition W) (fixed : Fixed W) (asked : Asked)
    (a b : Stage W) (old new : SinkTold) (close : Bool) (turn : Turn) : Type 0 where
  pub told : Told
  pub steps : IsStep step fixed asked told a b
  pub sent : IsSent old new (told_bytes told) close turn

-- the session goes on with less to do, or ends
abbrev pub IsTurn : {W : Type 0} → Transition W → Fixed W → ℕ → Moment W → Moment W → Turn → Type 0
IsTurn step fixed limit a z Again =
    Goes step fixed a z
    × ((limit - z.taken) + length z.buffer < (limit - a.taken) + length a.buffer)
IsTurn step fixed limit a z (Ends end) =
    (m : Moment _) × Goes step fixed a m × Ending step fixed limit m z end

-- whether the turn ends for a read that failed
abbrev pub ends_by_read : Turn → Bool
ends_by_read Again = false
ends_by_read (Ends end) = is_read_fault end
