-- What sources and sinks tell, and what those in memory are seen as.
use Rattle.std.specs.Prelude.{ℕ, ◌==◌, Bool, true, false, if◌then◌else◌, Option, Some, Result, Ok, Err}
use Rattle.net_addr.specs.Words.{Bytes}
use Rattle.keeper_core.specs.declared.calls.Calls.{Calls}
use Rattle.keeper_core.specs.declared.last_read.LastRead.{LastRead}
use Rattle.keeper_core.specs.declared.last_read.LastRead.TheVariants as last

-- what a source tells: the bytes that are left, where it tells them, how its last read ended, and
-- how many failed
pub record SourceTold : Type 0 where
  pub left : Option Bytes
  pub last : LastRead
  pub faults : ℕ

-- what a sink tells: the bytes that were written and how many of them were flushed, where it tells
-- them, and how many calls failed
pub record SinkTold : Type 0 where
  pub written : Option Bytes
  pub flushed : Option ℕ
  pub faults : ℕ

-- how a read ended that answered this (std, trait Read: no byte is the end)
abbrev pub last_read : {E : Type 0} → Result ℕ E → LastRead
last_read (Ok n) = if n == 0 then last.AtEnd else last.Bytes
last_read (Err e) = last.Failed

abbrev pub is_failed : LastRead → Bool
is_failed last.Failed = true
is_failed other = false

-- whether the last read of a source failed
abbrev pub has_failed : SourceTold → Bool
has_failed told = is_failed told.last

-- ---- in memory

-- bytes that are still to be read, at most so many in one read
pub record Unread : Type 0 where
  pub left : Bytes
  pub piece : ℕ
  pub last : LastRead

-- the same, with calls that may fail
pub record FailingUnread : Type 0 where
  pub left : Bytes
  pub piece : ℕ
  pub last : LastRead
  pub calls : Calls

-- bytes that were written, and how many of them were flushed
pub record Written : Type 0 where
  pub written : Bytes
  pub flushed : ℕ

-- the same, with calls that may fail
pub record FailingWritten : Type 0 where
  pub written : Bytes
  pub flushed : ℕ
  pub calls : Calls

abbrev pub sure_unread : Unread → SourceTold
sure_unread s = record { left = Some s.left; last = s.last; faults = 0 }

abbrev pub failing_unread : FailingUnread → SourceTold
failing_unread s = record { left = Some s.left; last = s.last; faults = s.calls.faults }

abbrev pub sure_written : Written → SinkTold
sure_written s = record { written = Some s.written; flushed = Some s.flushed; faults = 0 }

abbrev pub failing_written : FailingWritten → SinkTold
failing_written s =
    record { written = Some s.written; flushed = Some s.flushed; faults = s.calls.faults }

-- ---- adapters

-- a reader, how its last read ended, and how many of its errors were counted
pub record CountingReader (X : Type 0) : Type 0 where
  pub inner : X
  pub last : LastRead
  pub faults : ℕ

-- a writer, and how many of its errors were counted
pub record CountingWriter (X : Type 0) : Type 0 where
  pub inner : X
  pub faults : ℕ
