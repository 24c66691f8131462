-- Reading on until a request has come.
use Rattle.std.specs.Prelude.{◌≡◌, ℕ, ◌+◌, ◌<◌, ◌≤◌, Bool, true, false, Option, [], ◌++◌, length, drop}
use Rattle.std.specs.Io.KnownBytes.{Consumes}
use Rattle.net_addr.specs.Words.{Bytes}
use Rattle.httparse.specs.Grammar.{RequestHead, print_request}
use Rattle.http_heads.specs.Fields.{body_length, closes}
use Rattle.http_heads.specs.Heads.{Asked, Takes, Passes, Refuses, Decides, IsUndecided, IsWaiting}
use Rattle.http_heads.specs.Parts.{ArePartsOf}
use Rattle.http_session.specs.Requests.{IsRequest}
use Rattle.keeper_core.specs.Ends.{SourceTold}
use Rattle.http_session.specs.BadBytes.{bad_number}
use Rattle.http_session.specs.Serves.{HasEnded, IsRefused}
use Rattle.http_session.specs.declared.request.Request.{Request}
use Rattle.http_session.specs.declared.reading.Awaited.{Awaited}
use Rattle.http_session.specs.declared.reading.Awaited.TheVariants.{Found, Stopped}
use Rattle.http_session.specs.declared.reading.Looked.{Looked}
use Rattle.http_session.specs.declared.reading.Looked.TheVariants.{Open, Whole, Wrong}
use Rattle.http_session.specs.declared.reading.Stop.{Stop}
use Rattle.http_session.specs.declared.reading.Stop.TheVariants.{Bad, AtEnd, NoRead, Spent}

-- some more bytes were read
pub record Reads (old new : Bytes) (left left_new : Option Bytes) (taken taken_new : ℕ)
    : Type 0 where
  pub more : Bytes
  pub grew : new ≡ old ++ more
  pub read : Consumes left left_new more
  pub count : taken_new ≡ taken + length more

-- the bytes begin with a head that passes, and the request's parts are those of the head and of
-- the body after it
pub record HasHead (bytes : Bytes) (request : Request) (head : RequestHead) : Type 0 where
  pub decides : Decides bytes (Passes head)
  pub parts : ArePartsOf bytes head request.parts
  pub start : request.body.start ≡ length (print_request head)
  pub end : request.body.end ≡ request.body.start + body_length head
  pub close : request.close ≡ closes head

-- what a look at the bytes tells
abbrev pub IsLooked : Bytes → Looked → Type 0
IsLooked bytes Open = IsUndecided bytes
IsLooked bytes (Whole request) = (head : RequestHead) × HasHead bytes request head
IsLooked bytes (Wrong bad) = Decides bytes (Refuses (bad_number bad))

-- why no request came
abbrev pub IsStop : ℕ → Bytes → SourceTold → ℕ → Stop → Type 0
IsStop limit buffer input taken (Bad bad) = IsRefused limit buffer input taken bad
IsStop limit buffer input taken AtEnd = (buffer ≡ []) × HasEnded input × (taken < limit)
IsStop limit buffer input taken NoRead = IsWaiting buffer × (taken < limit)
IsStop limit buffer input taken Spent = IsWaiting buffer × (taken ≡ limit)

-- whether a read failed
abbrev pub is_no_read : Stop → Bool
is_no_read NoRead = true
is_no_read other = false

abbrev pub failed_read : Awaited → Bool
failed_read (Found request) = false
failed_read (Stopped stop) = is_no_read stop

-- a head was waited for
abbrev pub IsHeadAwaited : ℕ → Bytes → SourceTold → ℕ → Awaited → Type 0
IsHeadAwaited limit buffer input taken (Found request) =
    (head : RequestHead) × HasHead buffer request head
IsHeadAwaited limit buffer input taken (Stopped stop) = IsStop limit buffer input taken stop

-- the buffer begins with this request
abbrev pub IsFound : Bytes → Request → Type 0
IsFound buffer request = (request.body.end ≤ length buffer) × (0 < request.body.end)
    × ((asked : Asked) × Takes buffer asked (drop request.body.end buffer)
    × IsRequest buffer request asked)

-- a request was waited for
abbrev pub IsAwaited : ℕ → Bytes → SourceTold → ℕ → Awaited → Type 0
IsAwaited limit buffer input taken (Found request) = IsFound buffer request
IsAwaited limit buffer input taken (Stopped stop) = IsStop limit buffer input taken stop
