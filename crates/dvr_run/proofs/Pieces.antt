-- Pieces of lists, and what a read gives.
use Rattle.std.proofs.Common.{[], ◌∷◌, append-nil, ◌≡◌, ℕ, ◌+◌, ◌-◌, ◌≤◌, ◌<◌, List, ◌++◌, length, take, drop, refl, sym, ap, subst, ◌∙◌, arith, length-drop}
use Rattle.std.specs.Io.KnownBytes.{Consumes, Keeps, ReadConsumes}
use Rattle.std.specs.Io.{ReadsAtMost}
use Rattle.std.specs.Prelude.{◌==◌, Bool, Result, Ok, Err, IfOk, OnErr, false, if◌then◌else◌, true}
use Rattle.std.proofs.lemmas.List.{take-append-le, drop-take, drop-drop, length-take, length-take-le}
use Rattle.std.proofs.Math.Seq.{take-append_seam, take-append-add}
use Rattle.keeper_core.specs.Ends.{SourceTold, has_failed, is_failed, last_read}
use Rattle.keeper_core.specs.declared.last_read.LastRead.{LastRead}
use Rattle.keeper_core.specs.declared.last_read.LastRead.TheVariants.{AtEnd, Bytes as Gave}
use Rattle.keeper_core.specs.declared.refusal.Failed.{Failed}
use Rattle.http_session.specs.Serves.{HasEnded}
use lib.Seq.{paste}

-- the first n elements of a list whose front has n
take_front : (n : ℕ) (front back : List ℕ) → length front ≡ n → take n (front ++ back) ≡ front
take_front n front back size = subst (λ k. take k (front ++ back) ≡ front) size (take-append_seam front back)

-- bytes that are moved to the front
pub moved_front : (bytes : List ℕ) (start len n : ℕ) → n ≡ len → start + len ≤ length bytes → take len (paste bytes 0 (drop start bytes) n) ≡ take len (drop start bytes)
moved_front bytes start len n same fits =
    subst (λ k. take len (paste bytes 0 (drop start bytes) k) ≡ take len (drop start bytes)) (sym same)
    (take_front len (take len (drop start bytes)) _ (length-take-le len (drop start bytes) (omega (arith, length-drop start bytes, fits))))

-- a part of a list without its first elements
pub part_after : (bytes : List ℕ) (start len count : ℕ) → count ≤ length (take len (drop start bytes)) → take (len - count) (drop (start + count) bytes) ≡ drop count (take len (drop start bytes))
part_after bytes start len count below =
    let n = len - count in
    let sum : count + n ≡ len = omega (arith, below, length-take len (drop start bytes)) in
    ap (take n) (sym (drop-drop count start bytes)) ∙ sym (drop-take count n (drop start bytes)) ∙ ap (λ k. drop count (take k (drop start bytes))) sum

-- what was read stands after the first bytes
read_on : (old buf post : List ℕ) (len n : ℕ) → len ≤ length old → n ≤ length buf → take (len + n) (take len old ++ (buf ++ post)) ≡ take len old ++ take n buf
read_on old buf post len n fits below =
    subst (λ k. take (k + n) (take len old ++ (buf ++ post)) ≡ take len old ++ take n (buf ++ post)) (length-take-le len old fits) (take-append-add (take len old) (buf ++ post) n)
    ∙ ap (λ l. take len old ++ l) (take-append-le n buf post below)

-- a read of no byte said that the input has ended
ended_at : (n : ℕ) (l : LastRead) → l ≡ last_read {E = Failed} (Ok n) → n ≡ 0 → l ≡ AtEnd
ended_at n l is zero = is ∙ ap (λ k. last_read {E = Failed} (Ok k)) zero

-- and none that worked failed
gave : (b : Bool) → is_failed (if b then AtEnd else Gave) ≡ false
gave true = refl
gave false = refl

pub read_ok : (r : Result ℕ Failed) (i j : SourceTold) (old buf post : List ℕ) (len at_most : ℕ)
    → len + length buf ≤ length old → length buf ≤ at_most → 0 < length buf
    → ReadsAtMost r buf → ReadConsumes i.left j.left r buf → j.last ≡ last_read r
    → IfOk r (λ n. (piece : List ℕ) × (take (len + n) (take len old ++ (buf ++ post)) ≡ take len old ++ piece)
    × (length piece ≡ n) × (len + n ≤ length old) × (n ≤ at_most) × Consumes i.left j.left piece × (n ≡ 0 → HasEnded j) × (has_failed j ≡ false))
read_ok (Ok n) i j old buf post len at_most fits few some bound bytes last = (
  take n buf,
  read_on old buf post len n (omega (arith, fits)) bound.0,
  length-take-le n buf bound.0,
  omega (arith, fits, bound.0),
  omega (arith, few, bound.0),
  bytes.0,
  λ zero. (ended_at n j.last last zero, bytes.1 zero some),
  ap is_failed last ∙ gave (n == 0),
)
read_ok (Err e) i j old buf post len at_most fits few some bound bytes last = tt

pub read_err : (r : Result ℕ Failed) (i j : SourceTold) (old buf rest : List ℕ) (len : ℕ)
    → len ≤ length old → ReadConsumes i.left j.left r buf → j.last ≡ last_read r
    → OnErr r ((take len (take len old ++ rest) ≡ take len old) × Keeps i.left j.left × (has_failed j ≡ true))
read_err (Ok n) i j old buf rest len fits bytes last = tt
read_err (Err e) i j old buf rest len fits bytes last = (take_front len (take len old) rest (length-take-le len old fits), bytes, ap is_failed last)

-- a piece without bytes adds nothing
pub grew_none : (old new piece : List ℕ) (n : ℕ) → new ≡ old ++ piece → length piece ≡ n → n ≡ 0 → new ≡ old
grew_none old new [] n grew size zero = grew ∙ append-nil old
grew_none old new (b ∷ piece) n grew size zero = absurd (omega (arith, size, zero))
