use Rattle.std.proofs.Common.{◌≡◌, ℕ, ◌≤◌, take, length}
use Rattle.http_heads.specs.Heads.{IsOpen, IsJudged}
use Rattle.http_heads.specs.Lines.{line_feeds, behind_blank}
use Rattle.http_heads.proofs.head.resume_head.Given as goal

abbrev pub invariant-loop-at : goal.invariant-loop-at
invariant-loop-at l = record {
  opens : (k : ℕ) → k ≤ l.at → IsJudged l.buffer k → IsOpen (take k l.buffer);
  few : line_feeds (behind_blank (take l.at l.buffer)) ≤ 65;
  room : length l.fields ≡ 65;
}
