use Rattle.std.proofs.Common.{◌≡◌, ◌≤◌, take}
use Rattle.http_heads.specs.Lines.{line_feeds}
use Rattle.http_heads.proofs.line_count.count_feeds.Given as goal

abbrev pub invariant-loop-b : goal.invariant-loop-b
invariant-loop-b l = record { count : l.count ≡ line_feeds (take l.b-index l.bytes); few : l.count ≤ l.b-index }
