use Rattle.std.proofs.Common.{◌≡◌, ◌+◌, ◌≤◌, length, take}
use Rattle.std.specs.List.{suffix_len}
use Rattle.http_heads.specs.Words.{blank_of}
use Rattle.http_heads.proofs.values.back_end.Given as goal

abbrev pub invariant-blanks : goal.invariant-blanks
invariant-blanks l = record {
  within : l.end ≤ length l.bytes;
  so_far : l.end + suffix_len (blank_of l.blank) l.bytes ≡ length l.bytes + suffix_len (blank_of l.blank) (take l.end l.bytes);
}

abbrev pub decreases-blanks : goal.decreases-blanks
decreases-blanks l = l.end
