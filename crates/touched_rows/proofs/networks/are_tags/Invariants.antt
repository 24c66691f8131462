use Rattle.std.proofs.Common.{◌≡◌, take}
use Rattle.touched_rows.proofs.networks.are_tags.Given as goal

abbrev pub invariant-loop-place : goal.invariant-loop-place
invariant-loop-place l = take l.place l.old ≡ take l.place l.new
