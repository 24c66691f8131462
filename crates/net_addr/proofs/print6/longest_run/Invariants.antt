use Rattle.std.proofs.Common.{◌≤◌, ◌+◌, length}
use Rattle.net_addr.proofs.Print6Lemmas.{Scanned}
use Rattle.net_addr.proofs.print6.longest_run.Given as goal

abbrev pub invariant-loop-place : goal.invariant-loop-place
invariant-loop-place l = (l.place + l.zeros ≤ length l.groups) × (l.run.at + l.run.len ≤ length l.groups) × Scanned l.groups l.place l.zeros l.run.at l.run.len

abbrev pub decreases-loop-place : goal.decreases-loop-place
decreases-loop-place l = l.place
