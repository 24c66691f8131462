use Rattle.std.proofs.Common.{◌≡◌, ◌<◌, ℕ, false, true, get_or}
use Rattle.api_ipam.proofs.marks.count_marked.Given as goal

-- all so far are marked
abbrev pub invariant-loop-place : goal.invariant-loop-place
invariant-loop-place l = (k : ℕ) → k < l.place → get_or l.marks k false ≡ true
