use Rattle.std.proofs.Common.{◌≡◌, drop}
use Rattle.api_types.specs.Consistent.InForm.{all_apart}
use Rattle.api_clauses.proofs.forms.are_apart_all.Given as goal

-- those behind are apart exactly where all are
abbrev pub invariant-loop-place : goal.invariant-loop-place
invariant-loop-place l = all_apart (drop l.place l.pools) ≡ all_apart l.pools
