use Rattle.std.proofs.Common.{◌≡◌, drop}
use Rattle.std.specs.List.{list_all}
use Rattle.api_types.specs.Consistent.Numbered.{is_drawn}
use Rattle.api_consistency.proofs.numbered.are_drawn.Given as goal

-- whether those that are left were drawn is whether all were
abbrev pub invariant-loop-row : goal.invariant-loop-row
invariant-loop-row g l = list_all (λ r. is_drawn l.rows.projects (g.R.Keyed.id_of r)) (drop l.row-index l.list) ≡ list_all (λ r. is_drawn l.rows.projects (g.R.Keyed.id_of r)) l.list
