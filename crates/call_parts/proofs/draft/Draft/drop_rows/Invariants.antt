use Rattle.std.proofs.Common.{◌≡◌, map}
use Rattle.std.specs.Prelude.{drop}
use Rattle.call_parts.specs.Edits.{Drop, made}
use Rattle.call_parts.proofs.draft.Draft.drop_rows.Given as goal

abbrev pub invariant-loop-id : goal.invariant-loop-id
invariant-loop-id g l = (l.draft.start ≡ l.fn.self.start) × (made l.draft.rows (map (λ i. Drop g.R.RowKind.kind_is i) (drop l.id-index l.ids)) ≡ made l.fn.self.rows (map (λ i. Drop g.R.RowKind.kind_is i) l.ids))
