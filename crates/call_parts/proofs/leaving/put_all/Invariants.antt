use Rattle.std.proofs.Common.{◌≡◌, map}
use Rattle.api_types.specs.declared.floating.FloatingRow.{FloatingRow}
use Rattle.api_types.specs.declared.kind.Row.TheVariants.{Floating}
use Rattle.call_parts.specs.Edits.{Put, made}
use Rattle.call_parts.proofs.leaving.put_all.Given as goal

-- those that are left lead where all do
abbrev pub invariant-loop-floating : goal.invariant-loop-floating
invariant-loop-floating l = record {
  start : l.draft.start ≡ l.fn.draft.start;
  rows : made l.draft.rows (map (λ (f : FloatingRow). Put (Floating f)) l.floating-iterator.rest.items)
      ≡ made l.fn.draft.rows (map (λ (f : FloatingRow). Put (Floating f)) l.fn.floatings.items);
}
