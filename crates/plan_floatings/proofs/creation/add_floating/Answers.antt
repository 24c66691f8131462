use Rattle.std.proofs.Common.{◌≡◌, ◌∙◌, None, arith, subst, sym}
use Rattle.api_types.specs.Ident.{Ident}
use Rattle.api_types.specs.Registration.{ident}
use Rattle.api_types.specs.Table.{row_of}
use Rattle.api_types.specs.declared.floating.FloatingRow.{FloatingRow}
use Rattle.plan_floatings.proofs.creation.add_floating.Goals as goal

pub add_with_port-requires-clause-new_floating : goal.add_with_port-requires-clause-new_floating
add_with_port-requires-clause-new_floating c =
    let floatings = c.args.drawn.draft.rows.floatings in
    let none = (c.requires.new 0 (omega arith)).floatings in
    let first = subst (λ k. row_of (λ (f : FloatingRow). f.id) (ident c.args.drawn.ordinal k) floatings ≡ None) (omega arith) none in
    let id : c.in_ok-floating.floating.id ≡ ident c.args.drawn.ordinal c.args.drawn.first = (λ j. (c.in_ok-floating.ensures j).id) ∙ c.make-id.ensures in
    subst (λ (i : Ident). row_of (λ (f : FloatingRow). f.id) i floatings ≡ None) (sym id) first
