use Rattle.std.proofs.Common.{◌≡◌, ◌∙◌, ◌++◌, ap, false, length, sym}
use Rattle.std.proofs.lemmas.List.{append-nil}
use Rattle.std.specs.HashSet.{contains}
use Rattle.api_types.specs.Ident.{Ident}
use Rattle.api_types.specs.Table.{ident_eq}
use Rattle.touched_rows.specs.TouchedNumbers.{is_by}
use Rattle.touched_rows.proofs.AmongLemmas.{by_none, no_numbers, none_of_none}
use Rattle.touched_rows.proofs.floatings.add_floatings_by.Goals as goal

pub returns-then-is_empty : goal.returns-then-is_empty
returns-then-is_empty c =
    let numbers = c.args.numbers.now.items in
    let routers = c.args.routers.now in
    let empty : length routers.keys ≡ 0 = c.is_empty.ensures.0 c.if-is_empty.true in
    let none : (i : Ident) → contains ident_eq routers i ≡ false = λ i. none_of_none (ident_eq i) routers.keys empty in
    sym (ap (λ ns. numbers ++ ns) (no_numbers (is_by (contains ident_eq routers)) (by_none (contains ident_eq routers) none) 0 c.args.floatings.now) ∙ append-nil numbers)
