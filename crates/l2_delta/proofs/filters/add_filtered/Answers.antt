use Rattle.std.proofs.Common.{◌≡◌, ◌∙◌, ◌++◌, ap, false, length, sym}
use Rattle.std.proofs.lemmas.List.{append-nil}
use Rattle.std.specs.HashSet.{contains}
use Rattle.api_types.specs.Ident.{Ident}
use Rattle.api_types.specs.Table.{ident_eq}
use Rattle.l2_delta.specs.Filtered.{is_filtered_by}
use Rattle.l2_delta.proofs.CoverLemmas.{no_numbers, none_of_none}
use Rattle.l2_delta.proofs.FilterLemmas.{by_none}
use Rattle.l2_delta.proofs.filters.add_filtered.Goals as goal

pub returns-then-is_empty : goal.returns-then-is_empty
returns-then-is_empty c =
    let numbers = c.args.numbers.now.items in
    let groups = c.args.groups.now in
    let rows = c.args.rows.now in
    let host = c.args.host.now in
    let empty : length groups.keys ≡ 0 = c.is_empty.ensures.0 c.if-is_empty.true in
    let none : (i : Ident) → contains ident_eq groups i ≡ false = λ i. none_of_none (ident_eq i) groups.keys empty in
    sym (ap (λ ns. numbers ++ ns) (no_numbers (is_filtered_by rows host (contains ident_eq groups)) (by_none rows host (contains ident_eq groups) none) 0 c.args.ports.now) ∙ append-nil numbers)
