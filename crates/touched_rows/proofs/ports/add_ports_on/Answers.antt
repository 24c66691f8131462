use Rattle.std.proofs.Common.{◌≡◌, ◌∙◌, ◌++◌, ap, false, length, sym}
use Rattle.std.proofs.lemmas.List.{append-nil}
use Rattle.std.specs.HashSet.{contains}
use Rattle.api_types.specs.Ident.{Ident}
use Rattle.api_types.specs.Table.{ident_eq}
use Rattle.touched_rows.specs.TouchedNumbers.{can_live_on}
use Rattle.touched_rows.proofs.AmongLemmas.{on_none, no_numbers, none_of_none}
use Rattle.touched_rows.proofs.ports.add_ports_on.Goals as goal

pub returns-then-is_empty : goal.returns-then-is_empty
returns-then-is_empty c =
    let numbers = c.args.numbers.now.items in
    let networks = c.args.networks.now in
    let empty : length networks.keys ≡ 0 = c.is_empty.ensures.0 c.if-is_empty.true in
    let none : (i : Ident) → contains ident_eq networks i ≡ false = λ i. none_of_none (ident_eq i) networks.keys empty in
    sym (ap (λ ns. numbers ++ ns) (no_numbers (can_live_on (contains ident_eq networks)) (on_none (contains ident_eq networks) none) 0 c.args.ports.now) ∙ append-nil numbers)
