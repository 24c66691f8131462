use Rattle.std.proofs.Common.{◌≡◌, ◌∙◌, ◌++◌, ap, false, length, sym}
use Rattle.std.proofs.lemmas.List.{append-nil}
use Rattle.std.specs.HashSet.{contains}
use Rattle.api_types.specs.Ident.{Ident}
use Rattle.api_types.specs.Table.{ident_eq}
use Rattle.touched_rows.specs.TouchedNumbers.{router_in}
use Rattle.touched_rows.proofs.AmongLemmas.{in_none, none_kept, none_of_none}
use Rattle.touched_rows.proofs.routers.add_routers_in.Goals as goal

pub returns-then-is_empty : goal.returns-then-is_empty
returns-then-is_empty c =
    let touched = c.args.touched.now.items in
    let rows = c.args.rows.now in
    let routers = c.args.routers.now.rows in
    let subnets = c.args.subnets.now in
    let empty : length subnets.keys ≡ 0 = c.is_empty.ensures.0 c.if-is_empty.true in
    let none : (i : Ident) → contains ident_eq subnets i ≡ false = λ i. none_of_none (ident_eq i) subnets.keys empty in
    sym (ap (λ ns. touched ++ ns) (none_kept (router_in (contains ident_eq subnets) rows routers) (in_none (contains ident_eq subnets) none rows routers) rows.ports) ∙ append-nil touched)
