use Rattle.std.proofs.Common.{◌∙◌, ◌++◌, [], List, ℕ, ap}
use Rattle.std.specs.Prelude.{option_and_then, option_copied}
use Rattle.std.specs.List.{cons_option}
use Rattle.std.proofs.lemmas.Result.{on_ok_weaker}
use Rattle.touched_rows.specs.TouchedNumbers.{router_number}
use Rattle.touched_rows.proofs.AmongLemmas.{two_added}
use Rattle.touched_rows.proofs.routers.add_routers_of.Goals as goal

pub add_router_of-requires : goal.add_router_of-requires
add_router_of-requires c = c.args.change.now.leads_on.consistent

pub add_router_of-requires-2 : goal.add_router_of-requires-2
add_router_of-requires-2 c = c.args.change.now.leads_on.stays_consistent

pub returns : goal.returns
returns c =
    let before = router_number c.args.change.now.before.now c.args.routers.now.rows in
    let after = router_number c.args.change.now.after.now c.args.routers.now.rows in
    let so_far = c.args.touched.now.items in
    let old = option_and_then before (option_copied c.row-old.result) in
    let new = option_and_then after (option_copied c.row_after-new.result) in
    on_ok_weaker c.add_router_of-2.result
    (λ is.
    is
    ∙ ap (λ (ks : List ℕ). ks ++ cons_option new []) c.in_ok-add_router_of.ensures
    ∙ two_added so_far old new
    ∙ (λ j. so_far ++ cons_option (option_and_then before (c.row-old.ensures j)) (cons_option (option_and_then after (c.row_after-new.ensures j)) [])))
    c.add_router_of-2.ensures
