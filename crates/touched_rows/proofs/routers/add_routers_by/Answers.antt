use Rattle.std.proofs.Common.{◌≡◌, ◌∙◌, ◌+◌, ◌++◌, List, ℕ, ap, append_assoc, drop, flat_map, get_or, sym}
use Rattle.std.proofs.lemmas.List.{at_drop_more}
use Rattle.touched_rows.specs.TouchedNumbers.{routers_by}
use Rattle.touched_rows.proofs.routers.add_routers_by.Goals as goal

pub loop-number-preserved : goal.loop-number-preserved
loop-number-preserved c =
    let by = routers_by c.args.change.now.before.now c.args.change.now.after.now c.args.routers.now.rows c.args.change.now.ports in
    let ports = c.args.ports.now in
    let i = c.loop-number.number-index in
    let so_far = c.loop-number.touched.items in
    let rest = flat_map by (drop (i + 1) ports) in
    let here : flat_map by (drop i ports) ≡ by (get_or ports i 0) ++ rest = at_drop_more (flat_map by) ports i 0 c.loop-number-test.true in
    ap (λ (ks : List ℕ). ks ++ rest) c.in_ok-add_routers_of.ensures
    ∙ append_assoc so_far (by (get_or ports i 0)) rest
    ∙ ap (λ (ks : List ℕ). so_far ++ ks) (sym here)
    ∙ c.loop-number.invariant
