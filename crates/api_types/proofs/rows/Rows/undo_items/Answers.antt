use Rattle.std.proofs.Common.{◌∙◌, ap, sym, subst, ◌+◌, ◌-◌, length, take}
use Rattle.api_types.specs.Rows.{CameBy, before}
use Rattle.api_types.proofs.ChangeLemmas.{step_back, last_of, Back}
use Rattle.api_types.proofs.rows.Rows.undo_items.Goals as goal

-- the step back from the rows of this turn
back : (c : goal.After-index-items-items) → Back c.loop-i.self (take (length c.args.items.now - (c.loop-i.i + 1)) c.args.items.now) c.index-items-items.result
back c =
    step_back c.loop-i.self _ c.index-items-items.result
    (subst (CameBy c.loop-i.self) (last_of c.args.items.now c.loop-i.i c.index-items-items.result c.loop-i-test.true c.index-items-items.is) c.loop-i.invariant.came)

pub undo_item-requires : goal.undo_item-requires
undo_item-requires c = (back c).last

pub loop-i-preserved : goal.loop-i-preserved
loop-i-preserved c =
    let items = c.args.items.now in
    let b = step_back c.loop-i.self _ c.index-items-items.result
    (subst (CameBy c.loop-i.self) (last_of items c.loop-i.i c.index-items-items.result c.loop-i-test.true c.index-items-items.is) c.loop-i.invariant.came) in
    record {
      came = subst (λ r. CameBy r (take (length items - (c.loop-i.i + 1)) items)) (sym c.in_ok-undo_item.ensures) b.rest;
      leads = ap (λ r. before r (take (length items - (c.loop-i.i + 1)) items)) c.in_ok-undo_item.ensures ∙ b.leads
          ∙ ap (before c.loop-i.self) (sym (last_of items c.loop-i.i c.index-items-items.result c.loop-i-test.true c.index-items-items.is))
          ∙ c.loop-i.invariant.leads;
    }
