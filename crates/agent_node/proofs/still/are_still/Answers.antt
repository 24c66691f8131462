use Rattle.std.proofs.Common.{◌≡◌, ◌∙◌, ◌+◌, List, ◌∷◌, ap, drop, subst, sym}
use Rattle.std.proofs.lemmas.List.{at_drop_more}
use Rattle.api_types.specs.declared.change.Item.{Item}
use Rattle.agent_node.specs.Still.{AreStill}
use Rattle.agent_node.proofs.still.are_still.Goals as goal

pub loop-item-preserved : goal.loop-item-preserved
loop-item-preserved c = λ rest.
    let items = c.args.items.now in
    let i = c.loop-item.item-index in
    let item = c.item-item.result in
    let here : drop i items ≡ item ∷ drop (i + 1) items =
    at_drop_more (λ (xs : List Item). xs) items i item c.loop-item-test.true
    ∙ ap (λ (x : Item). x ∷ drop (i + 1) items) (sym c.item-item.is) in
    c.loop-item.invariant
    (subst AreStill (sym here) (c.is_still.ensures c.if-not-is_still.false, rest))
