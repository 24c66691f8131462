use Rattle.std.proofs.Common.{rules}
use Rattle.std.proofs.lemmas.List.Sorted.{answers_always}
use Rattle.api_types.proofs.SortLemmas.{sorted_is_ascending}
use Rattle.api_types.proofs.order.ascending.Goals as goal

pub returns : goal.returns
returns g c =
    let order = g.met.T.Ordered.order in
    let compares = answers_always _ _ _ (λ f a r h k. search rules) in
    sorted_is_ascending g.T.Ordered.before order c.args.items.items c.sort_by.new.self.items (c.in_ok-sort_by.ensures.sorted g.T.Ordered.before order compares) (c.sort_by.ensures.stable g.T.Ordered.before order compares)
