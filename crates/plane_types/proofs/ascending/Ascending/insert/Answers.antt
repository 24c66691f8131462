use Rattle.std.proofs.Common.{◌≡◌, ◌∙◌, sym, subst, rules, of_calls}
use Rattle.std.specs.List.Sorted.{IsSortedBy}
use Rattle.std.proofs.lemmas.List.Sorted.{IsPartitionPoint-from_clause}
use Rattle.api_types.specs.Ascending.{put_in}
use Rattle.plane_types.proofs.PutLemmas.{IsPlace, insert_is_put, partitioned, put_sorted}
use Rattle.plane_types.proofs.ascending.Ascending.insert.Goals as goal

pub returns-clause-ok : goal.returns-clause-ok
returns-clause-ok g c =
    let before = g.T.Ordered.before in
    let order = g.met.T.Ordered.order in
    let item = c.args.item in
    let xs = c.self.inside.items.items in
    let place = c.partition_point-place.result in
    let seen = c.deref.result.now in
    let same : seen ≡ xs = c.deref.ensures.value in
    let up : IsSortedBy before seen = subst (IsSortedBy before) (sym same) c.self.invariant in
    let found : IsPlace before order item seen place = IsPartitionPoint-from_clause (λ y. before y item) seen place c.partition_point-place.ensures.partitioned (partitioned before order item seen up) (λ a r q k. search (rules, of_calls)) in
    let put : c.insert.new.self.items ≡ put_in before item xs =
    c.in_ok-insert.ensures.items ∙ insert_is_put before order item xs place (subst (λ ys. IsPlace before order item ys place) same found) (search (rules, of_calls)) in
    subst (λ ys. c.insert.new.self.items ≡ put_in before item ys) c.self.view_is put

pub invariant_of-self-2 : goal.invariant_of-self-2
invariant_of-self-2 g c = subst (IsSortedBy g.T.Ordered.before) (sym (returns-clause-ok g c)) (put_sorted g.T.Ordered.before g.met.T.Ordered.order c.args.item c.args.self.now (subst (IsSortedBy g.T.Ordered.before) c.self.view_is c.self.invariant))
