use Rattle.std.proofs.Common.{◌∙◌, rules}
use Rattle.std.proofs.lemmas.List.Sorted.{answers_always}
use Rattle.std.proofs.lemmas.Result.{IfOk-weaker}
use Rattle.table_edits.proofs.DescendLemmas.{ascends, same_keys}
use Rattle.table_edits.proofs.keys.descending.Goals as goal

pub turn_once-requires : goal.turn_once-requires
turn_once-requires g c = c.in_ok-sort_by.ensures.sorted g.K.TableKey.before (ascends g.K.TableKey.before g.met.K.TableKey.total) (answers_always _ _ _ (λ f a r h k. search rules))

pub returns-clause-same : goal.returns-clause-same
returns-clause-same g c =
    let before = g.K.TableKey.before in
    let order = g.met.K.TableKey.total in
    let stable = c.sort_by.ensures.stable before (ascends before order) (answers_always _ _ _ (λ f a r h k. search rules)) in
    IfOk-weaker c.turn_once.result _ _ (λ ks h q. h q ∙ same_keys before order c.args.keys.items c.sort_by.new.self.items stable q) c.turn_once.ensures.same
