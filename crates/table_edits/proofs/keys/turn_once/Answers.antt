use Rattle.std.proofs.Common.{◌≡◌, ◌∙◌, ◌-◌, ap, length, rules, slice_get, subst, sym}
use Rattle.table_edits.specs.Places.{is_below}
use Rattle.table_edits.proofs.DescendLemmas.{SoFar, last_is, last_of, one_again, one_new}
use Rattle.table_edits.proofs.keys.turn_once.Goals as goal

pub loop-key-preserved : goal.loop-key-preserved
loop-key-preserved g c =
    let before = g.K.TableKey.before in
    let order = g.met.K.TableKey.total in
    let all = c.args.keys.items in
    let once = c.loop-key.once.items in
    let key = c.in-Some.key in
    let lent : c.deref.result.now ≡ once = search rules in
    let tells : c.is_new.result ≡ is_below before key (last_of once) = c.is_new.ensures ∙ ap (λ ks. is_below before key (slice_get ks (length ks - 1))) lent ∙ ap (is_below before key) (last_is once) in
    one_again before order all c.pop.new.self.items once key c.requires
    (subst (λ ks. SoFar before order all ks once) c.in-Some.ensures.items c.loop-key.invariant)
    (sym tells ∙ c.if-is_new.false)

pub loop-key-preserved-in-Continue-1 : goal.loop-key-preserved-in-Continue-1
loop-key-preserved-in-Continue-1 g c =
    let before = g.K.TableKey.before in
    let order = g.met.K.TableKey.total in
    let all = c.args.keys.items in
    let once = c.loop-key.once.items in
    let key = c.in-Some.key in
    let lent : c.deref.result.now ≡ once = search rules in
    let tells : c.is_new.result ≡ is_below before key (last_of once) = c.is_new.ensures ∙ ap (λ ks. is_below before key (slice_get ks (length ks - 1))) lent ∙ ap (is_below before key) (last_is once) in
    subst (SoFar before order all c.pop.new.self.items) (sym c.in_ok-push.ensures.items)
    (one_new before order all c.pop.new.self.items once key
    (subst (λ ks. SoFar before order all ks once) c.in-Some.ensures.items c.loop-key.invariant)
    (sym tells ∙ c.if-is_new.true))
