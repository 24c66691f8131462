use Rattle.std.proofs.Common.{◌≡◌, ◌∙◌, ◌++◌, ap, arith, map, subst, sym, take, take_all}
use Rattle.std.proofs.lemmas.Result.{IfOk-weaker}
use Rattle.table_edits.specs.EditsAt.{KeysDescend, among}
use Rattle.table_edits.proofs.OwnKeyLaw.{own_lead}
use Rattle.table_edits.proofs.own_key.edits_by_own_key.Goals as goal

pub returns : goal.returns
returns g c = λ now up_now away there.
    let before = g.R.Key.TableKey.before in
    let order = g.met.R.Key.TableKey.total in
    let key_of = g.R.OwnKey.key_of in
    let rows = c.args.rows.now in
    let given = c.args.given.now in
    let keys = c.args.keys.items in
    let ks = c.as_slice.result.now in
    let lent : ks ≡ c.in_ok-keys.keys.items = c.as_slice.ensures.value in
    let all : take c.loop-row.row-index given ≡ given = take_all c.loop-row.row-index given (omega (arith, c.loop-row-test.false, c.loop-row.auto.row-index-end)) in
    let had : c.loop-row.keys.items ≡ keys ++ map key_of given = c.loop-row.invariant ∙ ap (λ rs. keys ++ map key_of rs) all in
    IfOk-weaker c.edits_of.result _ _
    (λ es are.
    own_lead before order key_of rows given now keys ks es c.requires.rises up_now (subst (KeysDescend before) (sym lent) c.in_ok-keys.ensures.down)
    (λ q. ap (among before q) lent ∙ c.in_ok-keys.ensures.same q ∙ ap (among before q) had) are away there)
    c.edits_of.ensures
