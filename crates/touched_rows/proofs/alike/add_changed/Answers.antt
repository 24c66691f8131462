use Rattle.std.proofs.Common.{◌≡◌, ◌∙◌, ap, cond, false, sym, true}
use Rattle.std.specs.HashSet.{contains}
use Rattle.api_types.specs.Table.{ident_eq}
use Rattle.api_types.proofs.ListLemmas.{false_true}
use Rattle.api_types.proofs.NameLemmas.{by_test}
use Rattle.touched_rows.proofs.alike.add_changed.Goals as goal

pub returns-in_ok-insert-clause-keeps : goal.returns-in_ok-insert-clause-keeps
returns-in_ok-insert-clause-keeps g c = λ n away.
    let old = contains ident_eq c.args.ids.now n in
    let told = c.in_ok-insert.ensures.updates in
    by_test (ident_eq c.id-id.result n) (old ≡ false)
    (λ is. false_true _ (sym away ∙ told.0 n ∙ ap (λ b. cond b true old) is))
    (λ off. sym (told.2 n off) ∙ away)
