use Rattle.std.proofs.Common.{◌≡◌, ◌∙◌, ◌∷◌, [], false, true, ap, option_copied, subst, sym}
use Rattle.std.specs.Prelude.{IfSome, IsTrue}
use Rattle.std.specs.HashSet.{contains_text}
use Rattle.std.specs.Str.{bytes_eq}
use Rattle.api_types.specs.Printed.{word}
use Rattle.api_types.specs.RowLists.{RowLists}
use Rattle.api_types.specs.declared.call.Caller.{Caller}
use Rattle.api_policy.specs.Trees.{id_word}
use Rattle.api_shown.specs.Asked.{AskedName, asked_under, asks_for, has_asked}
use Rattle.api_shown.specs.Keys.{key_name, values_under}
use Rattle.api_shown.proofs.KeyLemmas.{key_fails}
use Rattle.api_shown.proofs.filtering.NameFilters.may_hold.Goals as goal

pub returns-in-Some-word_at : goal.returns-in-Some-word_at
returns-in-Some-word_at g c = λ fails rows caller admin.
    let members = g.R.Shows.members_of rows caller c.args.row.now in
    let asked : AskedName = asked_under c.self.inside.filters.now c.self.inside.name.now in
    let key = c.in-Some.key in
    let text = c.in-Some-word_at.word.now in
    let named : bytes_eq asked.name (key_name key) ≡ true = subst (λ o. IfSome o (λ k. IsTrue (bytes_eq c.self.inside.name.now (key_name k)))) c.in-Some.is c.self.invariant.key in
    let held = subst (λ o. IfSome (option_copied o) (λ t. (rs : RowLists) (who : Caller) → values_under (key_name key) (g.R.Shows.members_of rs who c.args.row.now) ≡ word t ∷ [])) c.in-Some-word_at.is c.word_at.ensures in
    let unasked : asks_for asked (word text) ≡ false = sym (c.self.invariant.texts text) ∙ ap (contains_text c.self.inside.texts) (sym c.as_str.ensures) ∙ sym c.contains.ensures ∙ fails in
    ap (has_asked admin members) (sym c.self.view_is) ∙ key_fails admin asked members (key_name key) (word text) named (held rows caller) unasked

pub returns-in-Some-id_at : goal.returns-in-Some-id_at
returns-in-Some-id_at g c = λ fails rows caller admin.
    let members = g.R.Shows.members_of rows caller c.args.row.now in
    let asked : AskedName = asked_under c.self.inside.filters.now c.self.inside.name.now in
    let key = c.in-Some.key in
    let asked_for = c.in-Some-id_at.id in
    let named : bytes_eq asked.name (key_name key) ≡ true = subst (λ o. IfSome o (λ k. IsTrue (bytes_eq c.self.inside.name.now (key_name k)))) c.in-Some.is c.self.invariant.key in
    let held = subst (λ o. IfSome o (λ i. (rs : RowLists) (who : Caller) → values_under (key_name key) (g.R.Shows.members_of rs who c.args.row.now) ≡ id_word i ∷ [])) c.in-Some-id_at.is c.id_at.ensures in
    let unasked : asks_for asked (id_word asked_for) ≡ false = ap (λ (a : AskedName). asks_for a (id_word asked_for)) c.self.view_is ∙ c.may_ask.ensures fails in
    ap (has_asked admin members) (sym c.self.view_is) ∙ key_fails admin asked members (key_name key) (id_word asked_for) named (held rows caller) unasked
