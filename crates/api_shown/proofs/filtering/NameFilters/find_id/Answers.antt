use Rattle.std.proofs.Common.{◌≡◌, true, subst}
use Rattle.std.specs.Prelude.{IfSome, IsTrue}
use Rattle.std.specs.Str.{bytes_eq}
use Rattle.api_shown.specs.Asked.{AskedName, asked_under, has_asked}
use Rattle.api_shown.specs.Keys.{IsOnlyId, key_name}
use Rattle.api_shown.proofs.KeyLemmas.{only_asked}
use Rattle.api_shown.proofs.filtering.NameFilters.find_id.Goals as goal

pub returns-in-Id : goal.returns-in-Id
returns-in-Id c =
    let asked : AskedName = asked_under c.self.inside.filters.now c.self.inside.name.now in
    let key : bytes_eq asked.name (key_name c.in-Some.key) ≡ true = subst (λ o. IfSome o (λ k. IsTrue (bytes_eq c.self.inside.name.now (key_name k)))) c.in-Some.is c.self.invariant.key in
    let named = subst (λ k. bytes_eq asked.name (key_name k) ≡ true) c.in-Id.is key in
    subst (λ a. IfSome c.self.inside.id (IsOnlyId (λ admin members. has_asked admin members a))) c.self.view_is (only_asked asked c.self.inside.id named c.self.invariant.id)
