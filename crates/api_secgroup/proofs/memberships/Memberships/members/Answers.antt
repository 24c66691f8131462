use Rattle.std.proofs.Common.{◌≡◌, ◌∙◌, [], ap, flat_map, map, sym}
use Rattle.std.specs.Prelude.{option_copied}
use Rattle.std.specs.List.{filter}
use Rattle.std.proofs.lemmas.Result.{IfOk-weaker}
use Rattle.api_types.specs.Ascending.{ascending, prefix_before}
use Rattle.api_types.specs.Members.{members, once}
use Rattle.api_types.specs.RowLists.{RowLists}
use Rattle.api_secgroup.specs.Named.{given_by, names}
use Rattle.api_secgroup.proofs.NamedLemmas.{given_to, listed}
use Rattle.api_secgroup.proofs.memberships.Memberships.members.Goals as goal

pub returns-in-Some : goal.returns-in-Some
unfolding members
returns-in-Some c =
    let group = c.args.group in
    let ports : map (λ p. p.now) c.as_slice.result.now ≡ filter (names group) c.args.self.now.ports =
    ap (map (λ p. p.now)) c.as_slice.ensures.value
    ∙ ap (λ o. listed (option_copied o)) (sym c.in-Some.is)
    ∙ ap listed c.get.ensures.value
    ∙ c.self.invariant group
    ∙ ap (λ (rows : RowLists). filter (names group) rows.ports) c.self.view_is in
    IfOk-weaker c.members_by.result _ _
    (λ p h. h ∙ ap (λ ps. ascending prefix_before (once (flat_map given_by ps))) ports ∙ ap (λ xs. ascending prefix_before (once xs)) (given_to group c.args.self.now.ports))
    c.members_by.ensures

pub returns-in-None : goal.returns-in-None
unfolding members ascending once
returns-in-None c =
    let group = c.args.group in
    let none : [] ≡ filter (names group) c.args.self.now.ports =
    ap (λ o. listed (option_copied o)) (sym c.in-None.is)
    ∙ ap listed c.get.ensures.value
    ∙ c.self.invariant group
    ∙ ap (λ (rows : RowLists). filter (names group) rows.ports) c.self.view_is in
    c.new.ensures ∙ ap (λ ps. ascending prefix_before (once (flat_map given_by ps))) none ∙ ap (λ xs. ascending prefix_before (once xs)) (given_to group c.args.self.now.ports)
