use Rattle.std.proofs.Common.{◌≡◌, ◌∙◌, ◌+◌, ◌++◌, ◌∷◌, [], drop, ap, sym}
use Rattle.std.specs.Prelude.{◌&&◌, if◌then◌else◌, not}
use Rattle.std.specs.HashMap.{get}
use Rattle.std.specs.HashSet.{contains}
use Rattle.std.proofs.lemmas.List.{at_drop_more}
use Rattle.api_types.specs.Members.{names_group}
use Rattle.api_types.specs.Table.{ident_eq}
use Rattle.api_secgroup.proofs.NamedLemmas.{added_more, listed}
use Rattle.api_secgroup.proofs.memberships.add_to_each.Goals as goal

pub loop-group-preserved : goal.loop-group-preserved
loop-group-preserved c = λ q.
    let groups = c.args.groups.now in
    let i = c.loop-group.group-index in
    let group = c.group-item.result in
    let port = c.args.port.now in
    let seen = contains ident_eq c.loop-group.seen q in
    let so_far = listed (get ident_eq c.loop-group.by_group q) in
    let here : names_group q (drop i groups) ≡ names_group q (group ∷ drop (i + 1) groups) = at_drop_more (names_group q) groups i group c.loop-group-test.true ∙ ap (λ g. names_group q (g ∷ drop (i + 1) groups)) (sym c.group-item.is) in
    (λ j. c.in_ok-add_once.ensures.added q j ++ (if names_group q (drop (i + 1) groups) && not (c.in_ok-add_once.ensures.seen q j) then port ∷ [] else []))
    ∙ added_more so_far port (ident_eq q group) (names_group q (drop (i + 1) groups)) seen
    ∙ (λ j. so_far ++ (if sym here j && not seen then port ∷ [] else []))
    ∙ c.loop-group.invariant q
