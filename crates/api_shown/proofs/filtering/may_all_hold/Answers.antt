use Rattle.std.proofs.Common.{◌∙◌, ◌+◌, Bool, drop, ap, sym}
use Rattle.std.specs.Prelude.{◌&&◌}
use Rattle.std.specs.List.{list_all}
use Rattle.std.proofs.lemmas.List.{at_drop_more}
use Rattle.api_types.proofs.NameLemmas.{and_fails, first_fails}
use Rattle.api_shown.specs.Asked.{AskedName, has_asked}
use Rattle.api_shown.proofs.filtering.may_all_hold.Goals as goal

pub loop-filters-preserved : goal.loop-filters-preserved
loop-filters-preserved g c = λ rows caller admin left.
    let asked : AskedName → Bool = has_asked admin (g.R.Shows.members_of rows caller c.args.row.now) in
    let by_name = c.args.by_name.now in
    let i = c.loop-filters.filters-index in
    let here = c.filters-item.result in
    c.loop-filters.invariant rows caller admin
    (at_drop_more (list_all asked) by_name i here c.loop-filters-test.true
    ∙ ap (λ (a : AskedName). asked a && list_all asked (drop (i + 1) by_name)) (sym c.filters-item.is)
    ∙ and_fails (asked here) (list_all asked (drop (i + 1) by_name)) left)

pub returns-then-not-may_hold : goal.returns-then-not-may_hold
returns-then-not-may_hold g c = λ fails rows caller admin.
    let asked : AskedName → Bool = has_asked admin (g.R.Shows.members_of rows caller c.args.row.now) in
    let by_name = c.args.by_name.now in
    let i = c.loop-filters.filters-index in
    let here = c.filters-item.result in
    c.loop-filters.invariant rows caller admin
    (at_drop_more (list_all asked) by_name i here c.loop-filters-test.true
    ∙ ap (λ (a : AskedName). asked a && list_all asked (drop (i + 1) by_name)) (sym c.filters-item.is)
    ∙ first_fails (asked here) (list_all asked (drop (i + 1) by_name)) (c.may_hold.ensures c.if-not-may_hold.true rows caller admin))
