use Rattle.std.proofs.Common.{◌∙◌, ap, subst, sym}
use Rattle.std.specs.Prelude.{IfSome}
use Rattle.std.proofs.lemmas.List.Folds.{list_all_at}
use Rattle.api_shown.specs.Asked.{has_asked}
use Rattle.api_shown.specs.Keys.{IsOnlyId}
use Rattle.api_shown.proofs.filtering.find_id_among.Goals as goal

pub returns-in-Some : goal.returns-in-Some
returns-in-Some c = λ i fits other admin members shown.
    let here = c.filters-item.result in
    let only = subst (λ o. IfSome o (IsOnlyId (λ admin members. has_asked admin members here))) c.in-Some.is c.find_id.ensures in
    list_all_at (has_asked admin members) c.args.by_name.now c.loop-filters.filters-index here c.loop-filters-test.true
    (ap (has_asked admin members) (sym c.filters-item.is) ∙ only i fits other admin members shown)
