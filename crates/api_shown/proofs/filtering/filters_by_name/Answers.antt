use Rattle.std.proofs.Common.{◌∙◌, ℕ, List, map, ap, Bor}
use Rattle.std.specs.List.{list_all}
use Rattle.std.proofs.lemmas.Result.{IfOk-weaker}
use Rattle.api_shown.specs.Asked.{asked_under}
use Rattle.api_shown.proofs.AskedLemmas.{all_mapped}
use Rattle.api_shown.proofs.filtering.filters_by_name.Goals as goal

pub returns : goal.returns
returns c =
    let filters = c.args.filters.now in
    IfOk-weaker c.filters_named.result _ _
    (λ v is p.
    ap (list_all p) is
    ∙ ap (λ ns. list_all p (map (λ (n : Bor (List ℕ)). asked_under filters n.now) ns)) c.as_slice.ensures.value
    ∙ all_mapped p (asked_under filters) (λ (n : Bor (List ℕ)). n.now) c.in_ok-names.names.items
    ∙ c.in_ok-names.ensures (λ n. p (asked_under filters n)))
    c.filters_named.ensures
