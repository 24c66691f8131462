use Rattle.std.proofs.Common.{◌≡◌, ◌∙◌, ◌+◌, ◌∷◌, true, cond, drop, ap, sym}
use Rattle.std.specs.Prelude.{◌||◌, string_bytes}
use Rattle.std.specs.Str.{bytes_eq}
use Rattle.std.specs.HashSet.{contains_text}
use Rattle.std.proofs.lemmas.List.{at_drop_more}
use Rattle.std.proofs.lemmas.Map.Text.{hash_set_updates_text}
use Rattle.api_types.specs.Printed.{word}
use Rattle.api_types.specs.declared.call.Filter.{Filter}
use Rattle.api_shown.specs.Asked.{asked_under, asks_for}
use Rattle.api_shown.proofs.AskedLemmas.{not_here, text_here}
use Rattle.api_shown.proofs.filtering.texts_of.Goals as goal
use Rattle.api_shown.proofs.filtering.texts_of.Goals.{then-eq+in_ok-from_str+in_ok-insert, else-eq}

pub loop-filter-preserved : goal.loop-filter-preserved
loop-filter-preserved c = λ t.
    let filters = c.args.filters.now in
    let name = c.args.name.now in
    let i = c.loop-filter.filter-index in
    let filter = c.filter-item.result in
    let left = drop (i + 1) filters in
    let had = contains_text c.loop-filter.texts t in
    let here : asks_for (asked_under (drop i filters) name) (word t) ≡ asks_for (asked_under (filter ∷ left) name) (word t) =
    at_drop_more (λ fs. asks_for (asked_under fs name) (word t)) filters i filter c.loop-filter-test.true
    ∙ ap (λ (f : Filter). asks_for (asked_under (f ∷ left) name) (word t)) (sym c.filter-item.is) in
    let onward : (had || asks_for (asked_under (filter ∷ left) name) (word t)) ≡ asks_for (asked_under filters name) (word t) =
    ap (λ b. had || b) (sym here) ∙ c.loop-filter.invariant t in
    elim c.if-eq.branch [
      | then-eq+in_ok-from_str+in_ok-insert w ↦
          ap (λ s. contains_text s t || asks_for (asked_under left name) (word t)) w.texts-is
          ∙ ap (λ b. b || asks_for (asked_under left name) (word t))
          (hash_set_updates_text (string_bytes w.in_ok-from_str.field-0) c.loop-filter.texts w.insert.new.self true w.in_ok-insert.ensures.updates t
          ∙ ap (λ bs. cond (bytes_eq bs t) true had) (w.in_ok-from_str.ensures.ok ∙ w.as_str.ensures))
          ∙ text_here name t filter left had (sym w.if-eq.ensures)
          ∙ onward
      | else-eq w ↦
          ap (λ s. contains_text s t || asks_for (asked_under left name) (word t)) w.texts-is
          ∙ not_here name t filter left had (sym w.if-eq.ensures)
          ∙ onward
    ]
