use Rattle.std.proofs.Common.{◌≡◌, ◌∙◌, ℕ, ◌+◌, List, drop, map, ap, sym, Bor}
use Rattle.std.specs.Prelude.{◌&&◌}
use Rattle.std.specs.List.{list_all, list_any}
use Rattle.std.specs.Str.{bytes_eq}
use Rattle.std.proofs.lemmas.List.{at_drop_more}
use Rattle.api_types.specs.declared.call.Filter.{Filter}
use Rattle.api_shown.proofs.AskedLemmas.{holds_again, holds_pushed}
use Rattle.api_shown.proofs.filtering.names_of.Goals as goal
use Rattle.api_shown.proofs.filtering.names_of.Goals.{then-not-is_among+in_ok-push, else-not-is_among}

pub loop-filter-preserved : goal.loop-filter-preserved
loop-filter-preserved c = λ p.
    let text : Bor (List ℕ) → List ℕ = λ n. n.now in
    let filters = c.args.filters.now in
    let i = c.loop-filter.filter-index in
    let filter = c.filter-item.result in
    let names = c.loop-filter.names.items in
    let left = list_all (λ (f : Filter). p f.name) (drop (i + 1) filters) in
    let here : list_all (λ (f : Filter). p f.name) (drop i filters) ≡ (p filter.name && left) =
    at_drop_more (list_all (λ (f : Filter). p f.name)) filters i filter c.loop-filter-test.true
    ∙ ap (λ (f : Filter). p f.name && left) (sym c.filter-item.is) in
    let onward : (list_all p (map text names) && (p filter.name && left)) ≡ list_all (λ (f : Filter). p f.name) filters =
    ap (λ b. list_all p (map text names) && b) (sym here) ∙ c.loop-filter.invariant p in
    elim c.if-not-is_among.branch [
      | then-not-is_among+in_ok-push w ↦
          ap (λ v. list_all p (map text v.items) && left) w.names-is
          ∙ ap (λ ns. list_all p (map text ns) && left) w.in_ok-push.ensures.items
          ∙ holds_pushed text p _ names left
          ∙ onward
      | else-not-is_among w ↦
          ap (λ v. list_all p (map text v.items) && left) w.names-is
          ∙ holds_again p filter.name (map text names) left (ap (λ ns. list_any (bytes_eq filter.name) (map text ns)) (sym c.as_slice.ensures.value) ∙ sym w.if-not-is_among.ensures)
          ∙ onward
    ]
