-- The values of a list from a place on.
use Rattle.std.proofs.Common.{◌≡◌, ◌∙◌, ℕ, zero, suc, ◌+◌, List, [], ◌∷◌, Some, ap, arith, drop, slice_get, sym}
use Rattle.api_types.proofs.ListLemmas.{none_some, some_equal}
use Rattle.toml.specs.Data.{item}
use Rattle.toml.specs.View.{items_view, view}
use Rattle.toml.specs.declared.value.Value.{Value}

pub items_from : (items : List Value) (i : ℕ) (x : Value) → slice_get items i ≡ Some x → items_view (drop i items) ≡ item (view x) (items_view (drop (i + 1) items))
items_from [] i x at = none_some x _ at
items_from (y ∷ ys) zero x at = ap (λ v. item (view v) (items_view ys)) (some_equal y x at)
items_from (y ∷ ys) (suc i) x at = let one : suc i + 1 ≡ suc (i + 1) = omega arith in items_from ys i x at ∙ ap (λ n. item (view x) (items_view (drop n (y ∷ ys)))) (sym one)
