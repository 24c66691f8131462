-- The one id that filters ask for.
use Rattle.std.proofs.Common.{◌≡◌, ◌∙◌, ◌≤◌, ℕ, List, [], ◌∷◌, Bool, true, false, Option, None, Some, cond, refl, ap, sym, arith}
use Rattle.std.specs.Prelude.{IfSome, find, ◌&&◌, ◌||◌}
use Rattle.std.specs.List.{count_by, list_any}
use Rattle.std.specs.Str.{bytes_eq}
use Rattle.std.proofs.lemmas.List.Sums.{sum_by-cons}
use Rattle.api_types.specs.Ident.{Ident, IsDrawable, ident_text}
use Rattle.api_types.specs.Owners.{device_is}
use Rattle.api_types.specs.Table.{ident_eq}
use Rattle.api_types.proofs.ListLemmas.{false_true, none_some, none-counted, some_equal, uncounted}
use Rattle.api_types.proofs.NameLemmas.{by_test, bytes_same, ident_itself}
use Rattle.api_shown.specs.Keys.{FitsId, may_be}
use Rattle.api_shown.proofs.TextLemmas.{drawn_fits, printed_once}

pub printed_text : (value : List ℕ) (i : Ident) → device_is value i ≡ true → value ≡ ident_text i
unfolding device_is
printed_text value i is = bytes_same value (ident_text i) is

-- the text of an id is no other id's
other_text : (value : List ℕ) (asked i : Ident) → IsDrawable asked → value ≡ ident_text asked → FitsId i → ident_eq asked i ≡ false → bytes_eq value (ident_text i) ≡ false
other_text value asked i first text second other =
    by_test (bytes_eq value (ident_text i)) (bytes_eq value (ident_text i) ≡ false)
    (λ is. let same : asked ≡ i = printed_once asked i (drawn_fits asked first) second (sym text ∙ bytes_same value (ident_text i) is) in
    false_true _ (sym other ∙ ap (ident_eq asked) (sym same) ∙ ident_itself asked))
    (λ fails. fails)

pub unlike_asked : (value : List ℕ) (i : Ident) → FitsId i → (asked : Option Ident) → IfSome asked IsDrawable → IfSome asked (λ a. value ≡ ident_text a) → may_be asked i ≡ false → bytes_eq value (ident_text i) ≡ false
unlike_asked value i h None first text other = false_true _ (sym other)
unlike_asked value i h (Some asked) first text other = other_text value asked i first text h other

none_left : {X : Type 0} (first other : X → Bool) (xs : List X) → list_any first xs ≡ false → list_any (λ x. first x && other x) xs ≡ false
none_left first other [] h = refl
none_left first other (x ∷ xs) h = go (first x) h (none_left first other xs)
  where
    go : (b : Bool) → (b || list_any first xs) ≡ false → (list_any first xs ≡ false → list_any (λ x. first x && other x) xs ≡ false) → ((b && other x) || list_any (λ x. first x && other x) xs) ≡ false
    go true h onward = false_true _ (sym h)
    go false h onward = onward h

-- where one item alone passes the first test, and fails the other, none passes both
pub none_passes : {X : Type 0} (first other : X → Bool) (x : X) (xs : List X) → count_by first xs ≤ 1 → find first xs ≡ Some x → other x ≡ false → list_any (λ y. first y && other y) xs ≡ false
none_passes first other x [] few at fails = none_some x _ at
none_passes {X} first other x (y ∷ ys) few at fails = by (first y) refl at (none_passes first other x ys)
  where
    rest : Bool
    rest = list_any (λ z. first z && other z) ys

    by : (b : Bool) → first y ≡ b → cond b (Some y) (find first ys) ≡ Some x → (count_by first ys ≤ 1 → find first ys ≡ Some x → other x ≡ false → rest ≡ false) → ((b && other y) || rest) ≡ false
    by true is h onward =
        let same : y ≡ x = some_equal y x h in
        λ j. (ap other same ∙ fails) j || none_left first other ys (none-counted first ys (uncounted first y ys few is)) j
    by false is h onward =
        let zero : cond {A = ℕ} (first y) 1 0 ≡ 0 = ap (λ (b : Bool). cond {A = ℕ} b 1 0) is in
        onward (omega (arith, few, zero, sum_by-cons (λ z. cond {A = ℕ} (first z) 1 0) y ys)) h fails
