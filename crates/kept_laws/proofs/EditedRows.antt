-- What single edits make of rows: a row put is the row set at its place, and where nothing is refused, no refusal's condition holds.
use Rattle.std.proofs.Common.{Bool, List, None, Option, Some, [], ap, cond, false, map, refl, slice_get, slice_set, suc, sym, true, zero, ℕ, ◌∙◌, ◌∷◌, ◌≡◌, ◌≤◌}
use Rattle.std.specs.Prelude.{filter}
use Rattle.api_types.specs.Ident.{Ident}
use Rattle.api_types.specs.Lists.{Each, times}
use Rattle.api_types.specs.Table.{ident_eq}
use Rattle.api_types.specs.declared.refusal.Refusal.{Refusal}
use Rattle.api_types.proofs.ListLemmas.{none_some, some_equal}
use Rattle.api_types.proofs.NameLemmas.{ident_itself}
use Rattle.api_types.specs.WithRows.{put_in}
use Rattle.api_types.specs.Refusing.{first_refusal}
use Rattle.call_parts.proofs.EditLaws.{put_once}

-- where no refusal comes, none of them does
pub none_refused : (os : List (Option Refusal)) → first_refusal os ≡ None → Each (λ o. o ≡ None) os
none_refused [] h k o at = none_some o _ at
none_refused (None ∷ os) h zero o at = sym (some_equal None o at)
none_refused (None ∷ os) h (suc k) o at = none_refused os h k o at
none_refused (Some refusal ∷ os) h k o at = none_some refusal _ (sym h)

pub get_map : {X Y : Type 0} (f : X → Y) (xs : List X) (k : ℕ) (x : X) → slice_get xs k ≡ Some x → slice_get (map f xs) k ≡ Some (f x)
get_map f [] k x at = none_some x _ at
get_map f (a ∷ xs) zero x at = ap (λ y. Some (f y)) (some_equal a x at)
get_map f (a ∷ xs) (suc k) x at = get_map f xs k x at

pub map_get : {X Y : Type 0} (f : X → Y) (xs : List X) (k : ℕ) (y : Y) → slice_get (map f xs) k ≡ Some y → (x : X) × (slice_get xs k ≡ Some x) × (f x ≡ y)
map_get f [] k y at = none_some y _ at
map_get f (a ∷ xs) zero y at = (a, refl, some_equal (f a) y at)
map_get f (a ∷ xs) (suc k) y at = map_get f xs k y at

-- a row that is put is set at the place of the one with its id
pub put_at : {R : Type 0} (id_of : R → Ident) (xs : List R) (k : ℕ) (old new : R) → slice_get xs k ≡ Some old → id_of new ≡ id_of old → ((i : Ident) → times id_of i xs ≤ 1)
    → put_in id_of new xs ≡ slice_set xs k new
put_at id_of xs k old new at same once =
    put_once (λ q. ident_eq (id_of new) (id_of q)) xs k old new at (ap (λ i. ident_eq i (id_of old)) same ∙ ident_itself (id_of old)) (once (id_of new))

-- a row that a test keeps stands among those kept
pub filter_has : {X : Type 0} (keep : X → Bool) (xs : List X) (k : ℕ) (x : X) → slice_get xs k ≡ Some x → keep x ≡ true → (j : ℕ) × (slice_get (filter keep xs) j ≡ Some x)
filter_has keep [] k x at h = none_some x _ at
filter_has keep (a ∷ xs) zero x at h =
    let same = some_equal a x at in
    (0, ap (λ b. slice_get (cond b (a ∷ filter keep xs) (filter keep xs)) 0) (ap keep same ∙ h) ∙ ap Some same)
filter_has keep (a ∷ xs) (suc k) x at h = by (keep a) (filter_has keep xs k x at h)
  where
    by : (b : Bool) → (j : ℕ) × (slice_get (filter keep xs) j ≡ Some x) → (j : ℕ) × (slice_get (cond b (a ∷ filter keep xs) (filter keep xs)) j ≡ Some x)
    by true r = (suc r.0, r.1)
    by false r = r
