-- Valid translations among the entries that were there and those that are fresh.
use Rattle.std.proofs.Common.{◌≡◌, ◌∙◌, ◌++◌, ℕ, List, Bool, ap, sym}
use Rattle.std.proofs.Math.Bool.{or_assoc}
use Rattle.std.specs.Prelude.{◌||◌, find}
use Rattle.std.specs.List.{filter_map}
use Rattle.std.specs.Option.{option_or}
use Rattle.std.proofs.lemmas.List.Folds.{find-append, list_any-append}
use Rattle.api_types.specs.Ident.{Ident}
use Rattle.plane_types.specs.Parts.{use_if}
use Rattle.plane_types.proofs.UseLemmas.{uses_of_both}
use Rattle.plane_types.specs.Routing.{Use, is_taken, uses_at}
use Rattle.plane_types.specs.declared.entry.Entry.{Entry}
use Rattle.plane_types.specs.declared.frame.Key.{Key}

pub find_both : (T : Use → Bool) (r : Ident) (outer : ℕ) (xs ys : List Entry) → find T (uses_at r outer (xs ++ ys)) ≡ option_or (find T (filter_map (use_if r outer) xs)) (find T (filter_map (use_if r outer) ys))
find_both T r outer xs ys = ap (find T) (uses_of_both r outer xs ys) ∙ find-append T (filter_map (use_if r outer) xs) (filter_map (use_if r outer) ys)

pub taken_both : (r : Ident) (outer : ℕ) (xs ys : List Entry) (k : Key) (port : ℕ) → is_taken (uses_at r outer (xs ++ ys)) k port ≡ (is_taken (filter_map (use_if r outer) xs) k port || is_taken (filter_map (use_if r outer) ys) k port)
taken_both r outer xs ys k port = ap (λ us. is_taken us k port) (uses_of_both r outer xs ys) ∙ list_any-append _ (filter_map (use_if r outer) xs) (filter_map (use_if r outer) ys)

-- marks of the one list and then of the other are marks of both
pub marked_both : (r : Ident) (outer : ℕ) (xs ys : List Entry) (k : Key) (port : ℕ) (before between after : Bool) → between ≡ (before || is_taken (filter_map (use_if r outer) xs) k port) → after ≡ (between || is_taken (filter_map (use_if r outer) ys) k port) → after ≡ (before || is_taken (uses_at r outer (xs ++ ys)) k port)
marked_both r outer xs ys k port before between after first second =
    second ∙ ap (λ b. b || is_taken (filter_map (use_if r outer) ys) k port) first ∙ or_assoc before _ _ ∙ ap (λ b. before || b) (sym (taken_both r outer xs ys k port))
