-- A new entry of an ordered map, moved from the end to its place.
use Rattle.std.proofs.Common.{◌≡◌, ℕ, ◌-◌, Bool, List, [], ◌∷◌, ◌++◌, length, insert, remove, Some, None, arith, refl, ap, ◌∙◌, slice_get}
use Rattle.std.specs.Option.{option_map_or}
use Rattle.std.proofs.lemmas.List.{append-nil, length-append}
use Rattle.std.proofs.lemmas.List.Edits.{remove-append_right}
use Rattle.std.proofs.lemmas.Option.{slice_get-get_or}
use Rattle.std.proofs.Math.Seq.{get_or-append_seam}
use Rattle.indexmap.specs.IndexMap.{IndexMap, get, insert_entry, insert_index, move_index}
use Rattle.indexmap.proofs.CallerLemmas.{insert_entry-new}
use Rattle.indexmap.proofs.MapLemmas.{or_len-absent, absent_from_lookup}

-- the last item of a list that it ends
got_last : {X : Type 0} (xs : List X) (x : X) → slice_get (xs ++ x ∷ []) (length xs) ≡ Some x
got_last xs x = slice_get-get_or (xs ++ x ∷ []) (length xs) x (omega (arith, length-append xs (x ∷ []))) ∙ ap Some (get_or-append_seam xs x [] x)

-- a list without its last item
cut_last : {X : Type 0} (xs : List X) (x : X) → remove (xs ++ x ∷ []) (length xs) ≡ xs
cut_last xs x =
    let none : length xs - length xs ≡ 0 = omega arith in
    remove-append_right xs (x ∷ []) (length xs) (length xs) refl (omega arith) ∙ ap (λ k. xs ++ remove (x ∷ []) k) none ∙ append-nil xs

-- a list with one more item at its end, and that item moved to a place
pub move_last : {X : Type 0} (xs : List X) (x : X) (place : ℕ) → move_index (xs ++ x ∷ []) (length xs) place ≡ insert xs place x
move_last xs x place =
    ap (λ o. option_map_or (λ y. insert (remove (xs ++ x ∷ []) (length xs)) place y) o (xs ++ x ∷ [])) (got_last xs x)
    ∙ ap (λ r. insert r place x) (cut_last xs x)

-- a new key's index is the length
pub index_new : {K X S : Type 0} (eq : K → K → Bool) (m : IndexMap K X S) (k : K) → get eq m k ≡ None → insert_index eq m k ≡ length m.entries
index_new eq m k none = or_len-absent (eq k) m.entries (absent_from_lookup (eq k) m.entries none)

-- a new key lands at its place
pub put_back_at : {K X S : Type 0} (eq : K → K → Bool) (m : IndexMap K X S) (k : K) (v : X) (place : ℕ) → get eq m k ≡ None
    → move_index (insert_entry eq m.entries k v) (insert_index eq m k) place ≡ insert m.entries place (k, v)
put_back_at eq m k v place none =
    ap (λ es. move_index es (insert_index eq m k) place) (insert_entry-new eq m k v none)
    ∙ ap (λ i. move_index (m.entries ++ (k, v) ∷ []) i place) (index_new eq m k none)
    ∙ move_last m.entries (k, v) place
