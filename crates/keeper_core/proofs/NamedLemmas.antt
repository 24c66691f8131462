-- Values under names: where the first one stands, and what is put there.
use Rattle.std.proofs.Common.{◌≡◌, ◌≤◌, ◌<◌, ◌+◌, ◌++◌, [], ◌∷◌, ℕ, List, suc, Bool, true, false, cond, not, Some, None, option_map, length, slice_index_or, slice_set, refl, sym, ap, subst, ◌∙◌, arith}
use Rattle.std.specs.List.{position_or_len, slice_get}
use Rattle.std.proofs.lemmas.List.Folds.{find_at}
use Rattle.std.proofs.lemmas.Option.{slice_get_past, slice_get-get_or}
use Rattle.keeper_core.specs.Named.{has_name, value_named, with_value}
use Rattle.keeper_core.specs.declared.named.Named.{Named}

suc_is : (n : ℕ) → suc n ≡ 1 + n
suc_is n = omega arith

-- where none passes, the first place that does is the end
pub none_pass : {X : Type 0} (p : X → Bool) (xs : List X) → ((k : ℕ) (d : X) → k < length xs → p (slice_index_or xs k d) ≡ false) → position_or_len p xs ≡ length xs
none_pass p [] h = refl
none_pass p (x ∷ xs) h =
    ap (λ b. cond (not b) (1 + position_or_len p xs) 0) (h 0 x (omega arith)) ∙ ap (λ n. 1 + n) (none_pass p xs (λ k d below. h (suc k) d (omega (below, arith)))) ∙ sym (suc_is (length xs))

module _ {V : Type 0} where
  pub value_within : (name : List ℕ) (items : List (Named V)) (place : ℕ) (d : Named V) → place ≡ position_or_len (has_name name) items → place < length items
      → Some (slice_index_or items place d).value ≡ value_named name items
  value_within name items place d is h =
      sym (ap (option_map (λ item. item.value)) (find_at (has_name name) items ∙ ap (slice_get items) (sym is) ∙ slice_get-get_or items place d h))

  pub value_past : (name : List ℕ) (items : List (Named V)) (place : ℕ) → place ≡ position_or_len (has_name name) items → length items ≤ place
      → None ≡ value_named name items
  value_past name items place is h =
      sym (ap (option_map (λ item. item.value)) (find_at (has_name name) items ∙ ap (slice_get items) (sym is) ∙ slice_get_past items place h))

  put_at : (name : List ℕ) (value : V) (items : List (Named V)) (d : Named V) → position_or_len (has_name name) items < length items
      → slice_set items (position_or_len (has_name name) items) (record { name = (slice_index_or items (position_or_len (has_name name) items) d).name; value = value }) ≡ with_value name value items
  put_at name value [] d h = absurd (omega (h, arith))
  put_at name value (x ∷ xs) d h =
      let pos = position_or_len (has_name name) xs in
      elim (has_name name x) as (λ b. cond (not b) (1 + pos) 0 < length (x ∷ xs)
      → slice_set (x ∷ xs) (cond (not b) (1 + pos) 0) (record { name = (slice_index_or (x ∷ xs) (cond (not b) (1 + pos) 0) d).name; value = value })
      ≡ cond b (record { name = x.name; value = value } ∷ xs) (x ∷ with_value name value xs)) [
        | true ↦ λ _. refl
        | false ↦ λ q. subst (λ n. slice_set (x ∷ xs) n (record { name = (slice_index_or (x ∷ xs) n d).name; value = value }) ≡ x ∷ with_value name value xs)
            (suc_is pos) (ap (λ l. x ∷ l) (put_at name value xs d (omega (q, arith))))
      ] h

  pub put_within : (name : List ℕ) (value : V) (items : List (Named V)) (place : ℕ) (old : Named V) → place ≡ position_or_len (has_name name) items → place < length items
      → old ≡ slice_index_or items place old → slice_set items place (record { name = old.name; value = value }) ≡ with_value name value items
  put_within name value items place old is h read =
      ap (λ (item : Named V). slice_set items place (record { name = item.name; value = value })) read
      ∙ subst (λ n. n < length items → slice_set items n (record { name = (slice_index_or items n old).name; value = value }) ≡ with_value name value items) (sym is)
      (put_at name value items old) h

  pub put_last : (name : List ℕ) (value : V) (items : List (Named V)) → length items ≤ position_or_len (has_name name) items
      → items ++ record { name = name; value = value } ∷ [] ≡ with_value name value items
  put_last name value [] h = refl
  put_last name value (x ∷ xs) h =
      let pos = position_or_len (has_name name) xs in
      elim (has_name name x) as (λ b. length (x ∷ xs) ≤ cond (not b) (1 + pos) 0
      → x ∷ (xs ++ record { name = name; value = value } ∷ []) ≡ cond b (record { name = x.name; value = value } ∷ xs) (x ∷ with_value name value xs)) [
        | true ↦ λ q. absurd (omega (q, arith))
        | false ↦ λ q. ap (λ l. x ∷ l) (put_last name value xs (omega (q, arith)))
      ] h
