-- Lists of values, read one by one.
use Rattle.std.proofs.Common.{◌≡◌, ℕ, suc, ◌+◌, ◌<◌, ◌≤◌, List, [], ◌∷◌, ◌++◌, length, map, drop, get_or, append-nil, append_assoc, refl, sym, ap, ◌∙◌, arith}
use Rattle.std.proofs.lemmas.List.{drop_all, drop_more}
use Rattle.serde_json.specs.Data.{Data}
use Rattle.serde_json.specs.View.{view}
use Rattle.serde_json.specs.declared.value.Value.{Value}
use Rattle.api_types.specs.Lists.{Each}

module _ {T : Type 0} (f : T → Data) (P : T → Type 0) (values : List Value) where
  -- what is left of a list that has these values, after those that were read
  abbrev pub Left : ℕ → List T → List T → Type 0
  Left i items xs = (left : List T) × (items ++ left ≡ xs) × (map view (drop i values) ≡ map f left) × Each P left

  -- the value at a place is that of the first one that is left
  first_left : (i : ℕ) (v : Value) (left : List T) → i < length values → v ≡ get_or values i v → map view (drop i values) ≡ map f left → Each P left
      → (x : T) × (rest : List T) × (left ≡ x ∷ rest) × (view v ≡ f x) × (map view (drop (i + 1) values) ≡ map f rest) × P x × Each P rest
  first_left i v left less at same all = by left (ap (map view) (sym (drop_more values i v less)) ∙ same) all
    where
      by : (left : List T) → view (get_or values i v) ∷ map view (drop (i + 1) values) ≡ map f left → Each P left
          → (x : T) × (rest : List T) × (left ≡ x ∷ rest) × (view v ≡ f x) × (map view (drop (i + 1) values) ≡ map f rest) × P x × Each P rest
      by [] e all = absurd cc
      by (x ∷ rest) e all =
          let head : view (get_or values i v) ≡ f x = cc in
          let tail : map view (drop (i + 1) values) ≡ map f rest = cc in
          (x, rest, refl, ap view at ∙ head, tail, all 0 x refl, λ k y there. all (suc k) y there)

  -- there is something whose value this is
  pub next_one : (i : ℕ) (items : List T) (v : Value) (xs : List T) → i < length values → v ≡ get_or values i v → Left i items xs → (x : T) × P x × (view v ≡ f x)
  next_one i items v xs less at (left, whole, same, all) = let n = first_left i v left less at same all in (n.0, n.5, n.3)

  -- one more is read
  pub one_read : (i : ℕ) (items : List T) (v : Value) (y : T) (xs : List T) → i < length values → v ≡ get_or values i v → ((x : T) → P x → view v ≡ f x → y ≡ x) → Left i items xs → Left (i + 1) (items ++ y ∷ []) xs
  one_read i items v y xs less at reads (left, whole, same, all) =
      let n = first_left i v left less at same all in
      (n.1, append_assoc items (y ∷ []) n.1 ∙ ap (λ x. items ++ x ∷ n.1) (reads n.0 n.5 n.3) ∙ ap (λ xs. items ++ xs) (sym n.2) ∙ whole, n.4, n.6)

  -- all are read
  pub all_read : (i : ℕ) (items xs : List T) → length values ≤ i → Left i items xs → items ≡ xs
  all_read i items xs past (left, whole, same, all) = by left (ap (map view) (sym (drop_all i values past)) ∙ same) whole
    where
      by : (left : List T) → [] ≡ map f left → items ++ left ≡ xs → items ≡ xs
      by [] e whole = sym (append-nil items) ∙ whole
      by (x ∷ rest) e whole = absurd cc
