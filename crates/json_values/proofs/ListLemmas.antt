-- What is read of a list, item by item.
use Rattle.std.proofs.Common.{◌≡◌, List, [], ◌∷◌, ◌++◌, Option, Some, None, option_map, refl, ap, append_assoc}
use Rattle.std.proofs.lemmas.List.{append-nil}
use Rattle.serde_json.specs.Data.{Data}
use Rattle.serde_json.specs.View.{items_of}
use Rattle.json_values.specs.Values.{more, values_of}

-- these items before those that are still to be read
abbrev pub behind : {T : Type 0} → List T → Option (List T) → Option (List T)
behind xs o = option_map (λ ys. xs ++ ys) o

pub behind_none : {T : Type 0} (o : Option (List T)) → behind [] o ≡ o
behind_none None = refl
behind_none (Some ys) = refl

pub behind_more : {T : Type 0} (xs : List T) (x : T) (o : Option (List T)) → behind (xs ++ x ∷ []) o ≡ behind xs (more (Some x) o)
behind_more xs x None = refl
behind_more xs x (Some ys) = ap Some (append_assoc xs (x ∷ []) ys)

pub behind_all : {T : Type 0} (xs : List T) → behind xs (Some []) ≡ Some xs
behind_all xs = ap Some (append-nil xs)

-- the values of an array that has these
pub values_back : (ds : List Data) → values_of (items_of ds) ≡ ds
values_back [] = refl
values_back (d ∷ ds) = ap (λ (es : List Data). d ∷ es) (values_back ds)
