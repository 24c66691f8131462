-- Filters by their names.
use Rattle.std.proofs.Common.{◌≡◌, ◌∙◌, ℕ, Bool, true, false, cond, List, [], ◌∷◌, ◌++◌, map, ap, refl, sym}
use Rattle.std.specs.Prelude.{◌&&◌, ◌||◌}
use Rattle.std.specs.List.{list_all, list_any}
use Rattle.std.specs.Str.{bytes_eq}
use Rattle.api_types.proofs.ListLemmas.{false_true}
use Rattle.api_types.proofs.NameLemmas.{bytes_same}
use Rattle.api_types.specs.Printed.{NamedTree, word}
use Rattle.api_types.specs.declared.call.Filter.{Filter}
use Rattle.api_policy.specs.Filtered.{fits, has_value, meets}
use Rattle.api_policy.specs.Shown.{is_told}
use Rattle.api_shown.specs.Asked.{asked_under, asks_for, has_asked}

-- where none fits, none with the name does
pub none_fits : (name : List ℕ) (filters : List Filter) → false ≡ list_any (λ (f : Filter). bytes_eq name f.name && false) filters
none_fits name [] = refl
none_fits name (f ∷ filters) = go (bytes_eq name f.name) (none_fits name filters)
  where
    rest : Bool
    rest = list_any (λ (f : Filter). bytes_eq name f.name && false) filters

    go : (b : Bool) → false ≡ rest → false ≡ ((b && false) || rest)
    go true h = h
    go false h = h

-- a text that a filter asks for is there with its value
pub text_here : (name t : List ℕ) (f : Filter) (filters : List Filter) (had : Bool) → bytes_eq name f.name ≡ true
    → (cond (bytes_eq f.value t) true had || asks_for (asked_under filters name) (word t)) ≡ (had || asks_for (asked_under (f ∷ filters) name) (word t))
text_here name t f filters had named = go (bytes_eq name f.name) (bytes_eq f.value t) had named
  where
    rest : Bool
    rest = asks_for (asked_under filters name) (word t)

    go : (a b c : Bool) → a ≡ true → (cond b true c || rest) ≡ (c || ((a && b) || rest))
    go true true true h = refl
    go true true false h = refl
    go true false c h = refl
    go false b c h = false_true _ h

-- a filter of another name asks for nothing
pub not_here : (name t : List ℕ) (f : Filter) (filters : List Filter) (had : Bool) → bytes_eq name f.name ≡ false
    → (had || asks_for (asked_under filters name) (word t)) ≡ (had || asks_for (asked_under (f ∷ filters) name) (word t))
not_here name t f filters had other = λ j. had || ((sym other j && bytes_eq f.value t) || asks_for (asked_under filters name) (word t))

-- what holds of all names holds of one that is among them
pub holds_again : (p : List ℕ → Bool) (name : List ℕ) (names : List (List ℕ)) (rest : Bool) → list_any (bytes_eq name) names ≡ true
    → (list_all p names && rest) ≡ (list_all p names && (p name && rest))
holds_again p name [] rest among = false_true _ among
holds_again p name (n ∷ names) rest among = go (bytes_eq name n) refl (p n) refl among (holds_again p name names rest)
  where
    left : Bool
    left = list_all p names

    go : (same : Bool) → bytes_eq name n ≡ same → (holds : Bool) → p n ≡ holds → (same || list_any (bytes_eq name) names) ≡ true
        → (list_any (bytes_eq name) names ≡ true → (left && rest) ≡ (left && (p name && rest)))
        → ((holds && left) && rest) ≡ ((holds && left) && (p name && rest))
    go true e true h at onward = λ j. left && ((sym h ∙ ap p (sym (bytes_same name n e))) j && rest)
    go false e true h at onward = onward at
    go same e false h at onward = refl

-- what holds of all, with one more at the end
pub holds_pushed : {X : Type 0} (name : X → List ℕ) (p : List ℕ → Bool) (x : X) (xs : List X) (rest : Bool)
    → (list_all p (map name (xs ++ x ∷ [])) && rest) ≡ (list_all p (map name xs) && (p (name x) && rest))
holds_pushed name p x [] rest = go (p (name x))
  where
    go : (b : Bool) → ((b && true) && rest) ≡ (b && rest)
    go true = refl
    go false = refl
holds_pushed name p x (y ∷ ys) rest = go (p (name y)) (holds_pushed name p x ys rest)
  where
    all : Bool
    all = list_all p (map name (ys ++ x ∷ []))

    go : (b : Bool) → (all && rest) ≡ (list_all p (map name ys) && (p (name x) && rest))
        → ((b && all) && rest) ≡ ((b && list_all p (map name ys)) && (p (name x) && rest))
    go true h = h
    go false h = refl

pub all_mapped : {X Y Z : Type 0} (p : Z → Bool) (f : Y → Z) (g : X → Y) (xs : List X) → list_all p (map (λ x. f (g x)) xs) ≡ list_all (λ y. p (f y)) (map g xs)
all_mapped p f g [] = refl
all_mapped p f g (x ∷ xs) = ap (λ b. p (f (g x)) && b) (all_mapped p f g xs)

-- a member with the name of which no filter is left
nothing_asked : (admin : Bool) (members : List NamedTree) (name : List ℕ) → has_asked admin members (asked_under [] name) ≡ false
nothing_asked admin [] name = refl
nothing_asked admin (m ∷ members) name = go (is_told admin m.0) (bytes_eq name m.0) (nothing_asked admin members name)
  where
    rest : Bool
    rest = has_asked admin members (asked_under [] name)

    go : (a b : Bool) → rest ≡ false → ((a && (b && false)) || rest) ≡ false
    go true true h = h
    go true false h = h
    go false b h = h

-- what is asked for under a name is what the first filter asks for, where that is its name, or what the others do
asked_first : (admin : Bool) (members : List NamedTree) (name : List ℕ) (f : Filter) (filters : List Filter)
    → has_asked admin members (asked_under (f ∷ filters) name) ≡ ((bytes_eq name f.name && has_value admin members f) || has_asked admin members (asked_under filters name))
asked_first admin [] name f filters = go (bytes_eq name f.name)
  where
    go : (b : Bool) → false ≡ ((b && false) || false)
    go true = refl
    go false = refl
asked_first admin (m ∷ members) name f filters =
    go (bytes_eq name f.name) (is_told admin m.0) (bytes_eq name m.0) (bytes_eq f.name m.0) (fits f.value m.1) (asks_for (asked_under filters name) m.1) (has_value admin members f)
    (λ e. ap (λ n. bytes_eq n m.0) (bytes_same name f.name e)) (asked_first admin members name f filters)
  where
    all : Bool
    all = has_asked admin members (asked_under (f ∷ filters) name)

    rest : Bool
    rest = has_asked admin members (asked_under filters name)

    inside : (told same fit more value : Bool) → ((told && (same && (fit || more))) || (value || rest)) ≡ (((told && (same && fit)) || value) || ((told && (same && more)) || rest))
    inside true true true more value = refl
    inside true true false true true = refl
    inside true true false true false = refl
    inside true true false false value = refl
    inside true false fit more value = refl
    inside false same fit more value = refl

    go : (b told same as_first fit more value : Bool) → (b ≡ true → same ≡ as_first) → all ≡ ((b && value) || rest)
        → ((told && (same && ((b && fit) || more))) || all) ≡ ((b && ((told && (as_first && fit)) || value)) || ((told && (same && more)) || rest))
    go true told same as_first fit more value e h =
        ap (λ x. (told && (same && (fit || more))) || x) h
        ∙ inside told same fit more value
        ∙ ap (λ s. ((told && (s && fit)) || value) || ((told && (same && more)) || rest)) (e refl)
    go false told same as_first fit more value e h = ap (λ x. (told && (same && more)) || x) h

-- a told member has the name and a value that is asked for, where a filter of the name has its value
asked_any : (admin : Bool) (members : List NamedTree) (name : List ℕ) (filters : List Filter)
    → has_asked admin members (asked_under filters name) ≡ list_any (λ (g : Filter). bytes_eq name g.name && has_value admin members g) filters
asked_any admin members name [] = nothing_asked admin members name
asked_any admin members name (f ∷ filters) =
    asked_first admin members name f filters ∙ ap (λ b. (bytes_eq name f.name && has_value admin members f) || b) (asked_any admin members name filters)

-- filters are met where those of each name are
pub met_by_name : (admin : Bool) (members : List NamedTree) (filters : List Filter)
    → list_all (λ (f : Filter). has_asked admin members (asked_under filters f.name)) filters ≡ meets admin filters members
met_by_name admin members filters = go filters
  where
    go : (left : List Filter) → list_all (λ (f : Filter). has_asked admin members (asked_under filters f.name)) left
        ≡ list_all (λ (f : Filter). list_any (λ (g : Filter). bytes_eq f.name g.name && has_value admin members g) filters) left
    go [] = refl
    go (f ∷ left) = λ j. asked_any admin members f.name filters j && go left j
