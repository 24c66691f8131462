-- The fields of a name.
use Rattle.std.proofs.Common.{zero, suc, [], ◌∷◌, ◌≡◌, ℕ, ◌<◌, List, length, take, get_or, Bool, true, false, ◌||◌, refl, sym, ap, ◌∙◌, arith, if◌then◌else◌}
use Rattle.std.specs.Prelude.{map, filter}
use Rattle.std.specs.List.{list_any}
use Rattle.http_heads.specs.Fields.{Named, values}
use Rattle.http_heads.specs.Words.{same_word}

-- one more field in front
pub front : (name : List ℕ) (f : Named) (fs : List Named) (t : Bool) → same_word f.0 name ≡ t → values name (f ∷ fs) ≡ (if t then f.1 ∷ values name fs else values name fs)
front name f fs true e = ap (λ t. map (λ g. g.1) (if t then f ∷ filter (λ g. same_word g.0 name) fs else filter (λ g. same_word g.0 name) fs)) e
front name f fs false e = ap (λ t. map (λ g. g.1) (if t then f ∷ filter (λ g. same_word g.0 name) fs else filter (λ g. same_word g.0 name) fs)) e

module _ {H : Type 0} (field : H → Named) (name : List ℕ) where
  -- the first field of that name
  pub first_value : (hs : List H) (i : ℕ) (h : H) → i < length hs → h ≡ get_or hs i h → values name (map field (take i hs)) ≡ []
      → same_word (field h).0 name ≡ true → (rest : List (List ℕ)) × (values name (map field hs) ≡ (field h).1 ∷ rest)
  first_value [] i h lt is none named = absurd (omega (arith, lt))
  first_value (x ∷ hs) zero h lt is none named =
      (values name (map field hs), front name (field x) (map field hs) true (ap (λ y. same_word (field y).0 name) (sym is) ∙ named) ∙ ap (λ y. (field y).1 ∷ values name (map field hs)) (sym is))
  first_value (x ∷ hs) (suc i) h lt is none named = by (same_word (field x).0 name) refl (λ e. first_value hs i h (omega (arith, lt)) is e named)
    where
      by : (t : Bool) → same_word (field x).0 name ≡ t
          → (values name (map field (take i hs)) ≡ [] → (rest : List (List ℕ)) × (values name (map field hs) ≡ (field h).1 ∷ rest))
          → (rest : List (List ℕ)) × (values name (map field (x ∷ hs)) ≡ (field h).1 ∷ rest)
      by true e later = let both : (field x).1 ∷ values name (map field (take i hs)) ≡ [] = sym (front name (field x) (map field (take i hs)) true e) ∙ none in absurd (cc)
      by false e later = let r = later (sym (front name (field x) (map field (take i hs)) false e) ∙ none) in (r.0, front name (field x) (map field hs) false e ∙ r.1)

  module _ (test : List ℕ → Bool) where
    any_front : (f : Named) (fs : List Named) (t : Bool) → same_word f.0 name ≡ t → list_any test (values name (f ∷ fs)) ≡ (if t then test f.1 || list_any test (values name fs) else list_any test (values name fs))
    any_front f fs true e = ap (list_any test) (front name f fs true e)
    any_front f fs false e = ap (list_any test) (front name f fs false e)

    or_true : (a : Bool) → (a || true) ≡ true
    or_true true = refl
    or_true false = refl

    -- a field of that name passes
    pub any_there : (hs : List H) (i : ℕ) (h : H) → i < length hs → h ≡ get_or hs i h → same_word (field h).0 name ≡ true → test (field h).1 ≡ true → list_any test (values name (map field hs)) ≡ true
    any_there [] i h lt is named passes = absurd (omega (arith, lt))
    any_there (x ∷ hs) zero h lt is named passes =
        any_front (field x) (map field hs) true (ap (λ y. same_word (field y).0 name) (sym is) ∙ named) ∙ ap (λ y. test (field y).1 || list_any test (values name (map field hs))) (sym is) ∙ ap (λ t. t || list_any test (values name (map field hs))) passes
    any_there (x ∷ hs) (suc i) h lt is named passes = by (any_there hs i h (omega (arith, lt)) is named passes) (same_word (field x).0 name) refl
      where
        by : list_any test (values name (map field hs)) ≡ true → (t : Bool) → same_word (field x).0 name ≡ t → list_any test (values name (map field (x ∷ hs))) ≡ true
        by later true e = any_front (field x) (map field hs) true e ∙ ap (λ t. test (field x).1 || t) later ∙ or_true (test (field x).1)
        by later false e = any_front (field x) (map field hs) false e ∙ later
