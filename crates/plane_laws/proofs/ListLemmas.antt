-- Searches in lists that are made from lists.
use Rattle.std.proofs.Common.{◌≡◌, List, [], ◌∷◌, ◌++◌, map, Bool, true, false, cond, Option, Some, None, refl, ap, sym, subst, ◌∙◌}
use Rattle.std.specs.Prelude.{find, flat_map, option_and_then, option_map, ◌&&◌, ◌||◌, if◌then◌else◌, is_some}
use Rattle.std.specs.List.{filter, filter_map, cons_option, list_any}
use Rattle.std.specs.Option.{option_or}
use Rattle.std.proofs.lemmas.List.Folds.{find-append, list_any-append}
use Rattle.std.proofs.lemmas.Bool.{or_right}
use Rattle.std.proofs.lemmas.List.{append-nil}
use Rattle.api_types.proofs.ListLemmas.{or_false}
use Rattle.api_types.specs.Ascending.{ascending, put_in}
use Rattle.plane_laws.proofs.Facts.{AllOf, AtMostOne}

-- equal tests find alike
pub find-same : {X : Type 0} (p q : X → Bool) (xs : List X) → ((x : X) → p x ≡ q x) → find p xs ≡ find q xs
find-same p q [] e = refl
find-same p q (x ∷ xs) e = ap (λ b. cond b (Some x) (find p xs)) (e x) ∙ ap (λ o. cond (q x) (Some x) o) (find-same p q xs e)

-- what is found passes
pub find-passes : {X : Type 0} (p : X → Bool) (xs : List X) (y : X) → find p xs ≡ Some y → p y ≡ true
find-passes p [] y h = absurd (elimno h)
  where
    elimno : None ≡ Some y → ⊥
    elimno h = cc
find-passes {X} p (x ∷ xs) y h = go (p x) refl h (find-passes p xs y)
  where
    go : (b : Bool) → p x ≡ b → cond b (Some x) (find p xs) ≡ Some y → (find p xs ≡ Some y → p y ≡ true) → p y ≡ true
    go true e h rest = let same : x ≡ y = cc in (ap p (sym same)) ∙ e
    go false e h rest = rest h

-- and has what each element has
pub find-each : {X : Type 0} (P : X → Type 0) (p : X → Bool) (xs : List X) (y : X) → AllOf P xs → find p xs ≡ Some y → P y
find-each P p [] y all h = absurd (elimno h)
  where
    elimno : None ≡ Some y → ⊥
    elimno h = cc
find-each {X} P p (x ∷ xs) y all h = go (p x) h (find-each P p xs y all.1)
  where
    go : (b : Bool) → cond b (Some x) (find p xs) ≡ Some y → (find p xs ≡ Some y → P y) → P y
    go true h rest = let same : x ≡ y = cc in subst P same all.0
    go false h rest = rest h

-- fewer pass
pub find-none-less : {X : Type 0} (p q : X → Bool) (xs : List X) → ((x : X) → q x ≡ true → p x ≡ true) → find p xs ≡ None → find q xs ≡ None
find-none-less p q [] less h = refl
find-none-less {X} p q (x ∷ xs) less h = go (p x) (q x) refl refl h (find-none-less p q xs less)
  where
    go : (b c : Bool) → p x ≡ b → q x ≡ c → cond b (Some x) (find p xs) ≡ None → (find p xs ≡ None → find q xs ≡ None) → cond c (Some x) (find q xs) ≡ None
    go true c e f h rest = cc
    go false true e f h rest = let t : p x ≡ true = less x f in cc
    go false false e f h rest = rest h

pub AtMostOne-less : {X : Type 0} (p q : X → Bool) (xs : List X) → ((x : X) → q x ≡ true → p x ≡ true) → AtMostOne p xs → AtMostOne q xs
AtMostOne-less p q [] less h = tt
AtMostOne-less p q (x ∷ xs) less h = (λ e. find-none-less p q xs less (h.0 (less x e)), AtMostOne-less p q xs less h.1)

-- an element found by one test is what another finds, where it passes that
pub find-only : {X : Type 0} (p q : X → Bool) (xs : List X) (y : X) → AtMostOne q xs → find p xs ≡ Some y → q y ≡ true → find q xs ≡ Some y
find-only p q [] y one h e = absurd (elimno h)
  where
    elimno : None ≡ Some y → ⊥
    elimno h = cc
find-only {X} p q (x ∷ xs) y one h e = go (p x) (q x) refl h one.0 (λ k. find-only p q xs y one.1 k e)
  where
    go : (b c : Bool) → q x ≡ c → cond b (Some x) (find p xs) ≡ Some y → (q x ≡ true → find q xs ≡ None) → (find p xs ≡ Some y → find q xs ≡ Some y) → cond c (Some x) (find q xs) ≡ Some y
    go true true f h none rest = h
    go true false f h none rest = let same : x ≡ y = cc in let t : q x ≡ true = subst (λ z. q z ≡ true) (sym same) e in cc
    go false true f h none rest = let n = none f in let s = rest h in cc
    go false false f h none rest = rest h

-- a search in what is kept of a list
pub find-filter_map : {X Y : Type 0} (p : X → Bool) (q : Y → Bool) (f : X → Option Y) (xs : List X) → ((x : X) (y : Y) → f x ≡ Some y → q y ≡ p x) → AtMostOne p xs → find q (filter_map f xs) ≡ option_and_then f (find p xs)
find-filter_map p q f [] same one = refl
find-filter_map {X} {Y} p q f (x ∷ xs) same one = go (f x) (p x) refl refl one.0 (find-filter_map p q f xs same one.1)
  where
    go : (o : Option Y) (b : Bool) → f x ≡ o → p x ≡ b → (p x ≡ true → find p xs ≡ None) → find q (filter_map f xs) ≡ option_and_then f (find p xs) → find q (cons_option o (filter_map f xs)) ≡ option_and_then f (cond b (Some x) (find p xs))
    go None true e t none rest = rest ∙ ap (option_and_then f) (none t) ∙ sym e
    go None false e t none rest = rest
    go (Some y) true e t none rest = ap (λ b. cond b (Some y) (find q (filter_map f xs))) (same x y e ∙ t) ∙ sym e
    go (Some y) false e t none rest = ap (λ b. cond b (Some y) (find q (filter_map f xs))) (same x y e ∙ t) ∙ rest

-- a search in lists made of the elements of a list
pub find-flat_map : {X Y : Type 0} (p : X → Bool) (q : Y → Bool) (f : X → List Y) (xs : List X) → ((x : X) → p x ≡ false → find q (f x) ≡ None) → AtMostOne p xs → find q (flat_map f xs) ≡ option_and_then (λ x. find q (f x)) (find p xs)
find-flat_map p q f [] none one = refl
find-flat_map {X} {Y} p q f (x ∷ xs) none one =
    find-append q (f x) (flat_map f xs) ∙ go (p x) (find q (f x)) refl refl one.0 (find-flat_map p q f xs none one.1)
  where
    go : (b : Bool) (o : Option Y) → p x ≡ b → find q (f x) ≡ o → (p x ≡ true → find p xs ≡ None) → find q (flat_map f xs) ≡ option_and_then (λ x. find q (f x)) (find p xs) → option_or o (find q (flat_map f xs)) ≡ option_and_then (λ x. find q (f x)) (cond b (Some x) (find p xs))
    go true (Some y) t e only rest = sym e
    go true None t e only rest = rest ∙ ap (option_and_then (λ x. find q (f x))) (only t) ∙ sym e
    go false (Some y) t e only rest = let n = none x t in let bad : Some y ≡ None = sym e ∙ n in cc
    go false None t e only rest = rest

-- an order by a key doesn't change what a test of that key finds
pub find-put_in : {X : Type 0} (before : X → X → Bool) (q : X → Bool) (x : X) (ys : List X) → ((y : X) → before y x ≡ true → q x ≡ true → q y ≡ false) → find q (put_in before x ys) ≡ find q (x ∷ ys)
unfolding put_in
find-put_in before q x [] apart = refl
find-put_in {X} before q x (y ∷ ys) apart = go (before y x) (q x) (q y) refl refl refl (find-put_in before q x ys apart)
  where
    go : (b c d : Bool) → before y x ≡ b → q x ≡ c → q y ≡ d → find q (put_in before x ys) ≡ find q (x ∷ ys) → find q (if b then y ∷ put_in before x ys else (x ∷ y ∷ ys)) ≡ cond c (Some x) (cond d (Some y) (find q ys))
    go false c d e f g rest = ap (λ t. cond t (Some x) (cond (q y) (Some y) (find q ys))) f ∙ ap (λ t. cond c (Some x) (cond t (Some y) (find q ys))) g
    go true true true e f g rest = let n = apart y e f in cc
    go true true false e f g rest = ap (λ t. cond t (Some y) (find q (put_in before x ys))) g ∙ rest ∙ ap (λ t. cond t (Some x) (find q ys)) f
    go true false true e f g rest = ap (λ t. cond t (Some y) (find q (put_in before x ys))) g
    go true false false e f g rest = ap (λ t. cond t (Some y) (find q (put_in before x ys))) g ∙ rest ∙ ap (λ t. cond t (Some x) (find q ys)) f

pub find-ascending : {X : Type 0} (before : X → X → Bool) (q : X → Bool) (xs : List X) → ((x y : X) → before y x ≡ true → q x ≡ true → q y ≡ false) → find q (ascending before xs) ≡ find q xs
unfolding ascending
find-ascending before q [] apart = refl
find-ascending before q (x ∷ xs) apart = find-put_in before q x (ascending before xs) (apart x) ∙ ap (λ o. cond (q x) (Some x) o) (find-ascending before q xs apart)

pub option_or-none : {X : Type 0} (o : Option X) → option_or o None ≡ o
option_or-none None = refl
option_or-none (Some x) = refl

pub find-none_filter_map : {X Y : Type 0} (q : Y → Bool) (f : X → Option Y) (xs : List X) → ((x : X) (y : Y) → f x ≡ Some y → q y ≡ false) → find q (filter_map f xs) ≡ None
find-none_filter_map q f [] miss = refl
find-none_filter_map {X} {Y} q f (x ∷ xs) miss = go (f x) refl (find-none_filter_map q f xs miss)
  where
    go : (o : Option Y) → f x ≡ o → find q (filter_map f xs) ≡ None → find q (cons_option o (filter_map f xs)) ≡ None
    go None e rest = rest
    go (Some y) e rest = ap (λ b. cond b (Some y) (find q (filter_map f xs))) (miss x y e) ∙ rest

pub find-map : {X Y : Type 0} (q : Y → Bool) (f : X → Y) (xs : List X) → find q (map f xs) ≡ option_map f (find (λ x. q (f x)) xs)
find-map q f [] = refl
find-map {X} {Y} q f (x ∷ xs) = go (q (f x)) (find-map q f xs)
  where
    go : (b : Bool) → find q (map f xs) ≡ option_map f (find (λ x. q (f x)) xs) → cond b (Some (f x)) (find q (map f xs)) ≡ option_map f (cond b (Some x) (find (λ x. q (f x)) xs))
    go true rest = refl
    go false rest = rest

pub AtMostOne-map : {X Y : Type 0} (q : Y → Bool) (f : X → Y) (xs : List X) → AtMostOne (λ x. q (f x)) xs → AtMostOne q (map f xs)
AtMostOne-map q f [] h = tt
AtMostOne-map q f (x ∷ xs) h = (λ e. find-map q f xs ∙ ap (option_map f) (h.0 e), AtMostOne-map q f xs h.1)

pub AtMostOne-from_map : {X Y : Type 0} (q : Y → Bool) (f : X → Y) (xs : List X) → AtMostOne q (map f xs) → AtMostOne (λ x. q (f x)) xs
AtMostOne-from_map q f [] h = tt
AtMostOne-from_map {X} {Y} q f (x ∷ xs) h = (λ e. none (find (λ x. q (f x)) xs) (sym (find-map q f xs) ∙ h.0 e), AtMostOne-from_map q f xs h.1)
  where
    none : (o : Option X) → option_map f o ≡ None → o ≡ None
    none None e = refl
    none (Some y) e = cc

pub find-none_filter : {X : Type 0} (q r : X → Bool) (xs : List X) → find q xs ≡ None → find q (filter r xs) ≡ None
find-none_filter q r [] h = refl
find-none_filter {X} q r (x ∷ xs) h = go (r x) (q x) refl h (find-none_filter q r xs)
  where
    go : (b c : Bool) → q x ≡ c → cond c (Some x) (find q xs) ≡ None → (find q xs ≡ None → find q (filter r xs) ≡ None) → find q (cond b (x ∷ filter r xs) (filter r xs)) ≡ None
    go b true e h rest = cc
    go true false e h rest = ap (λ t. cond t (Some x) (find q (filter r xs))) e ∙ rest h
    go false false e h rest = rest h

pub AtMostOne-filter : {X : Type 0} (q r : X → Bool) (xs : List X) → AtMostOne q xs → AtMostOne q (filter r xs)
AtMostOne-filter q r [] h = tt
AtMostOne-filter {X} q r (x ∷ xs) h = go (r x) (AtMostOne-filter q r xs h.1)
  where
    go : (b : Bool) → AtMostOne q (filter r xs) → AtMostOne q (cond b (x ∷ filter r xs) (filter r xs))
    go true rest = (λ e. find-none_filter q r xs (h.0 e), rest)
    go false rest = rest

-- a test that some element passes finds one
pub find-some : {X : Type 0} (p : X → Bool) (xs : List X) → is_some (find p xs) ≡ list_any p xs
find-some p [] = refl
find-some {X} p (x ∷ xs) = go (p x) (find-some p xs)
  where
    go : (b : Bool) → is_some (find p xs) ≡ list_any p xs → is_some (cond b (Some x) (find p xs)) ≡ (b || list_any p xs)
    go true rest = refl
    go false rest = rest

pub list_any-found : {X : Type 0} (p q : X → Bool) (xs : List X) (y : X) → find p xs ≡ Some y → q y ≡ true → list_any q xs ≡ true
list_any-found {X} p q [] y h e = absurd (elimno h)
  where
    elimno : None ≡ Some y → ⊥
    elimno h = cc
list_any-found {X} p q (x ∷ xs) y h e = go (p x) (q x) refl h (λ k. list_any-found p q xs y k e)
  where
    go : (b c : Bool) → q x ≡ c → cond b (Some x) (find p xs) ≡ Some y → (find p xs ≡ Some y → list_any q xs ≡ true) → (c || list_any q xs) ≡ true
    go b true f h rest = refl
    go true false f h rest = let same : x ≡ y = cc in let t : q x ≡ true = subst (λ z. q z ≡ true) (sym same) e in cc
    go false false f h rest = rest h

pub list_any-map : {X Y : Type 0} (q : Y → Bool) (f : X → Y) (xs : List X) → list_any q (map f xs) ≡ list_any (λ x. q (f x)) xs
list_any-map q f [] = refl
list_any-map q f (x ∷ xs) = ap (λ b. q (f x) || b) (list_any-map q f xs)

-- what is found, and passes another test, is in what that test keeps
pub list_any-kept : {X : Type 0} (p q r : X → Bool) (xs : List X) (y : X) → find p xs ≡ Some y → q y ≡ true → r y ≡ true → list_any q (filter r xs) ≡ true
list_any-kept {X} p q r [] y h e f = absurd (elimno h)
  where
    elimno : None ≡ Some y → ⊥
    elimno h = cc
list_any-kept {X} p q r (x ∷ xs) y h e f = go (p x) (r x) refl h (λ k. list_any-kept p q r xs y k e f)
  where
    go : (b c : Bool) → r x ≡ c → cond b (Some x) (find p xs) ≡ Some y → (find p xs ≡ Some y → list_any q (filter r xs) ≡ true) → list_any q (cond c (x ∷ filter r xs) (filter r xs)) ≡ true
    go true true g h rest = let same : x ≡ y = cc in ap (λ b. b || list_any q (filter r xs)) (subst (λ z. q z ≡ true) (sym same) e)
    go true false g h rest = let same : x ≡ y = cc in let t : r x ≡ true = subst (λ z. r z ≡ true) (sym same) f in cc
    go false true g h rest = or_right (q x) (list_any q (filter r xs)) (rest h)
    go false false g h rest = rest h

pub some_of : {X : Type 0} (o : Option X) → is_some o ≡ true → (x : X) × (o ≡ Some x)
some_of None h = absurd (elimno h)
  where
    elimno : false ≡ true → ⊥
    elimno h = cc
some_of (Some x) h = (x, refl)

pub AllOf-more : {X : Type 0} (P Q : X → Type 0) (xs : List X) → ((x : X) → P x → Q x) → AllOf P xs → AllOf Q xs
AllOf-more P Q [] more h = tt
AllOf-more P Q (x ∷ xs) more h = (more x h.0, AllOf-more P Q xs more h.1)

pub find-same_each : {X : Type 0} (p q : X → Bool) (xs : List X) → AllOf (λ x. p x ≡ q x) xs → find p xs ≡ find q xs
find-same_each p q [] e = refl
find-same_each p q (x ∷ xs) e = ap (λ b. cond b (Some x) (find p xs)) e.0 ∙ ap (λ o. cond (q x) (Some x) o) (find-same_each p q xs e.1)

pub find-none_each : {X : Type 0} (p : X → Bool) (xs : List X) → AllOf (λ x. p x ≡ false) xs → find p xs ≡ None
find-none_each p [] e = refl
find-none_each p (x ∷ xs) e = ap (λ b. cond b (Some x) (find p xs)) e.0 ∙ find-none_each p xs e.1

pub list_any-filter : {X : Type 0} (q r : X → Bool) (xs : List X) → list_any q (filter r xs) ≡ true → list_any q xs ≡ true
list_any-filter q r [] h = h
list_any-filter {X} q r (x ∷ xs) h = go (r x) (q x) refl h (list_any-filter q r xs)
  where
    go : (b c : Bool) → q x ≡ c → list_any q (cond b (x ∷ filter r xs) (filter r xs)) ≡ true → (list_any q (filter r xs) ≡ true → list_any q xs ≡ true) → (c || list_any q xs) ≡ true
    go b true e h rest = refl
    go true false e h rest = rest (ap (λ t. t || list_any q (filter r xs)) (sym e) ∙ h)
    go false false e h rest = rest h

-- the one element that a test can pass settles what comes of all
pub any-only : {X : Type 0} (p r : X → Bool) (xs : List X) (y : X) → AtMostOne p xs → find p xs ≡ Some y → list_any (λ x. p x && r x) xs ≡ true → r y ≡ true
any-only p r [] y one h e = absurd (elimno h)
  where
    elimno : None ≡ Some y → ⊥
    elimno h = cc
any-only {X} p r (x ∷ xs) y one h e = go (p x) (r x) refl refl one.0 h e (λ k l. any-only p r xs y one.1 k l)
  where
    none_any : (ys : List X) → find p ys ≡ None → list_any (λ z. p z && r z) ys ≡ false
    none_any [] k = refl
    none_any (z ∷ ys) k = by (p z) refl k (none_any ys)
      where
        by : (b : Bool) → p z ≡ b → cond b (Some z) (find p ys) ≡ None → (find p ys ≡ None → list_any (λ z. p z && r z) ys ≡ false) → ((p z && r z) || list_any (λ z. p z && r z) ys) ≡ false
        by true f k rest = cc
        by false f k rest = ap (λ b. (b && r z) || list_any (λ z. p z && r z) ys) f ∙ rest k

    go : (b c : Bool) → p x ≡ b → r x ≡ c → (p x ≡ true → find p xs ≡ None) → cond b (Some x) (find p xs) ≡ Some y → ((p x && r x) || list_any (λ z. p z && r z) xs) ≡ true → (find p xs ≡ Some y → list_any (λ z. p z && r z) xs ≡ true → r y ≡ true) → r y ≡ true
    go true true f g only h e rest = let same : x ≡ y = cc in ap r (sym same) ∙ g
    go true false f g only h e rest =
        let none = none_any xs (only f) in
        let bad : true ≡ false = sym e ∙ ap (λ b. (p x && b) || list_any (λ z. p z && r z) xs) g ∙ ap (λ b. (b && false) || list_any (λ z. p z && r z) xs) f ∙ none in
        cc
    go false c f g only h e rest = rest h (sym (ap (λ b. (b && r x) || list_any (λ z. p z && r z) xs) f) ∙ e)

pub any-at : {X : Type 0} (p g : X → Bool) (xs : List X) (y : X) → AtMostOne p xs → find p xs ≡ Some y → ((x : X) → p x ≡ false → g x ≡ false) → list_any g xs ≡ g y
any-at p g [] y one h miss = absurd (elimno h)
  where
    elimno : None ≡ Some y → ⊥
    elimno h = cc
any-at {X} p g (x ∷ xs) y one h miss = go (p x) refl one.0 h (λ k. any-at p g xs y one.1 k miss)
  where
    none_any : (ys : List X) → find p ys ≡ None → list_any g ys ≡ false
    none_any [] k = refl
    none_any (z ∷ ys) k = by (p z) refl k (none_any ys)
      where
        by : (b : Bool) → p z ≡ b → cond b (Some z) (find p ys) ≡ None → (find p ys ≡ None → list_any g ys ≡ false) → (g z || list_any g ys) ≡ false
        by true f k rest = cc
        by false f k rest = ap (λ b. b || list_any g ys) (miss z f) ∙ rest k

    go : (b : Bool) → p x ≡ b → (p x ≡ true → find p xs ≡ None) → cond b (Some x) (find p xs) ≡ Some y → (find p xs ≡ Some y → list_any g xs ≡ g y) → (g x || list_any g xs) ≡ g y
    go true f only h rest = let same : x ≡ y = cc in ap (λ b. g x || b) (none_any xs (only f)) ∙ or_false (g x) ∙ ap g same
    go false f only h rest = ap (λ b. b || list_any g xs) (miss x f) ∙ rest h

pub list_any-flat_map : {X Y : Type 0} (q : Y → Bool) (f : X → List Y) (xs : List X) → list_any q (flat_map f xs) ≡ list_any (λ x. list_any q (f x)) xs
list_any-flat_map q f [] = refl
list_any-flat_map q f (x ∷ xs) = list_any-append q (f x) (flat_map f xs) ∙ ap (λ b. list_any q (f x) || b) (list_any-flat_map q f xs)

pub list_any-same_each : {X : Type 0} (p q : X → Bool) (xs : List X) → AllOf (λ x. p x ≡ q x) xs → list_any p xs ≡ list_any q xs
list_any-same_each p q [] e = refl
list_any-same_each p q (x ∷ xs) e = ap (λ b. b || list_any p xs) e.0 ∙ ap (λ b. q x || b) (list_any-same_each p q xs e.1)

pub list_any-same : {X : Type 0} (p q : X → Bool) (xs : List X) → ((x : X) → p x ≡ q x) → list_any p xs ≡ list_any q xs
list_any-same p q [] e = refl
list_any-same p q (x ∷ xs) e = ap (λ b. b || list_any p xs) (e x) ∙ ap (λ b. q x || b) (list_any-same p q xs e)

pub list_any-none_each : {X : Type 0} (p : X → Bool) (xs : List X) → AllOf (λ x. p x ≡ false) xs → list_any p xs ≡ false
list_any-none_each p [] e = refl
list_any-none_each p (x ∷ xs) e = ap (λ b. b || list_any p xs) e.0 ∙ list_any-none_each p xs e.1

-- with a key of its own each element is what its key finds
pub each-found : {X : Type 0} (T : X → X → Bool) (xs : List X) → ((x : X) → T x x ≡ true) → ((x : X) → AtMostOne (T x) xs) → AllOf (λ x. find (T x) xs ≡ Some x) xs
each-found T [] self one = tt
each-found {X} T (x ∷ xs) self one = (
  ap (λ b. cond b (Some x) (find (T x) xs)) (self x),
  AllOf-more (λ y. find (T y) xs ≡ Some y) (λ y. find (T y) (x ∷ xs) ≡ Some y) xs (λ y h. go y (T y x) refl h) (each-found T xs self (λ y. (one y).1)),
)
  where
    go : (y : X) (b : Bool) → T y x ≡ b → find (T y) xs ≡ Some y → cond b (Some x) (find (T y) xs) ≡ Some y
    go y true e h = let none = (one y).0 e in cc
    go y false e h = h

pub AllOf-filter : {X : Type 0} (P Q : X → Type 0) (r : X → Bool) (xs : List X) → ((x : X) → P x → r x ≡ true → Q x) → AllOf P xs → AllOf Q (filter r xs)
AllOf-filter P Q r [] more h = tt
AllOf-filter {X} P Q r (x ∷ xs) more h = go (r x) refl (AllOf-filter P Q r xs more h.1)
  where
    go : (b : Bool) → r x ≡ b → AllOf Q (filter r xs) → AllOf Q (cond b (x ∷ filter r xs) (filter r xs))
    go true e rest = (more x h.0 e, rest)
    go false e rest = rest

pub find-filter : {X : Type 0} (p r : X → Bool) (xs : List X) (y : X) → AtMostOne p xs → find p xs ≡ Some y → r y ≡ true → find p (filter r xs) ≡ Some y
find-filter p r [] y one h e = h
find-filter {X} p r (x ∷ xs) y one h e = go (p x) (r x) refl refl h (λ k. find-filter p r xs y one.1 k e)
  where
    go : (b c : Bool) → p x ≡ b → r x ≡ c → cond b (Some x) (find p xs) ≡ Some y → (find p xs ≡ Some y → find p (filter r xs) ≡ Some y) → find p (cond c (x ∷ filter r xs) (filter r xs)) ≡ Some y
    go true true f g h rest = ap (λ b. cond b (Some x) (find p (filter r xs))) f ∙ h
    go true false f g h rest = let same : x ≡ y = cc in let t : r x ≡ true = subst (λ z. r z ≡ true) (sym same) e in cc
    go false true f g h rest = ap (λ b. cond b (Some x) (find p (filter r xs))) f ∙ rest h
    go false false f g h rest = rest h

pub filter_map-append : {X Y : Type 0} (g : X → Option Y) (a b : List X) → filter_map g (a ++ b) ≡ filter_map g a ++ filter_map g b
filter_map-append g [] b = refl
filter_map-append {X} {Y} g (x ∷ a) b = go (g x) (filter_map-append g a b)
  where
    go : (o : Option Y) → filter_map g (a ++ b) ≡ filter_map g a ++ filter_map g b → cons_option o (filter_map g (a ++ b)) ≡ cons_option o (filter_map g a) ++ filter_map g b
    go None rest = rest
    go (Some y) rest = ap (λ ys. y ∷ ys) rest

pub filter_map-one : {X Y Z : Type 0} (p : X → Bool) (g : Y → Option Z) (f : X → List Y) (xs : List X) (y : X) → AtMostOne p xs → find p xs ≡ Some y → ((x : X) → p x ≡ false → filter_map g (f x) ≡ []) → filter_map g (flat_map f xs) ≡ filter_map g (f y)
filter_map-one p g f [] y one h miss = absurd (elimno h)
  where
    elimno : None ≡ Some y → ⊥
    elimno h = cc
filter_map-one {X} p g f (x ∷ xs) y one h miss = filter_map-append g (f x) (flat_map f xs) ∙ go (p x) refl one.0 h (λ k. filter_map-one p g f xs y one.1 k miss)
  where
    none : (ys : List X) → find p ys ≡ None → filter_map g (flat_map f ys) ≡ []
    none [] k = refl
    none (z ∷ ys) k = by (p z) refl k (none ys)
      where
        by : (b : Bool) → p z ≡ b → cond b (Some z) (find p ys) ≡ None → (find p ys ≡ None → filter_map g (flat_map f ys) ≡ []) → filter_map g (f z ++ flat_map f ys) ≡ []
        by true e k rest = cc
        by false e k rest = filter_map-append g (f z) (flat_map f ys) ∙ ap (λ a. a ++ filter_map g (flat_map f ys)) (miss z e) ∙ rest k

    go : (b : Bool) → p x ≡ b → (p x ≡ true → find p xs ≡ None) → cond b (Some x) (find p xs) ≡ Some y → (find p xs ≡ Some y → filter_map g (flat_map f xs) ≡ filter_map g (f y)) → filter_map g (f x) ++ filter_map g (flat_map f xs) ≡ filter_map g (f y)
    go true e only k rest = let same : x ≡ y = cc in ap (λ a. filter_map g (f x) ++ a) (none xs (only e)) ∙ append-nil (filter_map g (f x)) ∙ ap (λ z. filter_map g (f z)) same
    go false e only k rest = ap (λ a. a ++ filter_map g (flat_map f xs)) (miss x e) ∙ rest k
