-- Ids that are the same, names that lead nowhere, and tests that imply one another.
use Rattle.std.proofs.Common.{◌≡◌, ◌≤◌, ◌++◌, ℕ, zero, suc, List, [], ◌∷◌, Bool, true, false, cond, Option, Some, None, slice_get, slice_set, refl, ap, sym, ◌∙◌, subst, arith}
use Rattle.std.specs.Prelude.{◌==◌, ◌&&◌, ◌||◌, not, codes, count_by, filter}
use Rattle.std.specs.List.{list_any, list_all}
use Rattle.std.proofs.lemmas.Bool.Decides.{Decides-eqb}
use Rattle.std.proofs.lemmas.List.Sums.{sum_by_push}
use Rattle.std.proofs.lemmas.Slice.Eq.{bytes_eq-Decides}
use Rattle.std.specs.Str.{bytes_eq}
use Rattle.api_types.specs.Ident.{Ident}
use Rattle.api_types.specs.Table.{ident_eq}
use Rattle.api_types.specs.Lists.{Each, Pass, stands, if_some, is_some_so}
use Rattle.api_types.specs.Owners.{is_dhcp, is_interface, is_gateway, is_floating}
use Rattle.api_types.proofs.ListLemmas.{any-push, or_false, and_both, both_and, false_true, none_some, some_equal, each-push, each-set, each-filter, sum-set_same, sum-filter-le}

pub ident_same : (a b : Ident) → ident_eq a b ≡ true → a ≡ b
ident_same a b h =
    let both = and_both (a.ordinal == b.ordinal) (a.count == b.count) h in
    let o = (Decides-eqb a.ordinal b.ordinal).0 both.0 in
    let c = (Decides-eqb a.count b.count).0 both.1 in
    λ j. record { ordinal = o j; count = c j }

pub ident_itself : (a : Ident) → ident_eq a a ≡ true
ident_itself a = both_and (a.ordinal == a.ordinal) (a.count == a.count) ((Decides-eqb a.ordinal a.ordinal).1 refl) ((Decides-eqb a.count a.count).1 refl)

pub bytes_itself : (a : List ℕ) → bytes_eq a a ≡ true
bytes_itself a = (bytes_eq-Decides a a).1 refl

pub bytes_same : (a b : List ℕ) → bytes_eq a b ≡ true → a ≡ b
bytes_same a b h = (bytes_eq-Decides a b).0 h

-- by a test's two answers
pub by_test : (b : Bool) (P : Type 0) → (b ≡ true → P) → (b ≡ false → P) → P
by_test true P passes fails = passes refl
by_test false P passes fails = fails refl

pub or_weaker : (a b c : Bool) → (b ≡ true → c ≡ true) → a || b ≡ true → a || c ≡ true
or_weaker true b c w h = refl
or_weaker false b c w h = w h

pub if_some-weaker : {X : Type 0} (p q : X → Bool) (o : Option X) → ((x : X) → p x ≡ true → q x ≡ true) → if_some p o ≡ true → if_some q o ≡ true
if_some-weaker p q None w h = refl
if_some-weaker p q (Some x) w h = w x h

pub all-weaker : {X : Type 0} (p q : X → Bool) (xs : List X) → ((x : X) → p x ≡ true → q x ≡ true) → list_all p xs ≡ true → list_all q xs ≡ true
all-weaker p q [] w h = refl
all-weaker p q (x ∷ xs) w h = let both = and_both (p x) (list_all p xs) h in both_and (q x) (list_all q xs) (w x both.0) (all-weaker p q xs w both.1)

-- a row that names one that stands doesn't name an id that no row has
pub unnamed : {R S : Type 0} (id_of : R → Ident) (i : Ident) (xs : List R) (name_of : S → Ident) (ys : List S)
    → list_any (λ r. ident_eq i (id_of r)) xs ≡ false → Pass (λ s. stands id_of (name_of s) xs) ys → Each (λ s. ident_eq i (name_of s) ≡ false) ys
unnamed id_of i xs name_of ys none all k s at =
    by_test (ident_eq i (name_of s)) (ident_eq i (name_of s) ≡ false)
    (λ passes. false_true _ (sym none ∙ subst (λ j. list_any (λ r. ident_eq j (id_of r)) xs ≡ true) (sym (ident_same i (name_of s) passes)) (all k s at)))
    (λ fails. fails)

pub and_weaker : (a b c : Bool) → (b ≡ true → c ≡ true) → a && b ≡ true → a && c ≡ true
and_weaker true b c w h = w h
and_weaker false b c w h = false_true _ h

pub and_left_weaker : (a b c : Bool) → (a ≡ true → b ≡ true) → a && c ≡ true → b && c ≡ true
and_left_weaker a b c w h = let both = and_both a c h in both_and b c (w both.0) both.1

pub not_true : (b : Bool) → not b ≡ true → b ≡ false
not_true true h = false_true _ h
not_true false h = refl

-- a test that can't be asked of a row
pub unless : (a b : Bool) → a ≡ false → not a || b ≡ true
unless a b h = ap (λ c. not c || b) h

pub all-true : {X : Type 0} (p : X → Bool) (xs : List X) → ((x : X) → p x ≡ true) → list_all p xs ≡ true
all-true p [] h = refl
all-true p (x ∷ xs) h = both_and (p x) (list_all p xs) (h x) (all-true p xs h)

-- a test that would have to pass where another fails, fails
pub fails_by : (a b : Bool) → (a ≡ true → b ≡ true) → b ≡ false → a ≡ false
fails_by true b w h = sym (w refl) ∙ h
fails_by false b w h = refl

pub not_false : (b : Bool) → not b ≡ false → b ≡ true
not_false true h = refl
not_false false h = false_true _ (sym h)

pub ident_sym : (a b : Ident) → ident_eq a b ≡ true → ident_eq b a ≡ true
ident_sym a b h = subst (λ x. ident_eq x a ≡ true) (ident_same a b h) (ident_itself a)

-- where i isn't j, what is named i isn't named j
pub other_name : (i j m : Ident) → not (ident_eq i j) ≡ true → not (ident_eq i m) ≡ false → ident_eq j m ≡ false
other_name i j m differs gone = fails_by (ident_eq j m) (ident_eq i j)
    (λ h. subst (λ x. ident_eq i x ≡ true) (sym (ident_same j m h)) (not_false (ident_eq i m) gone)) (not_true (ident_eq i j) differs)

-- a DHCP port is no other service's
pub dhcp_alone : (owner : List ℕ) → is_dhcp owner ≡ true → (is_interface owner ≡ false) × (is_gateway owner ≡ false) × (is_floating owner ≡ false)
unfolding is_dhcp is_interface is_gateway is_floating
dhcp_alone owner h =
    let e = bytes_same owner (codes "network:dhcp") h in
    (ap (λ o. bytes_eq o (codes "network:router_interface")) e, ap (λ o. bytes_eq o (codes "network:router_gateway")) e, ap (λ o. bytes_eq o (codes "network:floatingip")) e)

pub all-at : {X : Type 0} (p : X → Bool) (xs : List X) → list_all p xs ≡ true → Each (λ x. p x ≡ true) xs
all-at p [] h k x at = none_some x _ at
all-at p (a ∷ xs) h zero x at = ap p (sym (some_equal a x at)) ∙ (and_both (p a) (list_all p xs) h).0
all-at p (a ∷ xs) h (suc k) x at = all-at p xs (and_both (p a) (list_all p xs) h).1 k x at

pub all-both : {X : Type 0} (p q r : X → Bool) (xs : List X) → ((x : X) → p x ≡ true → q x ≡ true → r x ≡ true) → list_all p xs ≡ true → list_all q xs ≡ true → list_all r xs ≡ true
all-both p q r [] w h g = refl
all-both p q r (x ∷ xs) w h g =
    let a = and_both (p x) (list_all p xs) h in
    let b = and_both (q x) (list_all q xs) g in
    both_and (r x) (list_all r xs) (w x a.0 b.0) (all-both p q r xs w a.1 b.1)

pub both_if : {X : Type 0} (o : Option X) (p q r : X → Bool) → ((x : X) → p x ≡ true → q x ≡ true → r x ≡ true) → if_some p o ≡ true → if_some q o ≡ true → if_some r o ≡ true
both_if None p q r w h g = refl
both_if (Some x) p q r w h g = w x h g

pub and_fails : (a b : Bool) → b ≡ false → a && b ≡ false
and_fails true b h = h
and_fails false b h = refl

pub first_fails : (a b : Bool) → a ≡ false → a && b ≡ false
first_fails a b h = ap (λ c. c && b) h

-- what has to hold where a test passes, which it does
pub must : (a b : Bool) → a ≡ true → not a || b ≡ true → b ≡ true
must a b e h = sym (ap (λ c. not c || b) e) ∙ h

pub is_some_so-weaker : {X : Type 0} (p q : X → Bool) (o : Option X) → ((x : X) → p x ≡ true → q x ≡ true) → is_some_so p o ≡ true → is_some_so q o ≡ true
is_some_so-weaker p q None w h = false_true _ h
is_some_so-weaker p q (Some x) w h = w x h

-- a test of all items of a list, from each item and to it

pub at-all : {X : Type 0} (p : X → Bool) (xs : List X) → Each (λ x. p x ≡ true) xs → list_all p xs ≡ true
at-all p [] each = refl
at-all p (x ∷ xs) each = both_and (p x) (list_all p xs) (each 0 x refl) (at-all p xs (λ k y at. each (suc k) y at))

pub push-all : {X : Type 0} (p : X → Bool) (xs : List X) (x : X) → list_all p xs ≡ true → p x ≡ true → list_all p (xs ++ x ∷ []) ≡ true
push-all p xs x all new = at-all p (xs ++ x ∷ []) (each-push (λ y. p y ≡ true) xs x (all-at p xs all) new)

pub set-all : {X : Type 0} (p : X → Bool) (xs : List X) (i : ℕ) (x : X) → list_all p xs ≡ true → p x ≡ true → list_all p (slice_set xs i x) ≡ true
set-all p xs i x all new = at-all p (slice_set xs i x) (each-set (λ y. p y ≡ true) xs i x (all-at p xs all) new)

pub filter-all_of : {X : Type 0} (keep p : X → Bool) (xs : List X) → list_all p xs ≡ true → list_all p (filter keep xs) ≡ true
filter-all_of keep p xs all = at-all p (filter keep xs) (each-filter keep (λ y. p y ≡ true) (λ y. p y ≡ true) xs (λ y kept h. h) (all-at p xs all))

pub any-agree : {X : Type 0} (p q : X → Bool) (xs : List X) → ((x : X) → p x ≡ q x) → list_any p xs ≡ list_any q xs
any-agree p q [] e = refl
any-agree p q (x ∷ xs) e = λ j. e x j || any-agree p q xs e j

-- a count leaves out a row that doesn't pass, and one that is put in the place of another such
pub count-push : {X : Type 0} (test : X → Bool) (xs : List X) (x : X) → test x ≡ false → count_by test (xs ++ x ∷ []) ≡ count_by test xs
count-push test xs x h =
    let push = sum_by_push (λ y. cond {A = ℕ} (test y) 1 0) xs x in
    let zero : cond {A = ℕ} (test x) 1 0 ≡ 0 = ap (λ (b : Bool). cond {A = ℕ} b 1 0) h in
    omega (arith, push, zero)

pub count-set : {X : Type 0} (test : X → Bool) (xs : List X) (i : ℕ) (old new : X) → slice_get xs i ≡ Some old → test new ≡ test old → count_by test (slice_set xs i new) ≡ count_by test xs
count-set test xs i old new at same = sum-set_same (λ y. cond {A = ℕ} (test y) 1 0) xs i old new at (ap (λ (b : Bool). cond {A = ℕ} b 1 0) same)

-- rows that are kept are counted no more often
pub count-filter : {X : Type 0} (keep test : X → Bool) (xs : List X) (n : ℕ) → count_by test xs ≤ n → count_by test (filter keep xs) ≤ n
count-filter keep test xs n most = omega (arith, most, sum-filter-le keep (λ y. cond {A = ℕ} (test y) 1 0) xs)

-- with what is there at hand
pub if_some-weaker_at : {X : Type 0} (p q : X → Bool) (o : Option X) → ((x : X) → o ≡ Some x → p x ≡ true → q x ≡ true) → if_some p o ≡ true → if_some q o ≡ true
if_some-weaker_at p q None w h = refl
if_some-weaker_at p q (Some x) w h = w x refl h

pub or_left_weaker : (a b c : Bool) → (a ≡ true → b ≡ true) → a || c ≡ true → b || c ≡ true
or_left_weaker true b c w h = ap (λ d. d || c) (w refl)
or_left_weaker false true c w h = refl
or_left_weaker false false c w h = h

-- a test that passed less often asks less
pub unless_weaker : (a b c : Bool) → (b ≡ true → a ≡ true) → not a || c ≡ true → not b || c ≡ true
unless_weaker a true c w h = sym (ap (λ d. not d || c) (w refl)) ∙ h
unless_weaker a false c w h = refl

-- a test that doesn't pass of the row that is added
pub any-push_other : {X : Type 0} (test : X → Bool) (xs : List X) (x : X) → test x ≡ false → list_any test (xs ++ x ∷ []) ≡ list_any test xs
any-push_other test xs x fails = any-push test xs x ∙ ap (λ b. list_any test xs || b) fails ∙ or_false (list_any test xs)

-- what has to hold where a test passes
pub unless_so : (a b : Bool) → (a ≡ true → b ≡ true) → not a || b ≡ true
unless_so true b w = w refl
unless_so false b w = refl
