-- What is told alike in two states: outcomes and refusals in order, and rows that a test finds among those that are kept.
use Rattle.std.proofs.Common.{◌≡◌, ℕ, ◌≤◌, zero, suc, ◌++◌, List, [], ◌∷◌, Bool, true, false, cond, Option, Some, None, slice_get, refl, ap, sym, ◌∙◌}
use Rattle.std.specs.Prelude.{◌&&◌, filter, option_and_then, option_map}
use Rattle.api_types.specs.Ident.{Ident}
use Rattle.api_types.specs.Lists.{Each, stands_so, times}
use Rattle.api_types.specs.Outcome.{Outcome}
use Rattle.api_types.specs.Table.{ident_eq}
use Rattle.api_types.specs.declared.form.Given.TheVariants.{Absent, Is, Null}
use Rattle.api_types.specs.declared.form.Given.{Given}
use Rattle.api_types.specs.declared.refusal.Refusal.{Refusal}
use Rattle.api_types.specs.Given.{is_given}
use Rattle.api_types.specs.Refusing.{first_refusal, needing, answer_alone, unless}
use Rattle.api_types.proofs.ListLemmas.{any-none, at-any, both_and, false_true, none_some, one_row, some_equal}
use Rattle.api_types.proofs.NameLemmas.{and_fails, by_test, first_fails, ident_itself}

-- the same is found in both states, and what goes on with it is told alike
pub needing_same : {X : Type 0} (refusal : Refusal) (o p : Option X) (f g : X → Outcome) → o ≡ p
    → ((x : X) → o ≡ Some x → p ≡ Some x → answer_alone (f x) ≡ answer_alone (g x)) → answer_alone (needing refusal o f) ≡ answer_alone (needing refusal p g)
needing_same refusal None None f g alike same = refl
needing_same refusal None (Some y) f g alike same = none_some y _ alike
needing_same refusal (Some x) None f g alike same = none_some x _ (sym alike)
needing_same refusal (Some x) (Some y) f g alike same = same x refl (sym alike) ∙ ap (λ z. answer_alone (g z)) (some_equal x y alike)

-- the same is refused in both states, and what passes is told alike
pub unless_same : (o p : Option Refusal) (x y : Outcome) → o ≡ p → (o ≡ None → p ≡ None → answer_alone x ≡ answer_alone y) → answer_alone (unless o x) ≡ answer_alone (unless p y)
unless_same None None x y alike same = same refl refl
unless_same None (Some r) x y alike same = none_some r _ alike
unless_same (Some q) None x y alike same = none_some q _ (sym alike)
unless_same (Some q) (Some r) x y alike same = ap (λ o. answer_alone (unless o x)) alike

-- what stands behind a refusal is asked only where it is none
pub first_same : (a b : Option Refusal) (rest other : List (Option Refusal)) → a ≡ b → (a ≡ None → b ≡ None → first_refusal rest ≡ first_refusal other)
    → first_refusal (a ∷ rest) ≡ first_refusal (b ∷ other)
first_same None None rest other alike same = same refl refl
first_same None (Some r) rest other alike same = none_some r _ alike
first_same (Some q) None rest other alike same = none_some q _ (sym alike)
first_same (Some q) (Some r) rest other alike same = alike

-- the first is none where the first of all is
pub head_none : (o : Option Refusal) (rest : List (Option Refusal)) → first_refusal (o ∷ rest) ≡ None → o ≡ None
head_none None rest h = refl
head_none (Some r) rest h = none_some r _ (sym h)

-- rows that pass are among those that are kept
pub filter-kept : {R : Type 0} (keep test : R → Bool) (xs : List R) → Each (λ x. test x ≡ true → keep x ≡ true) xs → filter test (filter keep xs) ≡ filter test xs
filter-kept keep test [] e = refl
filter-kept keep test (x ∷ xs) e = by (test x) refl (keep x) refl (filter-kept keep test xs (λ k y at. e (suc k) y at))
  where
    by : (b : Bool) → test x ≡ b → (c : Bool) → keep x ≡ c → filter test (filter keep xs) ≡ filter test xs
        → filter test (cond c (x ∷ filter keep xs) (filter keep xs)) ≡ cond b (x ∷ filter test xs) (filter test xs)
    by true f true g h = ap (λ b. cond b (x ∷ filter test (filter keep xs)) (filter test (filter keep xs))) f ∙ ap (λ zs. x ∷ zs) h
    by true f false g h = false_true _ (sym g ∙ e 0 x refl f)
    by false f true g h = ap (λ b. cond b (x ∷ filter test (filter keep xs)) (filter test (filter keep xs))) f ∙ h
    by false f false g h = h

-- whether the row with an id passes is told by that row, where it is the only one
pub stands_there : {R : Type 0} (id_of : R → Ident) (test : R → Bool) (xs : List R) → ((i : Ident) → times id_of i xs ≤ 1) → (k : ℕ) (x : R) → slice_get xs k ≡ Some x
    → stands_so id_of (id_of x) test xs ≡ test x
stands_there id_of test xs once k x at = by_test (test x) (stands_so id_of (id_of x) test xs ≡ test x)
    (λ passes. at-any (λ y. ident_eq (id_of x) (id_of y) && test y) xs k x at (both_and _ _ (ident_itself (id_of x)) passes) ∙ sym passes)
    (λ fails. any-none (λ y. ident_eq (id_of x) (id_of y) && test y) xs (λ l y at_y. by_test (ident_eq (id_of x) (id_of y)) (ident_eq (id_of x) (id_of y) && test y ≡ false)
    (λ is. and_fails _ _ (ap test (sym (one_row (λ z. ident_eq (id_of x) (id_of z)) xs (once (id_of x)) k l x y at at_y (ident_itself (id_of x)) is)) ∙ fails))
    (λ other. first_fails _ _ other)) ∙ sym fails)

pub option_each : {X Y : Type 0} (f g : X → Y) (o : Option X) → ((x : X) → o ≡ Some x → f x ≡ g x) → option_map f o ≡ option_map g o
option_each f g None e = refl
option_each f g (Some x) e = ap Some (e x refl)

-- refusals that are the same in both states, and then some that are asked where those are none
pub first_behind : (heads rest other : List (Option Refusal)) → (first_refusal heads ≡ None → first_refusal rest ≡ first_refusal other)
    → first_refusal (heads ++ rest) ≡ first_refusal (heads ++ other)
first_behind [] rest other same = same refl
first_behind (None ∷ heads) rest other same = first_behind heads rest other same
first_behind (Some r ∷ heads) rest other same = refl

pub heads_none : (heads rest : List (Option Refusal)) → first_refusal (heads ++ rest) ≡ None → first_refusal heads ≡ None
heads_none [] rest h = refl
heads_none (None ∷ heads) rest h = heads_none heads rest h
heads_none (Some r ∷ heads) rest h = none_some r _ (sym h)

-- where none is refused, each is none
pub none_at : (os : List (Option Refusal)) → first_refusal os ≡ None → Each (λ o. o ≡ None) os
none_at [] h k o at = none_some o _ at
none_at (None ∷ os) h zero o at = sym (some_equal None o at)
none_at (None ∷ os) h (suc k) o at = none_at os h k o at
none_at (Some r ∷ os) h k o at = none_some r _ (sym h)

-- what isn't in a body
pub absent : {T : Type 0} (g : Given T) → is_given g ≡ false → g ≡ Absent
absent Absent h = refl
absent Null h = false_true _ (sym h)
absent (Is x) h = false_true _ (sym h)

-- what is made of what is found, where both finds have equal views
pub then_alike : {X V Y : Type 0} (o p : Option X) (view : X → V) → option_map view o ≡ option_map view p → (f g : X → Option Y)
    → ((x y : X) → o ≡ Some x → p ≡ Some y → view x ≡ view y → f x ≡ g y) → option_and_then f o ≡ option_and_then g p
then_alike None None view alike f g same = refl
then_alike None (Some y) view alike f g same = none_some (view y) _ alike
then_alike (Some x) None view alike f g same = none_some (view x) _ (sym alike)
then_alike (Some x) (Some y) view alike f g same = same x y refl refl (some_equal (view x) (view y) alike)
