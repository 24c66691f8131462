-- What an outcome says of the refusals that were tried before it, and of the rows that were looked for.
use Rattle.std.proofs.Common.{◌≡◌, ℕ, zero, suc, List, [], ◌∷◌, Bool, true, false, cond, Option, Some, None, slice_get, refl, ap, sym, ◌∙◌, if◌then◌else◌}
use Rattle.std.specs.Prelude.{find, filter}
use Rattle.api_types.specs.Ident.{Ident}
use Rattle.api_types.specs.Lists.{Each}
use Rattle.api_types.specs.Outcome.{Outcome, Moved}
use Rattle.api_types.specs.Printed.{Reply}
use Rattle.api_types.specs.RowLists.{RowLists}
use Rattle.api_types.specs.Table.{ident_eq}
use Rattle.api_types.specs.declared.refusal.Refusal.{Refusal}
use Rattle.api_types.proofs.ListLemmas.{none_some, some_equal, at_filter}
use Rattle.api_types.proofs.NameLemmas.{ident_same}
use Rattle.api_types.specs.Refusing.{at_name, first_refusal, needing, unless, when}

pub unless_moved : (o : Option Refusal) (x : Outcome) (rows : RowLists) (reply : Reply) → unless o x ≡ Moved rows reply → (o ≡ None) × (x ≡ Moved rows reply)
unless_moved None x rows reply h = (refl, h)
unless_moved (Some refusal) x rows reply h = cc

pub needing_moved : {X : Type 0} (refusal : Refusal) (o : Option X) (f : X → Outcome) (rows : RowLists) (reply : Reply) → needing refusal o f ≡ Moved rows reply
    → (x : X) × (o ≡ Some x) × (f x ≡ Moved rows reply)
needing_moved refusal None f rows reply h = cc
needing_moved refusal (Some x) f rows reply h = (x, refl, h)

pub moved_rows : (a b : RowLists) (p q : Reply) → Moved a p ≡ Moved b q → a ≡ b
moved_rows a b p q h = cc

-- no refusal comes where the first doesn't, and none of the rest does
pub none_first : (o : Option Refusal) (rest : List (Option Refusal)) → first_refusal (o ∷ rest) ≡ None → (o ≡ None) × (first_refusal rest ≡ None)
none_first None rest h = (refl, h)
none_first (Some refusal) rest h = cc

pub not_when : (b : Bool) (refusal : Refusal) → when b refusal ≡ None → b ≡ false
not_when true refusal h = cc
not_when false refusal h = refl

pub if_some : {X : Type 0} (b : Bool) (o : Option X) (x : X) → (if b then None else o) ≡ Some x → (b ≡ false) × (o ≡ Some x)
if_some true o x h = cc
if_some false o x h = (refl, h)

-- a row that is found stands in the list and passes the test
pub found_at : {R : Type 0} (test : R → Bool) (xs : List R) (x : R) → find test xs ≡ Some x → (k : ℕ) × (slice_get xs k ≡ Some x) × (test x ≡ true)
found_at test [] x h = none_some x _ h
found_at test (a ∷ xs) x h = by (test a) refl h (λ g. found_at test xs x g)
  where
    by : (b : Bool) → test a ≡ b → cond b (Some a) (find test xs) ≡ Some x → (find test xs ≡ Some x → (k : ℕ) × (slice_get xs k ≡ Some x) × (test x ≡ true))
        → (k : ℕ) × (slice_get (a ∷ xs) k ≡ Some x) × (test x ≡ true)
    by true is h rest = (0, h, ap test (sym (some_equal a x h)) ∙ is)
    by false is h rest = let r = rest h in (suc r.0, r.1, r.2)

pub record IsNamed {R : Type 0} (id_of : R → Ident) (seen : R → Bool) (rows : List R) (name : Option Ident) (r : R) : Type 0 where
  pub place : ℕ
  pub at : slice_get rows place ≡ Some r
  pub is_seen : seen r ≡ true
  pub name_is : name ≡ Some (id_of r)

-- a row that is named stands in the list, is seen, and has the name as its id
pub named_is : {R : Type 0} (id_of : R → Ident) (seen : R → Bool) (rows : List R) (name : Option Ident) (r : R) → at_name id_of name (filter seen rows) ≡ Some r → IsNamed id_of seen rows name r
named_is id_of seen rows None r h = none_some r _ h
named_is id_of seen rows (Some i) r h =
    let found = found_at (λ x. ident_eq i (id_of x)) (filter seen rows) r h in
    let here = at_filter seen rows found.0 r found.1 in
    record { place = here.0; at = here.1; is_seen = here.2; name_is = ap Some (ident_same i (id_of r) found.2) }

-- nothing is found where no row passes the test
pub unfound : {R : Type 0} (test : R → Bool) (xs : List R) → find test xs ≡ None → Each (λ x. test x ≡ false) xs
unfound test [] h k x at = none_some x _ at
unfound test (a ∷ xs) h k x at = by (test a) refl h k at (λ g j. unfound test xs g j x)
  where
    by : (b : Bool) → test a ≡ b → cond b (Some a) (find test xs) ≡ None → (k : ℕ) → slice_get (a ∷ xs) k ≡ Some x
        → (find test xs ≡ None → (j : ℕ) → slice_get xs j ≡ Some x → test x ≡ false) → test x ≡ false
    by true is h k at rest = none_some a _ (sym h)
    by false is h zero at rest = ap test (sym (some_equal a x at)) ∙ is
    by false is h (suc k) at rest = rest h k at
