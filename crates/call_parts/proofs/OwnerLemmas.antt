-- Who owns a new row has a name, and what holds of each row holds of the one that is found.
use Rattle.std.proofs.Common.{◌≡◌, ℕ, suc, Bool, true, false, cond, not, List, [], ◌∷◌, Some, refl, subst}
use Rattle.std.specs.Prelude.{find}
use Rattle.api_types.specs.Given.{owner_of, value_or}
use Rattle.api_types.specs.Lists.{Each, is_empty}
use Rattle.api_types.specs.declared.call.Caller.{Caller}
use Rattle.api_types.specs.declared.form.Given.TheVariants.{Absent, Is, Null}
use Rattle.api_types.specs.declared.form.Given.{Given}
use Rattle.api_types.proofs.ListLemmas.{and_both, false_true, none_some, some_equal}
use Rattle.call_parts.specs.InForm.{are_owners, is_owner}

pub owner_named : (caller : Caller) (project tenant : Given (List ℕ)) → not (is_empty caller.project) ≡ true → are_owners project tenant ≡ true → not (is_empty (owner_of caller project tenant)) ≡ true
owner_named caller project tenant has given =
    let both = and_both (is_owner project) (is_owner tenant) given in
    named (value_or caller.project tenant) project (named caller.project tenant has both.1) both.0
  where
    named : (old : List ℕ) (g : Given (List ℕ)) → not (is_empty old) ≡ true → is_owner g ≡ true → not (is_empty (value_or old g)) ≡ true
    named old Absent was h = was
    named old Null was h = false_true _ h
    named old (Is name) was h = h

pub found_holds : {R : Type 0} (P : R → Type 0) (test : R → Bool) (xs : List R) (x : R) → Each P xs → find test xs ≡ Some x → P x
found_holds P test [] x all h = none_some x _ h
found_holds {R} P test (a ∷ xs) x all h = by (test a) h (found_holds P test xs x (λ k r at. all (suc k) r at))
  where
    by : (b : Bool) → cond b (Some a) (find test xs) ≡ Some x → (find test xs ≡ Some x → P x) → P x
    by true e rest = subst P (some_equal a x e) (all 0 a refl)
    by false e rest = rest e
