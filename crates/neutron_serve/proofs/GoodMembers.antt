-- What the attribute tables let through: where no member is bad, the one that is found under a name is good, and where nothing is missing, what is required is there.
use Rattle.std.proofs.Common.{◌≡◌, ℕ, Bool, true, false, List, Option, Some, None, refl, ap, sym, ◌∙◌, Ordering, Less, Equal, Greater, if◌then◌else◌}
use Rattle.std.specs.Prelude.{◌&&◌, is_none, is_some}
use Rattle.std.specs.Cmp.Lexicographic.{slice_cmp}
use Rattle.std.specs.Ordering.{nat_cmp, match_ordering}
use Rattle.std.proofs.lemmas.Map.Lookups.{exact_bytes}
use Rattle.serde_json.specs.Data.{Data, Members, no_members, member, null, boolean, number, string, array, object}
use Rattle.serde_json.specs.Find.{as_object, get, get_member}
use Rattle.call_parts.specs.InForm.{is_there, not_null}
use Rattle.neutron_json.specs.Attributes.{Attribute, bad_among, first_bad, is_good}
use Rattle.neutron_json.specs.Forms.{given, given_by, is_or_null}

found_good : (edit : _) (attributes : List Attribute) (name l : List ℕ) (e v : Data) (ms : Members) (o : Ordering) → slice_cmp nat_cmp name l ≡ o
    → (first_bad edit attributes ms ≡ None → get_member name ms ≡ Some v → is_good edit attributes name v ≡ true)
    → (g : Bool) → is_good edit attributes l e ≡ g → (if g then first_bad edit attributes ms else Some l) ≡ None
    → match_ordering o (get_member name ms) (Some e) (get_member name ms) ≡ Some v → is_good edit attributes name v ≡ true
found_good edit attributes name l e v ms o at rest false is none found = absurd cc
found_good edit attributes name l e v ms Less at rest true is none found = rest none found
found_good edit attributes name l e v ms Greater at rest true is none found = rest none found
found_good edit attributes name l e v ms Equal at rest true is none found =
    let same : name ≡ l = exact_bytes name l at in
    let value : e ≡ v = cc in
    ap (λ (n : List ℕ). is_good edit attributes n v) same ∙ (ap (is_good edit attributes l) (sym value) ∙ is)

good_member : (edit : _) (attributes : List Attribute) (name : List ℕ) (v : Data) (ms : Members) → first_bad edit attributes ms ≡ None → get_member name ms ≡ Some v
    → is_good edit attributes name v ≡ true
good_member edit attributes name v no_members none found = absurd cc
good_member edit attributes name v (member l e ms) none found =
    found_good edit attributes name l e v ms (slice_cmp nat_cmp name l) refl (good_member edit attributes name v ms) (is_good edit attributes l e) refl none found

pub good_named : (edit : _) (attributes : List Attribute) (name : List ℕ) (v d : Data) → bad_among edit attributes (as_object d) ≡ None → get name d ≡ Some v
    → is_good edit attributes name v ≡ true
good_named edit attributes name v null none found = absurd cc
good_named edit attributes name v (boolean b) none found = absurd cc
good_named edit attributes name v (number n) none found = absurd cc
good_named edit attributes name v (string s) none found = absurd cc
good_named edit attributes name v (array ds) none found = absurd cc
good_named edit attributes name v (object ms) none found = good_member edit attributes name v ms none found

pub right_of : (a b : Bool) → a && b ≡ true → b ≡ true
right_of true b h = h
right_of false b h = absurd cc

-- by its row of the table a good member says something, and isn't null
module _ {T : Type 0} (edit : _) (attributes : List Attribute) (name : List ℕ) (says : Data → Option T)
    (row : (v : Data) → is_good edit attributes name v ≡ true → is_some (says v) ≡ true) (d : Data) (none : bad_among edit attributes (as_object d) ≡ None) where
  said : (v : Data) → get name d ≡ Some v → is_some (says v) ≡ true
  said v found = row v (good_named edit attributes name v d none found)

  not_null_by : (o : Option Data) → ((v : Data) → o ≡ Some v → is_some (says v) ≡ true) → not_null (given_by says o) ≡ true
  not_null_by None something = refl
  not_null_by (Some v) something = by (says v) (something v refl)
    where
      by : (x : Option T) → is_some x ≡ true → not_null (is_or_null x) ≡ true
      by None h = absurd cc
      by (Some x) h = refl

  -- so it isn't null
  pub given_not_null : not_null (given says d name) ≡ true
  given_not_null = not_null_by (get name d) said

  there_by : (o : Option Data) → ((v : Data) → o ≡ Some v → is_some (says v) ≡ true) → is_none o ≡ false → is_there (given_by says o) ≡ true
  there_by None something here = absurd cc
  there_by (Some v) something here = by (says v) (something v refl)
    where
      by : (x : Option T) → is_some x ≡ true → is_there (is_or_null x) ≡ true
      by None h = absurd cc
      by (Some x) h = refl

  -- and where the member is there, its value is
  pub given_there : is_none (get name d) ≡ false → is_there (given says d name) ≡ true
  given_there here = there_by (get name d) said here

-- the first of the required attributes is there, and nothing else is missing
pub required_there : (missing : Bool) (name : List ℕ) (rest : Option (List ℕ)) → (if missing then Some name else rest) ≡ None → (missing ≡ false) × (rest ≡ None)
required_there true name rest h = absurd cc
required_there false name rest h = (refl, h)
