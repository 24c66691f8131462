-- A value that is given passes what was asked of the body, and one that isn't is the old one.
use Rattle.std.proofs.Common.{Bool, List, ap, length, not, sym, true, ◌∙◌, ◌≡◌, [], ℕ}
use Rattle.std.specs.Prelude.{nat_le}
use Rattle.std.specs.List.{list_all}
use Rattle.api_types.specs.Consistent.{IsConsistent}
use Rattle.api_types.specs.Consistent.Named.{is_registered}
use Rattle.api_types.specs.Lists.{is_empty}
use Rattle.api_types.specs.Registration.{is_named}
use Rattle.api_types.specs.RowLists.{RowLists}
use Rattle.api_types.specs.declared.form.Given.{Given}
use Rattle.api_types.specs.declared.form.Given.TheVariants.{Absent, Is, Null}
use Rattle.api_types.specs.declared.project.ProjectRow.{ProjectRow}
use Rattle.api_types.proofs.ListLemmas.{any-at}
use Rattle.api_types.proofs.NameLemmas.{bytes_same}
use Rattle.call_parts.specs.InForm.{is_few}
use Rattle.api_types.specs.Given.{value_or}

pub value_all : {X : Type 0} (test : X → Bool) (old : List X) (g : Given (List X)) → list_all test old ≡ true → list_all test (value_or [] g) ≡ true → list_all test (value_or old g) ≡ true
value_all test old Absent was is = was
value_all test old Null was is = was
value_all test old (Is xs) was is = is

pub value_few : {X : Type 0} (most : ℕ) (old : List X) (g : Given (List X)) → nat_le (length old) most ≡ true → is_few most g ≡ true → nat_le (length (value_or old g)) most ≡ true
value_few most old Absent was is = was
value_few most old Null was is = was
value_few most old (Is xs) was is = is

-- a registered project has a name
pub has_name : (rows : RowLists) (name : List ℕ) → IsConsistent rows → is_registered rows.projects name ≡ true → not (is_empty name) ≡ true
has_name rows name c registered =
    let found = any-at (is_named name) rows.projects registered in
    let p : ProjectRow = found.1 in
    ap (λ n. not (is_empty n)) (sym (bytes_same p.name name found.3)) ∙ c.numbered.projects.named found.0 p found.2
