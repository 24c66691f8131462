-- A tenant is shown the same of a port wherever its footing is the same.
use Rattle.std.proofs.Common.{◌≡◌, List, false, refl, ap, sym, ◌∙◌, ℕ, []}
use Rattle.std.specs.Prelude.{find}
use Rattle.std.specs.Str.{bytes_eq}
use Rattle.api_types.specs.Consistent.Groups.{is_default_of}
use Rattle.api_types.specs.declared.form.Given.TheVariants.{Absent, Is, Null}
use Rattle.api_types.specs.declared.form.Given.{Given}
use Rattle.api_types.specs.declared.group.GroupRow.{GroupRow}
use Rattle.api_types.specs.declared.network.Segment.{Segment}
use Rattle.net_settings.specs.Settings.{SettingsParts}
use Rattle.api_ml2.specs.Binding.{bound}
use Rattle.api_types.specs.Given.{is_given, value_or}
use Rattle.api_types.proofs.ListLemmas.{and_both, false_true}
use Rattle.apart_laws.proofs.DrawnAlike.{groups_of}
use Rattle.apart_laws.proofs.ListLemmas.{find-filter}

-- without a host a port is unbound, whatever its network's segment is
pub bound_nowhere : (settings : SettingsParts) (segment other : Segment) (host : List ℕ) → host ≡ [] → bound settings segment host ≡ bound settings other host
bound_nowhere settings segment other host none = ap (bound settings segment) none ∙ sym (ap (bound settings other) none)

pub unhosted : (asked : Given (List ℕ)) → is_given asked ≡ false → value_or [] asked ≡ []
unhosted Absent h = refl
unhosted Null h = refl
unhosted (Is host) h = false_true _ (sym h)

-- a default group is found among the project's own groups
pub default_own : (name : List ℕ) (groups : List GroupRow) → find (is_default_of name) (groups_of name groups) ≡ find (is_default_of name) groups
default_own name groups = find-filter (λ (r : GroupRow). bytes_eq r.project name) (is_default_of name) groups (λ k r at is. (and_both r.is_default (bytes_eq r.project name) is).1)
