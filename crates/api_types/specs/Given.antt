-- What bodies give: an attribute may be absent, null, or have a value.
use Rattle.std.specs.Prelude.{not, ◌&&◌, ◌||◌, Bool, true, false, Option, None, Some}
use Rattle.std.specs.Str.{bytes_eq}
use Rattle.net_addr.specs.Words.{Text}
use Rattle.api_types.specs.declared.call.Caller.{Caller}
use Rattle.api_types.specs.declared.form.Given.{Given}
use Rattle.api_types.specs.declared.form.Given.TheVariants.{Absent, Null, Is}

module _ {T : Type 0} where
  -- stands in the body, with a value or null
  abbrev pub is_given : Given T → Bool
  is_given Absent = false
  is_given Null = true
  is_given (Is x) = true

  abbrev pub value_of : Given T → Option T
  value_of Absent = None
  value_of Null = None
  value_of (Is x) = Some x

  abbrev pub value_or : T → Given T → T
  value_or x Absent = x
  value_or x Null = x
  value_or x (Is y) = y

-- the owner of a new row is named by `project_id` or `tenant_id`, and otherwise is the caller's
-- project
abbrev pub owner_of : Caller → Given Text → Given Text → Text
owner_of caller project tenant = value_or (value_or caller.project tenant) project

-- both are named, and they differ
abbrev pub are_unlike : Given Text → Given Text → Bool
are_unlike (Is a) (Is b) = not (bytes_eq a b)
are_unlike (Is a) Absent = false
are_unlike (Is a) Null = false
are_unlike Absent tenant = false
are_unlike Null tenant = false

abbrev pub is_other : Caller → Given Text → Bool
is_other caller Absent = false
is_other caller Null = false
is_other caller (Is name) = not (bytes_eq name caller.project)

-- another project than the caller's is named
abbrev pub is_for_other : Caller → Given Text → Given Text → Bool
is_for_other caller project tenant = is_other caller project || is_other caller tenant
