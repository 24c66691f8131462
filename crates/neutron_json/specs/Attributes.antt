-- Attributes of an object: how a value is written, which bodies read it, and whether it must be
-- there or may be null. And what is first wrong with an object.
use denote.Ref.{Bor}
use Rattle.std.specs.Prelude.{◌&&◌, ◌||◌, Bool, true, false, List, [], ◌∷◌, find, if◌then◌else◌, Option, Some, None, is_some, is_none}
use Rattle.std.specs.Str.{bytes_eq}
use Rattle.net_addr.specs.Words.{Text}
use Rattle.serde_json.specs.Data.{Data, Members, no_members, member}
use Rattle.serde_json.specs.Find.{as_null, as_object, get}
use Rattle.json_values.specs.declared.allowed.GrammarName.{GrammarName}
use Rattle.json_values.specs.Allowed.{allows}
use Rattle.neutron_json.specs.declared.attribute.ReadIn.{ReadIn}
use Rattle.neutron_json.specs.declared.attribute.ReadIn.TheVariants as read_in
use Rattle.neutron_json.specs.declared.attribute.Needs.{Needs}
use Rattle.neutron_json.specs.declared.attribute.Needs.TheVariants.{Value, ValueOrNull, Required, RequiredOrNull}
use Rattle.neutron_json.specs.declared.attribute.Edit.{Edit}
use Rattle.neutron_json.specs.declared.attribute.Edit.TheVariants.{Create, Update}

pub record Attribute : Type 0 where
  pub name : Text
  pub grammar : GrammarName
  pub read_in : ReadIn
  pub needs : Needs

abbrev pub attribute : Text → GrammarName → ReadIn → Needs → Attribute
attribute name grammar read_in needs =
    record { name = name; grammar = grammar; read_in = read_in; needs = needs }

-- an attribute in the code's tables
abbrev pub attribute_of : Bor Text × GrammarName × ReadIn × Needs → Attribute
attribute_of (name, grammar, read_in, needs) = attribute name.now grammar read_in needs

-- what a body is for, by names that crates above can use
abbrev pub for_creation : Edit
for_creation = Create

abbrev pub for_update : Edit
for_update = Update

-- a body of this edit reads the attribute
abbrev pub is_read : Edit → ReadIn → Bool
is_read Create read_in.Creation = true
is_read Create read_in.Update = false
is_read Create read_in.Both = true
is_read Update read_in.Creation = false
is_read Update read_in.Update = true
is_read Update read_in.Both = true

-- null may stand in the attribute's place
abbrev pub takes_null : Needs → Bool
takes_null Value = false
takes_null ValueOrNull = true
takes_null Required = false
takes_null RequiredOrNull = true

-- the attribute must be there at creation
abbrev pub is_required : Needs → Bool
is_required Value = false
is_required ValueOrNull = false
is_required Required = true
is_required RequiredOrNull = true

-- a value is allowed by itself
abbrev pub takes : Attribute → Data → Bool
takes a d = (takes_null a.needs && is_some (as_null d)) || allows a.grammar d

-- the attribute of a name
abbrev pub attribute_named : Text → List Attribute → Option Attribute
attribute_named name attributes = find (λ a. bytes_eq a.name name) attributes

abbrev pub fits : Edit → Data → Option Attribute → Bool
fits edit d None = false
fits edit d (Some a) = is_read edit a.read_in && takes a d

-- a member is an attribute that is read, with a value that is allowed by itself
abbrev pub is_good : Edit → List Attribute → Text → Data → Bool
is_good edit attributes name d = fits edit d (attribute_named name attributes)

-- the first member that is none: members stand in byte order of their names
abbrev pub first_bad : Edit → List Attribute → Members → Option Text
first_bad edit attributes no_members = None
first_bad edit attributes (member name d ms) =
    if is_good edit attributes name d then first_bad edit attributes ms else Some name

-- the first attribute that has to be there and is missing
abbrev pub first_missing : List Attribute → Data → Option Text
first_missing [] d = None
first_missing (a ∷ attributes) d =
    if is_required a.needs && is_none (get a.name d) then Some a.name
    else first_missing attributes d

abbrev pub bad_among : Edit → List Attribute → Option Members → Option Text
bad_among edit attributes None = None
bad_among edit attributes (Some ms) = first_bad edit attributes ms

abbrev pub missing_in : Edit → List Attribute → Data → Option Text
missing_in Create attributes d = first_missing attributes d
missing_in Update attributes d = None

abbrev pub or_else : Option Text → Option Text → Option Text
or_else (Some name) other = Some name
or_else None other = other

-- the attribute that a refusal names: a bad one, otherwise a missing one
abbrev pub first_wrong : Edit → List Attribute → Data → Option Text
first_wrong edit attributes d =
    or_else (bad_among edit attributes (as_object d)) (missing_in edit attributes d)
