-- How a body is read (RFC 8259): its frame first, then its attributes.
use Rattle.std.specs.Prelude.{◌≡◌, ◌==◌, Bool, false, List, if◌then◌else◌, Option, Some, None, option_and_then, codes, Result, Ok, Err}
use Rattle.std.specs.Str.{is_utf8}
use Rattle.net_addr.specs.Words.{Bytes, Text}
use Rattle.serde_json.specs.Data.{Data, Members}
use Rattle.serde_json.specs.Events.{members_len}
use Rattle.serde_json.specs.Find.{as_object, get}
use Rattle.serde_json.specs.Read.{read}
use Rattle.api_types.specs.Ident.{Ident}
use Rattle.api_types.specs.declared.call.InterfaceBy.{InterfaceBy}
use Rattle.api_types.specs.declared.call.InterfaceBy.TheVariants.{Subnet, Port}
use Rattle.neutron_http.specs.declared.query.BodyRefusal.{BodyRefusal}
use Rattle.neutron_http.specs.declared.query.BodyRefusal.TheVariants.{BadBody, BadAttribute, OutOfMemory}
use Rattle.json_values.specs.Values.{member_of}
use Rattle.json_values.specs.Items.{id_of}
use Rattle.neutron_json.specs.Attributes.{Attribute, first_wrong}
use Rattle.neutron_json.specs.Tables.{interface_attributes}
use Rattle.neutron_json.specs.declared.attribute.Edit.{Edit}
use Rattle.neutron_json.specs.declared.attribute.Edit.TheVariants.{Create}

-- what a body says; or it isn't an object with this one member, or no object at all; or this
-- attribute breaks its rule
pub data Read (T : Type 0) : Type 0 where
  Says : T → Read T
  NoFrame : Option Text → Read T
  BadName : Text → Read T

-- the JSON that a body spells; bytes that are no UTF-8 spell none
abbrev pub json_of : Bytes → Option Data
json_of body = if is_utf8 body then read body else None

abbrev pub is_single : Option Members → Bool
is_single None = false
is_single (Some ms) = members_len ms == 1

abbrev pub object_if : Option Members → Data → Option Data
object_if None d = None
object_if (Some ms) d = Some d

-- a value that is an object
abbrev pub as_whole : Data → Option Data
as_whole d = object_if (as_object d) d

-- the object under the one member of an object, which has this name
abbrev pub framed : Text → Data → Option Data
framed name d = if is_single (as_object d) then option_and_then as_whole (get name d) else None

abbrev pub said_or : {T : Type 0} → Option Text → Option T → Read T
said_or frame None = NoFrame frame
said_or frame (Some x) = Says x

-- what an object says, if nothing is wrong with it
abbrev pub checked : {T : Type 0} → Option Text → Option T → Option Text → Read T
checked frame says (Some name) = BadName name
checked frame says None = said_or frame says

abbrev pub member_says : {T : Type 0} → Edit → Text → (Data → List Attribute) → (Data → Option T)
    → Option Data → Read T
member_says edit name attributes says None = NoFrame (Some name)
member_says edit name attributes says (Some d) =
    checked (Some name) (says d) (first_wrong edit (attributes d) d)

-- a body of an object with the one member of this name: its attributes, and what it then says
abbrev pub member_read : {T : Type 0} → Edit → Text → (Data → List Attribute) → (Data → Option T)
    → Bytes → Read T
member_read edit name attributes says body =
    member_says edit name attributes says (option_and_then (framed name) (json_of body))

-- exactly one of the two names the interface
abbrev pub one_of : Option Ident → Option Ident → Read InterfaceBy
one_of None None = BadName (codes "port_id")
one_of None (Some port) = Says (Port port)
one_of (Some subnet) None = Says (Subnet subnet)
one_of (Some subnet) (Some port) = BadName (codes "port_id")

abbrev pub interface_by : Data → Option Text → Read InterfaceBy
interface_by d (Some name) = BadName name
interface_by d None =
    one_of (member_of id_of (codes "subnet_id") d) (member_of id_of (codes "port_id") d)

abbrev pub interface_says : Option Data → Read InterfaceBy
interface_says None = NoFrame None
interface_says (Some d) = interface_by d (first_wrong Create interface_attributes d)

-- a body of a plain object that names an interface
abbrev pub interface_read : Bytes → Read InterfaceBy
interface_read body = interface_says (option_and_then as_whole (json_of body))

-- the answer is what is read, or the refusal that it is; out of memory says nothing
abbrev pub Answers : {T : Type 0} → Result T BodyRefusal → Read T → Type 0
Answers (Ok x) read = read ≡ Says x
Answers (Err (BadBody member)) read = read ≡ NoFrame member
Answers (Err (BadAttribute name)) read = read ≡ BadName name
Answers (Err OutOfMemory) read = Unit {0}
