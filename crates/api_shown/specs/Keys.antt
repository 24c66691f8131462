-- Keys of rows: members by which rows are looked for, and whose values the row itself holds, as a
-- text or as an id.
use Rattle.std.specs.Prelude.{◌≡◌, ◌<◌, ◌^◌, ◌∷◌, List, [], Bool, false, true, Option, None, Some, codes, map}
use Rattle.std.specs.List.{filter}
use Rattle.std.specs.Str.{bytes_eq}
use Rattle.net_addr.specs.Words.{Text}
use Rattle.api_types.specs.Ident.{Ident}
use Rattle.api_types.specs.Printed.{NamedTree, Tree}
use Rattle.api_types.specs.Table.{ident_eq}
use Rattle.api_types.specs.declared.call.Filter.{Filter}
use Rattle.api_policy.specs.Trees.{id_word}
use Rattle.api_shown.specs.declared.keys.Key.{Key}
use Rattle.api_shown.specs.declared.keys.Key.TheVariants.{Device, Group, Id, Name, Network, Project, Tenant}

-- the name of the member
abbrev pub key_name : Key → Text
key_name Id = codes "id"
key_name Name = codes "name"
key_name Project = codes "project_id"
key_name Tenant = codes "tenant_id"
key_name Network = codes "network_id"
key_name Device = codes "device_id"
key_name Group = codes "security_group_id"

-- the values of the members with a name
abbrev pub values_under : Text → List NamedTree → List Tree
values_under name members =
    map (λ (m : NamedTree). m.1) (filter (λ (m : NamedTree). bytes_eq name m.0) members)

abbrev pub is_under : Text → Filter → Bool
is_under name f = bytes_eq name f.name

-- an id that a program can hold: ordinals have 32 bits, counts 64
abbrev pub FitsId : Ident → Type 0
FitsId i = (i.ordinal < 2 ^ 32) × (i.count < 2 ^ 64)

-- no members that show another id pass the test, which may depend on whether the caller is an
-- administrator
abbrev pub IsOnlyId : (Bool → List NamedTree → Bool) → Ident → Type 0
IsOnlyId test asked = (i : Ident) → FitsId i → ident_eq asked i ≡ false
    → (admin : Bool) (members : List NamedTree) → values_under (codes "id") members ≡ id_word i ∷ []
    → test admin members ≡ false

-- whether an id may be the one that is asked for, which may be unknown
abbrev pub may_be : Option Ident → Ident → Bool
may_be None i = true
may_be (Some asked) i = ident_eq asked i
