-- Indices of groups among all groups.
use Rattle.std.specs.Prelude.{ℕ, ◌+◌, ◌==◌, Bool, false, List, [], ◌∷◌, Option, Some, None, if◌then◌else◌}
use Rattle.std.specs.List.{list_any, slice_get}
use Rattle.api_types.specs.Ident.{Ident}
use Rattle.api_types.specs.Members.{names_group}
use Rattle.api_types.specs.Table.{ident_eq}
use Rattle.api_types.specs.declared.group.GroupRow.{GroupRow}

abbrev pub id_of : GroupRow → Ident
id_of g = g.id

-- the first index of the id, from this one on
abbrev pub index_from : ℕ → List GroupRow → Ident → Option ℕ
index_from k [] i = None
index_from k (g ∷ gs) i = if ident_eq i g.id then Some k else index_from (k + 1) gs i

abbrev pub is_index : ℕ → Option ℕ → Bool
is_index p None = false
is_index p (Some k) = k == p

-- whether it is the index of one of these ids
abbrev pub is_named : List GroupRow → List Ident → ℕ → Bool
is_named gs ids p = list_any (λ i. is_index p (index_from 0 gs i)) ids

abbrev pub names_at : List Ident → Option GroupRow → Bool
names_at ids None = false
names_at ids (Some g) = names_group g.id ids

-- whether the group at it has one of these ids
abbrev pub is_named_at : List GroupRow → List Ident → ℕ → Bool
is_named_at gs ids p = names_at ids (slice_get gs p)
