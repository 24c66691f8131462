-- Which sets a change may touch, by the numbers of their groups.
use Rattle.std.specs.Prelude.{◌≡◌, ◌++◌, ℕ, Bool, false, nat_lt, List, Option, None, Some, flat_map, map, option_map, if◌then◌else◌, slice_get}
use Rattle.std.specs.List.{list_any}
use Rattle.api_types.specs.Ident.{Ident}
use Rattle.api_types.specs.Members.{names_group}
use Rattle.api_types.specs.declared.group.GroupRow.{GroupRow}
use Rattle.api_types.specs.declared.port.PortRow.{PortRow}
use Rattle.plane_types.specs.KeyedTables.{SetKey, set_order}
use Rattle.plane_types.specs.declared.delta.Edit.{Edit}
use Rattle.plane_types.specs.declared.table.FilterRow.{FilterRow}
use Rattle.plane_types.specs.declared.table.SetRow.{SetRow}
use Rattle.table_edits.specs.EditsAt.{AreEditsAt, KeysDescend, among}
use Rattle.table_edits.specs.NumbersSeen.{Renumbered, at_after, at_before}
use Rattle.l2_delta.specs.SetKeys.{group_number, is_named, is_remote, keys_at, may_go, named_by, to_stand, with_remotes}
use Rattle.l2_delta.specs.declared.named_sets.NumberedSet.{NumberedSet}

abbrev pub any_names : List PortRow → Ident → Bool
any_names ports g = list_any (λ (p : PortRow). names_group g p.groups) ports

-- a group with another number is named as before, if a filter names it
abbrev pub AreNamedAlike : List GroupRow → List ℕ → (Ident → Bool) → (Ident → Bool) → Type 0
AreNamedAlike groups numbers old new =
    (n : ℕ) (g : Ident) → among nat_lt n numbers ≡ false → group_number groups g ≡ Some n
    → old g ≡ new g

-- the set of the group with a number
abbrev pub set_at : Renumbered GroupRow → List FilterRow → List (Option Ident) → ℕ → NumberedSet
set_at groups filters remotes n = record {
  number = n;
  before = named_by (is_named filters) (slice_get groups.rows n);
  after = named_by (is_remote remotes) (at_after groups n);
}

abbrev pub remotes_of : List FilterRow → List (Option Ident)
remotes_of filters = map (λ (r : FilterRow). r.remote_group) filters

-- a group with another number is as before, none of these ports names it, and filters name it as
-- before
pub record AreTouched (groups : Renumbered GroupRow) (were are : List PortRow)
    (old new : List (Option Ident)) (numbers : List ℕ) : Type 0 where
  pub stay : (n : ℕ) → among nat_lt n numbers ≡ false → at_before groups n ≡ at_after groups n
  pub unnamed : (n : ℕ) (g : Ident) → among nat_lt n numbers ≡ false
      → group_number groups.rows g ≡ Some n → any_names were g ≡ false
  pub unnamed_after : (n : ℕ) (g : Ident) → among nat_lt n numbers ≡ false
      → group_number groups.rows g ≡ Some n → any_names are g ≡ false
  pub alike : AreNamedAlike groups.rows numbers (is_remote old) (is_remote new)

-- the sets of the groups that a change may touch, by edits of filters and its ports
pub record AreTouchedSets (groups : Renumbered GroupRow) (filters : List FilterRow)
    (edits : List (Edit FilterRow)) (were are : List PortRow) (sets : List NumberedSet)
    : Type 0 where
  pub numbers : List ℕ
  pub touched : AreTouched groups were are (remotes_of filters)
      (with_remotes (remotes_of filters) edits) numbers
  pub sets_are : sets
      ≡ map (set_at groups filters (with_remotes (remotes_of filters) edits)) numbers

-- the keys at which a row of these sets may go, and those at which one is to stand
abbrev pub going_keys : List SetRow → List PortRow → List NumberedSet → List SetKey
going_keys sets were touched =
    flat_map (λ (s : NumberedSet). keys_at s.number (may_go sets were s.before s.after)) touched

abbrev pub standing_keys : List PortRow → List PortRow → List PortRow → List NumberedSet
    → List SetKey
standing_keys ports were are touched =
    flat_map
    (λ (s : NumberedSet). keys_at s.number (to_stand ports were are s.before s.after))
    touched

-- the row of the group with the key's number, if the key is among those at which one is to stand
abbrev pub told_at : Renumbered GroupRow → List SetKey → SetKey → Option SetRow
told_at groups put k =
    if among set_order k put
    then option_map (λ (g : GroupRow). record { group = g.id; prefix = k.1 }) (at_after groups k.0)
    else None

-- edits of the sets at keys at which a row may go or is to stand
pub record AreSetEdits (old : List (SetKey × SetRow)) (groups : Renumbered GroupRow)
    (goes stands : List SetKey) (edits : List (Edit SetRow)) : Type 0 where
  pub keys : List SetKey
  pub put : List SetKey
  pub down : KeysDescend set_order keys
  pub keys_are : (k : SetKey) → among set_order k keys ≡ among set_order k (goes ++ stands)
  pub put_are : (k : SetKey) → among set_order k put ≡ among set_order k stands
  pub are : AreEditsAt set_order old (told_at groups put) keys edits
