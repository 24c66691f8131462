-- What the items of a change do to the table of one kind, and how the table after them is read
-- from the table before them.
use Rattle.std.specs.Prelude.{ℕ, ◌+◌, Bool, true, false, List, [], ◌∷◌, Option, Some, None, is_some, filter, if◌then◌else◌, nat_le, ◌==◌, option_and_then, ⊤}
use Rattle.api_types.specs.Ident.{Ident}
use Rattle.api_types.specs.Table.{ident_eq}
use Rattle.api_types.specs.Lists.{is_some_so}
use Rattle.api_types.specs.Edits.{list_after, FitsTable}
use Rattle.api_types.specs.RowLists.{RowLists}
use Rattle.api_types.specs.declared.change.Item.{Item}
use Rattle.api_types.specs.declared.kind.Kind.{Kind}
use Rattle.api_types.specs.declared.kind.Kind.TheVariants.{Project, Network, Subnet, Port, Group, Rule, Router, Floating, Policy}
use Rattle.api_types.specs.declared.kind.Row.{Row}

abbrev pub same_kind : Kind → Kind → Bool
same_kind Project Project = true
same_kind Network Network = true
same_kind Subnet Subnet = true
same_kind Port Port = true
same_kind Group Group = true
same_kind Rule Rule = true
same_kind Router Router = true
same_kind Floating Floating = true
same_kind Policy Policy = true
same_kind _ _ = false

-- the items of a kind
abbrev pub of_kind : Kind → List Item → List Item
of_kind kind items = filter (λ (item : Item). same_kind kind item.kind) items

-- rows with those of a kind from other rows
abbrev pub with_kind : Kind → RowLists → RowLists → RowLists
with_kind kind rows other = record {
  projects = if same_kind kind Project then other.projects else rows.projects;
  networks = if same_kind kind Network then other.networks else rows.networks;
  subnets = if same_kind kind Subnet then other.subnets else rows.subnets;
  ports = if same_kind kind Port then other.ports else rows.ports;
  groups = if same_kind kind Group then other.groups else rows.groups;
  rules = if same_kind kind Rule then other.rules else rows.rules;
  routers = if same_kind kind Router then other.routers else rows.routers;
  floatings = if same_kind kind Floating then other.floatings else rows.floatings;
  policies = if same_kind kind Policy then other.policies else rows.policies;
}

-- the place, before an item, of the row that stands at a place after it; none where the item put
-- that row there
abbrev pub place_before : Kind → Item → ℕ → Option ℕ
place_before kind item at =
    if same_kind item.kind kind then
    (if is_some item.after then (if item.place == at then None else Some at)
    else (if nat_le item.place at then Some (at + 1) else Some at))
    else Some at

module _ {R : Type 0} where
  -- the rows after an item, if it is of this kind
  abbrev pub after_one : Kind → (Row → Option R) → List R → Item → List R
  after_one kind part rows item =
      if same_kind item.kind kind then list_after part rows item else rows

  -- the rows after those of the items that are of this kind, put in one after the other
  abbrev pub after_all : Kind → (Row → Option R) → List R → List Item → List R
  after_all kind part rows [] = rows
  after_all kind part rows (item ∷ items) =
      after_all kind part (after_one kind part rows item) items

  -- an item fits the rows, if it is of their kind
  abbrev pub FitsIf : Bool → (Row → Option R) → (R → Ident) → List R → Item → Type 0
  FitsIf true part id_of rows item = FitsTable part id_of rows item
  FitsIf false part id_of rows item = ⊤

  -- each of the items of this kind fits the rows as the earlier ones left them
  abbrev pub FitAll : Kind → (Row → Option R) → (R → Ident) → List R → List Item → Type 0
  FitAll kind part id_of rows [] = ⊤
  FitAll kind part id_of rows (item ∷ items) =
      FitsIf (same_kind item.kind kind) part id_of rows item
      × FitAll kind part id_of (after_one kind part rows item) items

  -- whether a row is there and has this id
  abbrev pub has_id : (R → Ident) → Ident → Option R → Bool
  has_id id_of i row = is_some_so (λ r. ident_eq i (id_of r)) row

  -- whether a row with this id is there after an item, as far as the item says so
  abbrev pub said_of : (R → Ident) → Ident → Option R → Option R → Option Bool
  said_of id_of i before after =
      if has_id id_of i after then Some true
      else (if has_id id_of i before then Some false else None)

  -- the same of an item of any kind
  abbrev pub said_by : Kind → (Row → Option R) → (R → Ident) → Ident → Item → Option Bool
  said_by kind part id_of i item =
      if same_kind item.kind kind then
      said_of id_of i (option_and_then part item.before) (option_and_then part item.after)
      else None
