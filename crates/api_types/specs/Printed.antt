-- Printed values as plain data, and what callers are shown and answered.
use Rattle.std.specs.Prelude.{ℕ, List, [], ◌∷◌, map, Bool}
use Rattle.net_addr.specs.Spelling.{addr_text, mac_text, prefix_text}
use Rattle.net_addr.specs.Words.{Text}
use Rattle.api_types.specs.Ident.{ident_text}
use Rattle.api_types.specs.declared.kind.Kind.{Kind}
use Rattle.api_types.specs.declared.answer.Printed.{Printed, fold-Printed}
use Rattle.api_types.specs.declared.answer.Printed.TheOpen.{Printed-F}
use Rattle.api_types.specs.declared.answer.Shown.{Shown}
use Rattle.api_types.specs.declared.answer.Answer.{Answer}
use Rattle.api_types.specs.declared.answer.Answer.TheVariants.{One, Many, Created, Gone, Interface}

-- a printed value as a tree: JSON's values (RFC 8259) with whole numbers alone
mutual
  pub data Tree : Type 0 where
    null : Tree
    truth : Bool → Tree
    number : ℕ → Tree
    word : Text → Tree
    items : Trees → Tree
    object : Branches → Tree

  pub data Trees : Type 0 where
    no_trees : Trees
    tree : Tree → Trees → Trees

  pub data Branches : Type 0 where
    no_branches : Branches
    branch : Text → Tree → Branches → Branches

abbrev pub trees_of : List Tree → Trees
trees_of [] = no_trees
trees_of (t ∷ ts) = tree t (trees_of ts)

-- a name with its value
abbrev pub NamedTree : Type 0
NamedTree = Text × Tree

abbrev pub branches_of : List NamedTree → Branches
branches_of [] = no_branches
branches_of (m ∷ ms) = branch m.0 m.1 (branches_of ms)

-- one level of a printed value: what has a text is printed as that
abbrev pub tree_step : Printed-F Tree → Tree
tree_step Printed-F.Null = null
tree_step (Printed-F.Truth b) = truth b
tree_step (Printed-F.Number n) = number n
tree_step (Printed-F.Constant t) = word t.now
tree_step (Printed-F.Word t) = word t
tree_step (Printed-F.Id i) = word (ident_text i)
tree_step (Printed-F.Mac m) = word (mac_text m)
tree_step (Printed-F.Address a) = word (addr_text a)
tree_step (Printed-F.Prefix p) = word (prefix_text p)
tree_step (Printed-F.Items v) = items (trees_of v.items)
tree_step (Printed-F.Object v) = object (branches_of v.items)

abbrev pub tree_of : Printed → Tree
tree_of = fold-Printed Tree tree_step

abbrev pub member_of : (Text × Printed) → NamedTree
member_of m = (m.0, tree_of m.1)

-- what a caller is shown of a row: its kind, and its members in byte order of their names
pub record ShownRow : Type 0 where
  pub kind : Kind
  pub members : List NamedTree

abbrev pub shown_row : Shown → ShownRow
shown_row s = record { kind = s.kind; members = map member_of s.members }

-- the answer to an accepted call
pub data Reply : Type 0 where
  OneRow : ShownRow → Reply
  ManyRows : Kind → List ShownRow → Reply
  NewRow : ShownRow → Reply
  NoRow : Reply
  InterfaceRow : ShownRow → Reply

abbrev pub reply_of : Answer → Reply
reply_of (One s) = OneRow (shown_row s)
reply_of (Many kind rows) = ManyRows kind (map shown_row rows)
reply_of (Created s) = NewRow (shown_row s)
reply_of Gone = NoRow
reply_of (Interface s) = InterfaceRow (shown_row s)
