-- Changes that a server accepts one after the other, from the rows with which it was opened.
use Rattle.std.specs.Prelude.{List, [], ◌∷◌, take, ⊤}
use Rattle.net_addr.specs.Words.{Version}
use Rattle.api_types.specs.RowLists.{RowLists}
use Rattle.api_types.specs.Rows.{Fits, after}
use Rattle.api_types.specs.declared.change.Item.{Item}
use Rattle.bus_core.specs.History.{History, accepted, history_from}

-- the rows after changes, put in one after the other
unfoldable pub after_all : RowLists → List (List Item) → RowLists
after_all rows [] = rows
after_all rows (c ∷ cs) = after_all (after rows c) cs

-- the rows of a version: the opening rows after the first so many changes
abbrev pub rows_after : RowLists → List (List Item) → Version → RowLists
rows_after opening changes version = after_all opening (take version changes)

-- each change fits the rows that it meets, and leads to sound ones
unfoldable pub AreAccepted : (RowLists → Type 0) → RowLists → List (List Item) → Type 0
AreAccepted Sound rows [] = ⊤
AreAccepted Sound rows (c ∷ cs) =
    Fits rows c × Sound (after rows c) × AreAccepted Sound (after rows c) cs

-- a server's history after further changes
unfoldable pub accepted_all : History → List (List Item) → History
accepted_all h [] = h
accepted_all h (c ∷ cs) = accepted_all (accepted h c) cs

-- the history of a server that was opened with these rows and accepted these changes
abbrev pub history_of : RowLists → List (List Item) → History
history_of opening changes = accepted_all (history_from opening 0) changes
