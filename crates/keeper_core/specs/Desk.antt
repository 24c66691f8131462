-- What a desk tells, and what its calls do to that.
use Rattle.std.specs.Prelude.{◌≡◌, ℕ, ◌+◌, ◌-◌, ◌^◌, min, List, [], ◌∷◌, ◌++◌, Option, Some, None, IfSome, option_map, unwrap_or, Result, Ok, Err, ⊤, Bool, ◌&&◌, nat_eq}
use Rattle.std.specs.List.{list_all}
use Rattle.net_addr.specs.Words.{Bytes, Text}
use Rattle.api_types.specs.RowLists.{RowLists}
use Rattle.api_types.specs.Rows.{no_rows}
use Rattle.keeper_core.specs.Counts.{HasRefusalCause}
use Rattle.keeper_core.specs.Ends.{FailingUnread, FailingWritten, SinkTold, SourceTold, failing_unread, failing_written}
use Rattle.keeper_core.specs.Kept.{KeeperTold}
use Rattle.keeper_core.specs.Named.{value_named, with_value}
use Rattle.keeper_core.specs.declared.named.Named.{Named}
use Rattle.keeper_core.specs.declared.ask.DeskAsk.{DeskAsk}
use Rattle.keeper_core.specs.declared.ask.DeskAsk.TheVariants.{Next}
use Rattle.keeper_core.specs.declared.calls.Calls.{Calls}
use Rattle.keeper_core.specs.declared.refusal.OutsideRefusal.{OutsideRefusal}
use Rattle.keeper_core.specs.declared.refusal.OutsideRefusal.TheVariants.{Failed, OutOfMemory}

-- rows of stores: by name, those of the last one without a name that was closed, and the name of
-- the one that is open, where one is
pub record Stores : Type 0 where
  pub named : List (Named RowLists)
  pub unnamed : Option RowLists
  pub opened : Option (Option Text)

-- the connections that were handed back, and how many are out
pub record Returned (P : Type 0) : Type 0 where
  pub ended : List P
  pub out : ℕ

-- what a desk tells, each part where it tells it: its asks, settings by name, stores, connections
-- to come and those handed back; and how many of its calls failed, and of those of its stores
pub record DeskTold (P : Type 0) : Type 0 where
  pub asks : Option (List DeskAsk)
  pub files : Option (List (Named Bytes))
  pub stores : Option Stores
  pub to_come : Option (List P)
  pub returned : Option (Returned P)
  pub faults : ℕ
  pub store_faults : ℕ

-- a desk that tells nothing but its counts
abbrev pub untold_desk : {P : Type 0} → ℕ → ℕ → DeskTold P
untold_desk faults store_faults = record {
  asks = None;
  files = None;
  stores = None;
  to_come = None;
  returned = None;
  faults = faults;
  store_faults = store_faults;
}

-- ---- asks

abbrev pub with_ask : DeskAsk → Option (List DeskAsk) → Option (List DeskAsk)
with_ask ask asks = option_map (λ made. made ++ ask ∷ []) asks

abbrev pub asks_refused : OutsideRefusal → DeskAsk → Option (List DeskAsk) → Option (List DeskAsk)
asks_refused Failed ask asks = with_ask ask asks
asks_refused OutOfMemory ask asks = asks

-- the asks after a call: it is the last of them, also where it failed, but not where it ran out of
-- memory
abbrev pub asks_after : {T : Type 0} → Result T OutsideRefusal → DeskAsk → Option (List DeskAsk)
    → Option (List DeskAsk)
asks_after (Ok x) ask asks = with_ask ask asks
asks_after (Err refusal) ask asks = asks_refused refusal ask asks

-- a call for something: it is noted, a failure is counted, and nothing else changes
pub record Asks {P T : Type 0} (ask : DeskAsk) (result : Result T OutsideRefusal)
    (old new : DeskTold P) : Type 0 where
  pub is : new ≡ record old { asks = asks_after result ask old.asks; faults = new.faults }
  pub cause : HasRefusalCause old.faults new.faults result

-- ---- settings

-- the bytes of the settings with this name, and none where there are no such settings
abbrev pub file_named : Text → List (Named Bytes) → Bytes
file_named name files = unwrap_or (value_named name files) []

-- bytes are those of the settings with this name, where they are told
abbrev pub AreNamed : Option (List (Named Bytes)) → Text → Bytes → Type 0
AreNamed files name bytes = IfSome files (λ told. bytes ≡ file_named name told)

-- ---- stores

-- the rows with which a store opens: those with its name, and none where there are no such rows or
-- it has no name
abbrev pub opening_rows : Option Text → Stores → RowLists
opening_rows None stores = no_rows
opening_rows (Some name) stores = unwrap_or (value_named name stores.named) no_rows

abbrev pub opened_as : Option Text → Stores → Stores
opened_as name stores = record stores { opened = Some name }

-- a store opens without faults, with the rows under the name, where stores are told
pub record OpensWith (name : Option Text) (stores : Option Stores) (store : KeeperTold)
    : Type 0 where
  pub fresh : store.faults ≡ 0
  pub rows : IfSome stores (λ told. store.rows ≡ Some (opening_rows name told))

-- the desk after it was asked for a store, whether or not it opened one
abbrev pub with_opened : {P T : Type 0} → Option Text → Result T OutsideRefusal → DeskTold P
    → DeskTold P
with_opened name (Ok store) desk =
    record desk { stores = option_map (opened_as name) desk.stores }
with_opened name (Err refusal) desk = desk

-- the store that is open closes with these rows
abbrev pub closed_as : Option (Option Text) → RowLists → Stores → Stores
closed_as None rows stores = stores
closed_as (Some None) rows stores = record stores { unnamed = Some rows; opened = None }
closed_as (Some (Some name)) rows stores =
    record stores { named = with_value name rows stores.named; opened = None }

-- the rows that the store tells become those of the store that was opened last
abbrev pub StoresClose : Option Stores → Option RowLists → Option Stores → Type 0
StoresClose None rows new = new ≡ None
StoresClose (Some stores) None new = ⊤
StoresClose (Some stores) (Some rows) new = new ≡ Some (closed_as stores.opened rows stores)

-- a store is handed back: its faults are counted, and nothing else changes
pub record Closes {P : Type 0} (store : KeeperTold) (old new : DeskTold P) : Type 0 where
  pub is : new
      ≡ record old {
        stores = new.stores;
        store_faults = min (old.store_faults + store.faults) (2 ^ 64 - 1);
      }
  pub stores : StoresClose old.stores store.rows new.stores

-- ---- connections

-- the ends of a connection haven't failed
pub record AreFresh (input : SourceTold) (output : SinkTold) : Type 0 where
  pub input_fresh : input.faults ≡ 0
  pub output_fresh : output.faults ≡ 0

-- no connection is out
abbrev pub IsNoneOut : {P : Type 0} → DeskTold P → Type 0
IsNoneOut desk = IfSome desk.returned (λ returned. returned.out ≡ 0)

-- none is to come, as far as they are told
abbrev pub IsSpent : {P : Type 0} → Option (List P) → Type 0
IsSpent None = ⊤
IsSpent (Some pairs) = pairs ≡ []

-- the first of those to come is the connection that came
abbrev pub Comes : {P : Type 0} → Result (Option P) OutsideRefusal → Option (List P)
    → Option (List P) → Type 0
Comes (Ok (Some pair)) old new = old ≡ option_map (λ rest. pair ∷ rest) new
Comes (Ok None) old new = (new ≡ old) × IsSpent old
Comes (Err e) old new = new ≡ old

abbrev pub one_out : {P : Type 0} → Returned P → Returned P
one_out returned = record returned { out = returned.out + 1 }

-- one more is out, where one came
abbrev pub out_after : {P : Type 0} → Result (Option P) OutsideRefusal → Option (Returned P)
    → Option (Returned P)
out_after (Ok (Some pair)) returned = option_map one_out returned
out_after (Ok None) returned = returned
out_after (Err e) returned = returned

-- a call for the next connection, which goes out where there is one
pub record HandsOut {P : Type 0} (result : Result (Option P) OutsideRefusal)
    (old new : DeskTold P) : Type 0 where
  pub comes : Comes result old.to_come new.to_come
  pub asks : Asks Next result
      (record old { to_come = new.to_come; returned = out_after result old.returned })
      new

-- the connection is last among those that were handed back. A desk stops telling them only where
-- none was out
abbrev pub IsReturned : {P : Type 0} → Option (Returned P) → P → Option (Returned P) → Type 0
IsReturned None pair new = new ≡ None
IsReturned (Some returned) pair None = returned.out ≡ 0
IsReturned (Some returned) pair (Some new) =
    new ≡ record { ended = returned.ended ++ pair ∷ []; out = returned.out - 1 }

-- a connection is handed back, and nothing else changes
pub record TakesBack {P : Type 0} (pair : P) (old new : DeskTold P) : Type 0 where
  pub is : new ≡ record old { returned = new.returned }
  pub returned : IsReturned old.returned pair new.returned

-- ---- desks in memory

-- no end of a connection has failed
abbrev pub are_fresh : {I O : Type 0} → (I → SourceTold) → (O → SinkTold) → List (I × O) → Bool
are_fresh input output pairs =
    list_all (λ pair. nat_eq (input pair.0).faults 0 && nat_eq (output pair.1).faults 0) pairs

abbrev pub fresh_ends : List (FailingUnread × FailingWritten) → Bool
fresh_ends pairs = are_fresh failing_unread failing_written pairs

-- what a desk in memory holds
pub record DeskHeld (P : Type 0) : Type 0 where
  pub asks : List DeskAsk
  pub files : List (Named Bytes)
  pub stores : Stores
  pub to_come : List P
  pub returned : Option (Returned P)

-- it tells all of it
abbrev pub desk_told : {P : Type 0} → DeskHeld P → ℕ → ℕ → DeskTold P
desk_told held faults store_faults = record {
  asks = Some held.asks;
  files = Some held.files;
  stores = Some held.stores;
  to_come = Some held.to_come;
  returned = held.returned;
  faults = faults;
  store_faults = store_faults;
}

-- a desk in memory that fails in listed calls
pub record FailingDesk (P : Type 0) : Type 0 where
  pub held : DeskHeld P
  pub calls : Calls
  pub store_failing : List ℕ
  pub store_faults : ℕ

abbrev pub sure_told : {P : Type 0} → DeskHeld P → DeskTold P
sure_told held = desk_told held 0 0

abbrev pub failing_told : {P : Type 0} → FailingDesk P → DeskTold P
failing_told desk = desk_told desk.held desk.calls.faults desk.store_faults

-- an ask is noted, also where it was refused, but not where it ran out of memory
abbrev pub asked : {P : Type 0} → DeskAsk → DeskHeld P → DeskHeld P
asked ask held = record held { asks = held.asks ++ ask ∷ [] }

abbrev pub asked_in_vain : {P : Type 0} → OutsideRefusal → DeskAsk → DeskHeld P → DeskHeld P
asked_in_vain Failed ask held = asked ask held
asked_in_vain OutOfMemory ask held = held

abbrev pub with_stores : {P : Type 0} → Stores → DeskHeld P → DeskHeld P
with_stores stores held = record held { stores = stores }

abbrev pub with_returned : {P : Type 0} → Option (Returned P) → DeskHeld P → DeskHeld P
with_returned returned held = record held { returned = returned }
