-- What a run starts from: settings, and the rows that a store keeps; or why it starts from
-- nothing.
use Rattle.std.specs.Prelude.{◌≡◌, ◌⊎◌, ℕ, ◌+◌, ◌-◌, ◌^◌, true, List, [], ◌∷◌, ◌++◌, Option, Some, None, Ok, Err, IfSome, is_some, min, option_map, ⊤}
use Rattle.net_addr.specs.Words.{Bytes, Text}
use Rattle.api_check.specs.FirstBroken.{first_broken_of}
use Rattle.api_check.specs.declared.broken.Inconsistent.{Inconsistent}
use Rattle.api_types.specs.RowLists.{RowLists}
use Rattle.command_lines.specs.declared.line.Opening.{Opening}
use Rattle.keeper_core.specs.Counts.{RoseBy}
use Rattle.keeper_core.specs.Desk.{AreNamed, DeskTold, Stores, closed_as, opened_as, opening_rows}
use Rattle.keeper_core.specs.declared.ask.DeskAsk.{DeskAsk}
use Rattle.keeper_core.specs.declared.ask.DeskAsk.TheVariants.{Settings, Store}
use Rattle.keeper_core.specs.declared.named.Named.{Named}
use Rattle.keeper_core.specs.declared.refusal.OutsideRefusal.{OutsideRefusal}
use Rattle.keeper_core.specs.declared.refusal.OutsideRefusal.TheVariants as outside
use Rattle.net_settings.specs.Defaults.{default_parts}
use Rattle.net_settings.specs.Document.{settings_of}
use Rattle.net_settings.specs.Settings.{SettingsParts}
use Rattle.net_settings.specs.declared.refusal.SettingsRefusal.{SettingsRefusal}
use Rattle.net_settings.specs.declared.refusal.SettingsRefusal.TheVariants as settings
use Rattle.openings.specs.declared.unopened.Unopened.{Unopened}
use Rattle.openings.specs.declared.unopened.Unopened.TheVariants.{BadSettings, Inconsistent as BrokenRows, Failed, OutOfMemory}

-- ---- what is asked

-- the settings, if they are named
abbrev pub settings_asks : Option Text → List DeskAsk
settings_asks None = []
settings_asks (Some name) = Settings name ∷ []

-- then the store
abbrev pub opening_asks : Opening → List DeskAsk
opening_asks opening = settings_asks opening.settings ++ Store opening.store ∷ []

-- these asks come after those of before, where they are told
abbrev pub with_asks : List DeskAsk → Option (List DeskAsk) → Option (List DeskAsk)
with_asks made asks = option_map (λ before. before ++ made) asks

-- the asks that were made after others are these, in their order, or the first ones of them
pub record AsksFirst (all : List DeskAsk) (old new : Option (List DeskAsk)) : Type 0 where
  pub made : List DeskAsk
  pub rest : List DeskAsk
  pub parts : all ≡ made ++ rest
  pub asked : new ≡ with_asks made old

-- ---- what is given

-- the settings are those that the named bytes spell, and the default ones without a name
abbrev pub AreSettings : Option (List (Named Bytes)) → Option Text → SettingsParts → Type 0
AreSettings files None settings = settings ≡ default_parts
AreSettings files (Some name) settings =
    (bytes : Bytes) × AreNamed files name bytes × (settings_of bytes ≡ Ok settings)

-- the named bytes spell no settings: this is the first key that breaks its rule
abbrev pub AreBadSettings : Option (List (Named Bytes)) → Option Text → Type 0
AreBadSettings files None = ⊥
AreBadSettings files (Some name) =
    (bytes : Bytes) × (key : Text) × AreNamed files name bytes × (settings_of bytes ≡ Err key)

-- the rows are those with which the named store opens, where they are told
abbrev pub AreStored : Option Stores → Option Text → RowLists → Type 0
AreStored stores name rows = IfSome stores (λ told. rows ≡ opening_rows name told)

-- settings and rows to begin with: they break no clause of consistency
pub record Opens {P : Type 0} (opening : Opening) (settings : SettingsParts) (rows : RowLists)
    (desk : DeskTold P) : Type 0 where
  pub spelled : AreSettings desk.files opening.settings settings
  pub stored : AreStored desk.stores opening.store rows
  pub consistent : first_broken_of settings.hosts rows ≡ None

-- the rows of the store break a clause under these settings
pub record RowsBreak {P : Type 0} (opening : Opening) (settings : SettingsParts)
    (desk : DeskTold P) : Type 0 where
  pub rows : RowLists
  pub broken : Inconsistent
  pub stored : AreStored desk.stores opening.store rows
  pub breaks : first_broken_of settings.hosts rows ≡ Some broken

-- and do so under the settings that are named
pub record AreBroken {P : Type 0} (opening : Opening) (desk : DeskTold P) : Type 0 where
  pub settings : SettingsParts
  pub spelled : AreSettings desk.files opening.settings settings
  pub breaks : RowsBreak opening settings desk

-- ---- what is opened

-- the desk once settings and store were asked for and the store is open, with this count of faults
abbrev pub with_opening : {P : Type 0} → Opening → ℕ → DeskTold P → DeskTold P
with_opening opening faults desk = record desk {
  asks = with_asks (opening_asks opening) desk.asks;
  stores = option_map (opened_as opening.store) desk.stores;
  faults = faults;
}

-- the desk once that store is closed with these rows, and so many faults of it are counted
abbrev pub with_closing : {P : Type 0} → Opening → RowLists → ℕ → DeskTold P → DeskTold P
with_closing opening rows counted desk = record desk {
  stores = option_map (closed_as (Some opening.store) rows) desk.stores;
  store_faults = min (desk.store_faults + counted) (2 ^ 64 - 1);
}

-- ---- why nothing is opened

-- all of these asks are made; if memory runs out, maybe only the first ones
abbrev pub AreMade : Unopened → List DeskAsk → Option (List DeskAsk) → Option (List DeskAsk)
    → Type 0
AreMade BadSettings all old new = new ≡ with_asks all old
AreMade BrokenRows all old new = new ≡ with_asks all old
AreMade Failed all old new = new ≡ with_asks all old
AreMade OutOfMemory all old new = AsksFirst all old new

-- the desk's count of faults rose, or that of its stores
abbrev pub DeskRose : {P : Type 0} → DeskTold P → DeskTold P → Type 0
DeskRose old new =
    RoseBy 1 old.faults new.faults ⊎ RoseBy 1 old.store_faults new.store_faults

-- why there are no settings: the named bytes spell none, the desk failed to give them, or memory
-- ran out
abbrev pub IsSettingsCause : {P : Type 0} → Unopened → Opening → DeskTold P → DeskTold P → Type 0
IsSettingsCause BadSettings opening old new = AreBadSettings old.files opening.settings
IsSettingsCause BrokenRows opening old new = ⊥
IsSettingsCause Failed opening old new =
    (is_some opening.settings ≡ true) × RoseBy 1 old.faults new.faults
IsSettingsCause OutOfMemory opening old new = ⊤

-- it ends with the settings, and the store isn't asked for
pub record EndsAtSettings {P : Type 0} (why : Unopened) (opening : Opening) (old new : DeskTold P)
    : Type 0 where
  pub cause : IsSettingsCause why opening old new
  pub asks : AreMade why (settings_asks opening.settings) old.asks new.asks
  pub stays : new ≡ record old { asks = new.asks; faults = new.faults }

-- why there are no rows under these settings: the desk or the store failed, the rows break a
-- clause, or memory ran out
abbrev pub IsStoreCause : {P : Type 0} → Unopened → SettingsParts → Opening → DeskTold P
    → DeskTold P → Type 0
IsStoreCause BadSettings settings opening old new = ⊥
IsStoreCause BrokenRows settings opening old new = RowsBreak opening settings old
IsStoreCause Failed settings opening old new = DeskRose old new
IsStoreCause OutOfMemory settings opening old new = ⊤

-- the stores are as they were, or the one that was opened is closed with the rows that it had
abbrev pub StoresStay : Option Text → Option Stores → Option Stores → Type 0
StoresStay name old new =
    (new ≡ old)
    ⊎ (new ≡ option_map (λ s. closed_as (Some name) (opening_rows name s) (opened_as name s)) old)

-- the settings are those that are named, and it ends with the store or its rows
pub record EndsAtStore {P : Type 0} (why : Unopened) (opening : Opening) (old new : DeskTold P)
    : Type 0 where
  pub settings : SettingsParts
  pub spelled : AreSettings old.files opening.settings settings
  pub cause : IsStoreCause why settings opening old new
  pub asks : AreMade why (opening_asks opening) old.asks new.asks
  pub stores : StoresStay opening.store old.stores new.stores
  pub stays : new
      ≡ record old {
        asks = new.asks;
        stores = new.stores;
        faults = new.faults;
        store_faults = new.store_faults;
      }

-- nothing is opened. What comes first is looked at first, so a store is asked for only if the
-- settings are good
abbrev pub IsUnopened : {P : Type 0} → Unopened → Opening → DeskTold P → DeskTold P → Type 0
IsUnopened why opening old new =
    EndsAtSettings why opening old new ⊎ EndsAtStore why opening old new

-- what each end tells, wherever it comes
abbrev pub IsCause : {P : Type 0} → Unopened → Opening → DeskTold P → DeskTold P → Type 0
IsCause BadSettings opening old new = AreBadSettings old.files opening.settings
IsCause BrokenRows opening old new = AreBroken opening old
IsCause Failed opening old new = DeskRose old new
IsCause OutOfMemory opening old new = ⊤

-- ---- refusals on the way

abbrev pub by_desk : OutsideRefusal → Unopened
by_desk outside.Failed = Failed
by_desk outside.OutOfMemory = OutOfMemory

abbrev pub by_settings : SettingsRefusal → Unopened
by_settings (settings.BadSettings key) = BadSettings
by_settings settings.OutOfMemory = OutOfMemory
