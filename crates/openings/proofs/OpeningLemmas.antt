-- Why nothing is opened, and what is closed.
use Rattle.std.proofs.Common.{◌≡◌, ◌∙◌, ◌+◌, ◌-◌, ◌^◌, ◌≤◌, ◌∷◌, ℕ, List, [], Option, None, Some, inl, inr, ap, arith, min, option_map, refl, subst, sym}
use Rattle.std.specs.Prelude.{Err, IfErr, IfSome, Ok, Result, is_some, false, true}
use Rattle.keeper_core.specs.Counts.{HasRefusalCause, RoseBy, Tells}
use Rattle.keeper_core.specs.Desk.{AreNamed, Asks, Closes, DeskTold, OpensWith, Stores, StoresClose, asks_refused, closed_as, opened_as, opening_rows, with_ask}
use Rattle.keeper_core.specs.Kept.{IsStored, KeeperTold}
use Rattle.keeper_core.specs.declared.ask.DeskAsk.{DeskAsk}
use Rattle.keeper_core.specs.declared.ask.DeskAsk.TheVariants.{Settings, Store}
use Rattle.keeper_core.specs.declared.refusal.OutsideRefusal.{OutsideRefusal}
use Rattle.keeper_core.specs.declared.refusal.OutsideRefusal.TheVariants.{Failed, OutOfMemory}
use Rattle.api_types.specs.RowLists.{RowLists}
use Rattle.command_lines.specs.declared.line.Opening.{Opening}
use Rattle.net_settings.specs.Document.{settings_of}
use Rattle.net_settings.specs.Refusals.{Refuses}
use Rattle.net_settings.specs.Settings.{SettingsParts}
use Rattle.net_settings.specs.declared.refusal.SettingsRefusal.{SettingsRefusal}
use Rattle.net_settings.specs.declared.refusal.SettingsRefusal.TheVariants as settings
use Rattle.openings.specs.Openings.{AreBadSettings, AreMade, AreSettings, AreStored, EndsAtSettings, IsCause, IsSettingsCause, IsStoreCause, IsUnopened, RowsBreak, by_desk, by_settings, opening_asks, settings_asks, with_asks, with_closing, with_opening}
use Rattle.openings.specs.declared.unopened.Unopened.{Unopened}
use Rattle.openings.specs.declared.unopened.Unopened.TheVariants.{BadSettings, Inconsistent as Broken}
use Rattle.openings.specs.declared.unopened.Unopened.TheVariants as unopened
use Rattle.openings.proofs.AskLemmas.{after_both, all_asked, first_then, none_asked}

-- ---- asks

-- the one ask that was refused
pub refused_made : (e : OutsideRefusal) (ask : DeskAsk) (old new : Option (List DeskAsk)) → new ≡ asks_refused e ask old → AreMade (by_desk e) (ask ∷ []) old new
refused_made Failed ask old new is = is
refused_made OutOfMemory ask old new is = none_asked (ask ∷ []) old new is

-- all were made
pub all_made : (why : Unopened) (all : List DeskAsk) (old new : Option (List DeskAsk)) → new ≡ with_asks all old → AreMade why all old new
all_made BadSettings all old new e = e
all_made Broken all old new e = e
all_made unopened.Failed all old new e = e
all_made unopened.OutOfMemory all old new e = all_asked all old new e

-- that for a store was refused, after those for settings
pub store_made : (e : OutsideRefusal) (opening : Opening) (old mid new : Option (List DeskAsk)) → mid ≡ with_asks (settings_asks opening.settings) old → new ≡ asks_refused e (Store opening.store) mid
    → AreMade (by_desk e) (opening_asks opening) old new
store_made Failed opening old mid new asked is = is ∙ ap (with_ask (Store opening.store)) asked ∙ after_both (settings_asks opening.settings) (Store opening.store ∷ []) old
store_made OutOfMemory opening old mid new asked is = first_then (settings_asks opening.settings) (Store opening.store ∷ []) old mid new asked (none_asked (Store opening.store ∷ []) mid new is)

-- ---- rows

-- the rows that a store tells are those with which it opened
pub told_rows : (name : Option (List ℕ)) (stores : Option Stores) (kept : Option RowLists) → IfSome stores (λ told. kept ≡ Some (opening_rows name told)) → IfSome stores (λ told. is_some kept ≡ true)
told_rows name None kept tells = tt
told_rows name (Some told) kept tells = ap is_some tells

-- the rows that were loaded are those of the store
pub stored_rows : (name : Option (List ℕ)) (stores : Option Stores) (kept : Option RowLists) (rows : RowLists) → IfSome stores (λ told. kept ≡ Some (opening_rows name told)) → Tells kept rows → AreStored stores name rows
stored_rows name None kept rows tells loaded = tt
stored_rows name (Some told) kept rows tells loaded = subst (λ x. Tells x rows) tells loaded

-- a store is closed with the rows that it had when it was opened
pub closed_again : (name : Option (List ℕ)) (old : Option Stores) (kept : Option RowLists) (closed : Option Stores)
    → IfSome old (λ told. kept ≡ Some (opening_rows name told)) → StoresClose (option_map (opened_as name) old) kept closed
    → closed ≡ option_map (λ s. closed_as (Some name) (opening_rows name s) (opened_as name s)) old
closed_again name None kept closed tells closes = closes
closed_again name (Some told) kept closed tells closes = subst (λ k. StoresClose (Some (opened_as name told)) k closed) tells closes

-- a store that tells its rows is closed with those of the world
closed_with : (name : Option (List ℕ)) (old : Option Stores) (first last : Option RowLists) (rows : RowLists) (closed : Option Stores)
    → IfSome old (λ _. is_some first ≡ true) → is_some last ≡ is_some first → Tells last rows → StoresClose (option_map (opened_as name) old) last closed
    → closed ≡ option_map (closed_as (Some name) rows) (option_map (opened_as name) old)
closed_with name None first last rows closed told still tells closes = closes
closed_with name (Some s) first (Some kept) rows closed told still tells closes = closes ∙ ap (λ x. Some (closed_as (Some name) x (opened_as name s))) (sym tells)
closed_with name (Some s) first None rows closed told still tells closes = absurd (impossible (still ∙ told))
  where
    impossible : false ≡ true → ⊥
    impossible e = absurd cc

rose_later : (a b c : ℕ) → a ≤ b → RoseBy 1 b c → RoseBy 1 a c
rose_later a b c le rose = omega (arith, le, rose)

module _ {P : Type 0} where
  -- the desk after its store is closed with the rows of the world
  pub closing : (opening : Opening) (old mid new : DeskTold P) (first last : KeeperTold) (rows : RowLists)
      → mid.stores ≡ option_map (opened_as opening.store) old.stores → IfSome old.stores (λ _. is_some first.rows ≡ true) → IsStored rows first last
      → Closes last mid new → new ≡ with_closing opening rows last.faults mid
  closing opening old mid new first last rows is told stored closes =
      let closed : new.stores ≡ option_map (closed_as (Some opening.store) rows) mid.stores =
      closed_with opening.store old.stores first.rows last.rows rows new.stores told stored.as_before stored.tells (subst (λ s. StoresClose s last.rows new.stores) is closes.stores)
      ∙ ap (option_map (closed_as (Some opening.store) rows)) (sym is) in
      closes.is ∙ ap (λ s. record mid { stores = s; store_faults = min (mid.store_faults + last.faults) (2 ^ 64 - 1) }) closed

  -- the desk from before it was opened to after it was closed
  pub store_closed : (opening : Opening) (old mid new : DeskTold P) (first last : KeeperTold) (rows : RowLists)
      → mid ≡ with_opening opening mid.faults old → IfSome old.stores (λ _. is_some first.rows ≡ true) → IsStored rows first last
      → Closes last mid new → new ≡ with_closing opening rows last.faults (with_opening opening new.faults old)
  store_closed opening old mid new first last rows is told stored closes =
      closing opening old mid new first last rows (ap (λ (d : DeskTold P). d.stores) is) told stored closes
      ∙ ap (with_closing opening rows last.faults) (is ∙ ap (λ n. with_opening opening n old) (sym (ap (λ (d : DeskTold P). d.faults) closes.is)))

  -- ---- why nothing is opened

  -- the desk refused the named settings
  pub settings_refused : {X : Type 0} (e : OutsideRefusal) (name : List ℕ) (opening : Opening) (old new : DeskTold P) → opening.settings ≡ Some name
      → Asks {T = X} (Settings name) (Err e) old new → EndsAtSettings (by_desk e) opening old new
  settings_refused {X = X} e name opening old new is asks = record {
    cause = cause_by e (asks.cause);
    asks = subst (λ n. AreMade (by_desk e) (settings_asks n) old.asks new.asks) (sym is) (refused_made e (Settings name) old.asks new.asks (ap (λ (d : DeskTold P). d.asks) asks.is));
    stays = asks.is ∙ ap (λ a. record old { asks = a; faults = new.faults }) (sym (ap (λ (d : DeskTold P). d.asks) asks.is));
  }
    where
      cause_by : (e : OutsideRefusal) → HasRefusalCause {T = X} old.faults new.faults (Err e) → IsSettingsCause (by_desk e) opening old new
      cause_by Failed cause = (ap is_some is, cause.failed refl)
      cause_by OutOfMemory cause = tt

  -- the bytes of the named settings were given, and spell none
  pub settings_unread : {X : Type 0} (why : Unopened) (x : X) (name : List ℕ) (opening : Opening) (old new : DeskTold P) → opening.settings ≡ Some name
      → Asks (Settings name) (Ok x) old new → IsSettingsCause why opening old new → EndsAtSettings why opening old new
  settings_unread why x name opening old new is asks cause = record {
    cause = cause;
    asks = subst (λ n. AreMade why (settings_asks n) old.asks new.asks) (sym is) (all_made why (Settings name ∷ []) old.asks new.asks (ap (λ (d : DeskTold P). d.asks) asks.is));
    stays = asks.is ∙ ap (λ a. record old { asks = a; faults = new.faults }) (sym (ap (λ (d : DeskTold P). d.asks) asks.is));
  }

  -- what was read of the named bytes is the cause
  pub unread_cause : (refusal : SettingsRefusal) (text name : List ℕ) (opening : Opening) (old new : DeskTold P) → opening.settings ≡ Some name → AreNamed old.files name text
      → Refuses (settings_of text) refusal → IsSettingsCause (by_settings refusal) opening old new
  unread_cause (settings.BadSettings key) text name opening old new is named refuses = subst (AreBadSettings old.files) (sym is) (text, key, named, refuses)
  unread_cause settings.OutOfMemory text name opening old new is named refuses = tt

  -- no memory for the default settings
  pub settings_unmade : (opening : Opening) (desk : DeskTold P) → EndsAtSettings unopened.OutOfMemory opening desk desk
  settings_unmade opening desk = record { cause = tt; asks = none_asked (settings_asks opening.settings) desk.asks desk.asks refl; stays = refl }

  -- the settings were asked for
  abbrev pub SettingsAsked : Opening → DeskTold P → DeskTold P → Type 0
  SettingsAsked opening old mid = mid ≡ record old { asks = with_asks (settings_asks opening.settings) old.asks; faults = mid.faults }

  pub settings_given : {X : Type 0} (x : X) (name : List ℕ) (opening : Opening) (old new : DeskTold P) → opening.settings ≡ Some name
      → Asks (Settings name) (Ok x) old new → SettingsAsked opening old new
  settings_given x name opening old new is asks = asks.is ∙ ap (λ n. record old { asks = with_asks (settings_asks n) old.asks; faults = new.faults }) (sym is)

  pub cause_of_settings : (why : Unopened) (opening : Opening) (old new : DeskTold P) → IsSettingsCause why opening old new → IsCause why opening old new
  cause_of_settings BadSettings opening old new cause = cause
  cause_of_settings Broken opening old new cause = absurd cause
  cause_of_settings unopened.Failed opening old new cause = inl cause.1
  cause_of_settings unopened.OutOfMemory opening old new cause = tt

  -- the settings are good, and why there is no world is told of the store
  cause_of_store : (why : Unopened) (settings : SettingsParts) (opening : Opening) (old new : DeskTold P) → AreSettings old.files opening.settings settings → IsStoreCause why settings opening old new → IsCause why opening old new
  cause_of_store BadSettings settings opening old new spelled cause = absurd cause
  cause_of_store Broken settings opening old new spelled cause = record { settings = settings; spelled = spelled; breaks = cause }
  cause_of_store unopened.Failed settings opening old new spelled cause = cause
  cause_of_store unopened.OutOfMemory settings opening old new spelled cause = tt

  -- what an end tells
  pub cause_of : (why : Unopened) (opening : Opening) (old new : DeskTold P) → IsUnopened why opening old new → IsCause why opening old new
  cause_of why opening old new (inl s) = cause_of_settings why opening old new s.cause
  cause_of why opening old new (inr s) = cause_of_store why s.settings opening old new s.spelled s.cause

  pub if_err_cause : {X : Type 0} (opening : Opening) (old new : DeskTold P) (r : Result X Unopened) → IfErr r (λ why. IsUnopened why opening old new) → IfErr r (λ why. IsCause why opening old new)
  if_err_cause opening old new (Ok x) u = u
  if_err_cause opening old new (Err why) u = cause_of why opening old new u

  -- only these parts are others
  others_stay : (old new : DeskTold P) → new.files ≡ old.files → new.to_come ≡ old.to_come → new.returned ≡ old.returned
      → new ≡ record old { asks = new.asks; stores = new.stores; faults = new.faults; store_faults = new.store_faults }
  others_stay old new files to_come returned = λ j. record {
    asks = new.asks;
    files = files j;
    stores = new.stores;
    to_come = to_come j;
    returned = returned j;
    faults = new.faults;
    store_faults = new.store_faults;
  }

  -- the store was refused
  pub store_refused : {X : Type 0} (e : OutsideRefusal) (settings : SettingsParts) (opening : Opening) (old mid new : DeskTold P) → AreSettings old.files opening.settings settings
      → SettingsAsked opening old mid → old.faults ≤ mid.faults → Asks {T = X} (Store opening.store) (Err e) mid new → IsUnopened (by_desk e) opening old new
  store_refused {X = X} e settings opening old mid new spelled asked le asks = inr (record {
    settings = settings;
    spelled = spelled;
    cause = cause_by e asks.cause;
    asks = store_made e opening old.asks mid.asks new.asks (ap (λ (d : DeskTold P). d.asks) asked) (ap (λ (d : DeskTold P). d.asks) asks.is);
    stores = inl (ap (λ (d : DeskTold P). d.stores) asks.is ∙ ap (λ (d : DeskTold P). d.stores) asked);
    stays = others_stay old new (ap (λ (d : DeskTold P). d.files) asks.is ∙ ap (λ (d : DeskTold P). d.files) asked) (ap (λ (d : DeskTold P). d.to_come) asks.is ∙ ap (λ (d : DeskTold P). d.to_come) asked) (ap (λ (d : DeskTold P). d.returned) asks.is ∙ ap (λ (d : DeskTold P). d.returned) asked);
  })
    where
      cause_by : (e : OutsideRefusal) → HasRefusalCause {T = X} mid.faults new.faults (Err e) → IsStoreCause (by_desk e) settings opening old new
      cause_by Failed cause = inl (rose_later old.faults mid.faults new.faults le (cause.failed refl))
      cause_by OutOfMemory cause = tt

  -- a store was opened
  abbrev pub StoreOpened : Opening → DeskTold P → DeskTold P → Type 0
  StoreOpened opening mid opened =
      opened ≡ record mid { asks = with_ask (Store opening.store) mid.asks; stores = option_map (opened_as opening.store) mid.stores; faults = opened.faults }

  -- once settings and store are there
  pub all_opened : (opening : Opening) (old mid opened : DeskTold P) → SettingsAsked opening old mid → StoreOpened opening mid opened → opened ≡ with_opening opening opened.faults old
  all_opened opening old mid opened asked is =
      is ∙ ap (λ (d : DeskTold P). record d { asks = with_ask (Store opening.store) d.asks; stores = option_map (opened_as opening.store) d.stores; faults = opened.faults }) asked
      ∙ ap (λ a. record old { asks = a; stores = option_map (opened_as opening.store) old.stores; faults = opened.faults }) (after_both (settings_asks opening.settings) (Store opening.store ∷ []) old.asks)

  -- it was opened as it is opened before the settings are asked for
  pub opens_with : (opening : Opening) (old mid : DeskTold P) (store : KeeperTold) → SettingsAsked opening old mid → OpensWith opening.store mid.stores store → OpensWith opening.store old.stores store
  opens_with opening old mid store asked opens = subst (λ s. OpensWith opening.store s store) (ap (λ (d : DeskTold P). d.stores) asked) opens

  -- its rows were refused, and it is closed with them
  pub rows_refused : (why : Unopened) (settings : SettingsParts) (opening : Opening) (old opened new : DeskTold P) (store : KeeperTold) → AreSettings old.files opening.settings settings
      → opened ≡ with_opening opening opened.faults old → IfSome old.stores (λ told. store.rows ≡ Some (opening_rows opening.store told)) → Closes store opened new
      → (why ≡ BadSettings → ⊥) → (why ≡ Broken → RowsBreak opening settings old) → (why ≡ unopened.Failed → RoseBy 1 0 store.faults) → IsUnopened why opening old new
  rows_refused why settings opening old opened new store spelled is tells closes good broken failed = inr (record {
    settings = settings;
    spelled = spelled;
    cause = cause_by why good broken failed;
    asks = all_made why (opening_asks opening) old.asks new.asks (ap (λ (d : DeskTold P). d.asks) closes.is ∙ ap (λ (d : DeskTold P). d.asks) is);
    stores = inr (closed_again opening.store old.stores store.rows new.stores tells (subst (λ s. StoresClose s store.rows new.stores) (ap (λ (d : DeskTold P). d.stores) is) closes.stores));
    stays = others_stay old new (ap (λ (d : DeskTold P). d.files) closes.is ∙ ap (λ (d : DeskTold P). d.files) is) (ap (λ (d : DeskTold P). d.to_come) closes.is ∙ ap (λ (d : DeskTold P). d.to_come) is) (ap (λ (d : DeskTold P). d.returned) closes.is ∙ ap (λ (d : DeskTold P). d.returned) is);
  })
    where
      counted : new.store_faults ≡ min (old.store_faults + store.faults) (2 ^ 64 - 1)
      counted = ap (λ (d : DeskTold P). d.store_faults) closes.is ∙ ap (λ (d : DeskTold P). min (d.store_faults + store.faults) (2 ^ 64 - 1)) is

      cause_by : (why : Unopened) → (why ≡ BadSettings → ⊥) → (why ≡ Broken → RowsBreak opening settings old) → (why ≡ unopened.Failed → RoseBy 1 0 store.faults) → IsStoreCause why settings opening old new
      cause_by BadSettings good broken failed = absurd (good refl)
      cause_by Broken good broken failed = broken refl
      cause_by unopened.Failed good broken failed = let rose = failed refl in inr (omega (arith, rose, counted))
      cause_by unopened.OutOfMemory good broken failed = tt
