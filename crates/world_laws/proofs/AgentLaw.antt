-- What each step does to one host's agents.
use Rattle.std.proofs.Common.{◌≡◌, ℕ, ◌+◌, ◌-◌, ◌≤◌, List, [], Bool, true, false, cond, Option, None, Some, refl, ap, sym, subst, ◌∙◌, arith, lit≤}
use Rattle.std.proofs.lemmas.Bool.Decides.{nat_tests}
use Rattle.api_types.specs.Consistent.{IsConsistent}
use Rattle.api_types.specs.RowLists.{RowLists}
use Rattle.api_types.specs.Rows.{Fits, after}
use Rattle.api_types.specs.declared.change.Item.{Item}
use Rattle.net_settings.specs.Settings.{SettingsParts}
use Rattle.api_types.proofs.ListLemmas.{none_some, some_equal}
use Rattle.plane_types.specs.Attached.{IsAttached}
use Rattle.plane_types.specs.Realises.{Realises}
use Rattle.plane_types.specs.declared.entry.Entry.{Entry}
use Rattle.plane_types.specs.declared.table.TagRow.{TagRow}
use Rattle.plane_types.specs.NewTags.{AreTags}
use Rattle.plane_types.proofs.RetaggedLaw.{tags_stand}
use Rattle.plane_types.specs.TablesOfRows.{tables_of_rows}
use Rattle.plane_types.proofs.PlacedLemmas.{stay_placed}
use Rattle.plane_types.proofs.RealisedTags.{are_tags}
use Rattle.bus_core.specs.History.{History, IsHistory, accepted, change_at, rows_at}
use Rattle.bus_core.proofs.HistoryLaw.{kept_within, rows_now, rows_still}
use Rattle.plane_types.specs.Node.{Agent, after_change, after_forget, after_restart, after_resync, first_agent, follows, host_of}
use Rattle.world_laws.specs.Lead.{IsLed}
use Rattle.world_laws.specs.World.{AreSound}

pub realised_tables : (rows : RowLists) (name : List ℕ) (old : List TagRow) → AreTags old → IsConsistent rows → Realises rows name (tables_of_rows rows name old)
unfolding tables_of_rows
realised_tables rows name old tags c = record { tags = tags_stand rows name old tags c; taps = refl; filters = refl; sets = refl; bridge = refl; inward = refl; neighbours = refl; routers = refl; routes = refl; floats = refl; leases = refl }

pub no_tags : AreTags []
no_tags = record { first = λ k t at. none_some t _ at; last = λ k t at. none_some t _ at; differ = λ tag. lit≤ tt }

pub record IsAgent (settings : SettingsParts) (h : History) (a : Agent) : Type 0 where
  pub led : IsLed settings h a
  pub placed : IsAttached (host_of a)
  pub realised : Realises a.rows a.name a.tables

no_entries : (name : List ℕ) (a : Agent) → IsAttached (record { name = name; tables = a.tables; entries = [] })
no_entries name a = record { stand = λ k e at. none_some e _ at; once_outside = λ router kind outer port far far_port. lit≤ tt; once_inside = λ router key outer. lit≤ tt }

-- a number follows the version that is held
pub follows_held : (n : ℕ) (held : Option ℕ) → follows n held ≡ true → (v : ℕ) × (held ≡ Some v) × (n ≡ v + 1)
follows_held n None h = absurd cc
follows_held n (Some v) h = (v, refl, grind (arith, nat_tests, h))

pub next_follows : (n v : ℕ) → n ≡ v + 1 → follows n (Some v) ≡ true
next_follows n v e = grind (arith, nat_tests, e)

module _ (settings : SettingsParts) (h : History) (is : IsHistory (AreSound settings) h) where
  pub sound_now : AreSound settings h.rows
  sound_now = subst (AreSound settings) (rows_now h is.numbered) (is.sound h.version (omega arith) (omega arith))

  -- the rows of a version that can be told, wired
  rewired_agent : (a : Agent) (version : ℕ) (rows : RowLists) → IsAgent settings h a → version ≤ h.version → AreSound settings rows → rows ≡ rows_at h version → IsAgent settings h (after_resync version rows a)
  rewired_agent a version rows s most sound same = record {
    led = record { held = λ v at. some_equal v version (sym at); version = most; sound = sound; rows = λ from. same };
    placed = stay_placed a.name a.tables (tables_of_rows rows a.name a.tables.tags) a.entries s.placed;
    realised = realised_tables rows a.name a.tables.tags (are_tags a.rows a.name a.tables.tags s.realised.tags) sound.consistent;
  }

  pub resynced_agent : (a : Agent) → IsAgent settings h a → IsAgent settings h (after_resync h.version h.rows a)
  resynced_agent a s = rewired_agent a h.version h.rows s (omega arith) sound_now (sym (rows_now h is.numbered))

  -- the next change of a host fits its rows, and leads to the rows of its number
  pub record Follows (a : Agent) (n : ℕ) (c : List Item) : Type 0 where
    pub fits : Fits a.rows c
    pub leads : after a.rows c ≡ rows_at h n
    pub sound : AreSound settings (after a.rows c)

  pub next_fits : (a : Agent) (v n : ℕ) (c : List Item) → IsLed settings h a → change_at h n ≡ Some c → a.held ≡ Some v → n ≡ v + 1 → Follows a n c
  next_fits a v n c led at held next =
      let within = kept_within h n c is.numbered at in
      let here = led.held v held in
      let before : n - 1 ≡ a.version = omega (arith, next, here) in
      let rows : a.rows ≡ rows_at h (n - 1) = led.rows (omega (arith, within, next, here)) ∙ ap (rows_at h) (sym before) in
      let leads : after a.rows c ≡ rows_at h n = ap (λ r. after r c) rows ∙ sym (is.leads n c at) in
      record {
        fits = subst (λ r. Fits r c) (sym rows) (is.fits n c at);
        leads = leads;
        sound = subst (AreSound settings) (sym leads) (is.sound n (omega (arith, within)) within.1);
      }

  pub told_agent : (a : Agent) (n : ℕ) (c : List Item) → change_at h n ≡ Some c → IsAgent settings h a → IsAgent settings h (after_change n c a)
  told_agent a n c at s = by (follows n a.held) refl
    where
      by : (b : Bool) → follows n a.held ≡ b → IsAgent settings h (cond b (after_resync n (after a.rows c) a) a)
      by false e = s
      by true e =
          let next = follows_held n a.held e in
          let f = next_fits a next.0 n c s.led at next.1 next.2 in
          rewired_agent a n (after a.rows c) s (kept_within h n c is.numbered at).1 f.sound f.leads

  pub restarted_agent : (a : Agent) → IsAgent settings h a → IsAgent settings h (after_restart a)
  restarted_agent a s = record {
    led = record { held = λ v at. none_some v _ at; version = s.led.version; sound = s.led.sound; rows = s.led.rows };
    placed = s.placed;
    realised = s.realised;
  }

  pub forgotten_agent : (a : Agent) → IsAgent settings h a → IsAgent settings h (after_forget a)
  forgotten_agent a s = record {
    led = record { held = s.led.held; version = s.led.version; sound = s.led.sound; rows = s.led.rows };
    placed = no_entries a.name a;
    realised = s.realised;
  }

  pub entered_agent : (a : Agent) (entries : List Entry) → IsAgent settings h a → IsAttached (record { name = a.name; tables = a.tables; entries = entries }) → IsAgent settings h (record a { entries = entries })
  entered_agent a entries s placed = record {
    led = record { held = s.led.held; version = s.led.version; sound = s.led.sound; rows = s.led.rows };
    placed = placed;
    realised = s.realised;
  }

  -- where one more change is accepted
  pub left_agent : (c : List Item) → Fits h.rows c → (a : Agent) → IsAgent settings h a → IsAgent settings (accepted h c) a
  left_agent c fits a s = record {
    led = record {
      held = s.led.held;
      version = let most = s.led.version in omega (arith, most);
      sound = s.led.sound;
      rows = λ from. let still = rows_still h c is.few is.numbered fits a.version from s.led.version in s.led.rows still.0 ∙ sym still.1;
    };
    placed = s.placed;
    realised = s.realised;
  }

  -- a host's first rows
  pub started_agent : (name : List ℕ) → IsAgent settings h (first_agent h.rows h.version name)
  started_agent name = record {
    led = record { held = λ v at. some_equal v h.version (sym at); version = omega arith; sound = sound_now; rows = λ from. sym (rows_now h is.numbered) };
    placed = no_entries name (first_agent h.rows h.version name);
    realised = realised_tables h.rows name [] no_tags sound_now.consistent;
  }
