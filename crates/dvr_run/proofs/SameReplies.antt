-- Hosts that begin with the rows answer what the rows say.
use Rattle.std.proofs.Common.{List, None, [], ap, arith, map, refl, subst, suc, sym, zero, ℕ, ◌∙◌, ◌∷◌, ◌≡◌, ◌≤◌}
use Rattle.std.specs.Prelude.{flat_map, ◌||◌}
use Rattle.std.specs.List.{list_any}
use Rattle.std.specs.Str.{bytes_eq}
use Rattle.std.proofs.lemmas.Option.{none-some, same_Some}
use Rattle.api_check.proofs.ConsistentLaw.{consistent_holds}
use Rattle.api_check.specs.FirstBroken.{first_broken_of}
use Rattle.api_ml2.specs.Carrying.{carries}
use Rattle.api_types.specs.Consistent.{IsConsistent}
use Rattle.api_types.specs.Lists.{Each}
use Rattle.api_types.specs.RowLists.{RowLists}
use Rattle.dvr_laws.proofs.DvrList.{lists-mean-rows-dvr}
use Rattle.dvr_laws.specs.Held.{HoldCopies}
use Rattle.dvr_run.proofs.HostLemmas.{first-names, first-once, plain-counted}
use Rattle.dvr_run.specs.Answers.{names_of, replies, reply_line}
use Rattle.dvr_run.specs.Hosts.{first_host, first_hosts}
use Rattle.dvr_run.specs.Turns.{replies_of}
use Rattle.dvr_types.specs.Copies.{copies_for}
use Rattle.dvr_types.specs.DvrFabric.{DvrHost}
use Rattle.dvr_types.specs.DvrVerdicts.{dvr_meanings, entries_of_hosts, names_of_hosts, plain_hosts}
use Rattle.net_settings.specs.Rules.{MeetsRules}
use Rattle.net_settings.specs.Settings.{SettingsParts}
use Rattle.net_settings.specs.declared.settings.Host as config
use Rattle.plane_types.specs.Attached.{IsAttached}
use Rattle.plane_types.specs.Hosts.{Host, is_named}
use Rattle.plane_types.specs.Realises.{Realises}
use Rattle.plane_types.specs.declared.event.Event.{Event}
use Rattle.world_laws.proofs.AgentLaw.{no_tags, realised_tables}
use Rattle.world_laws.proofs.HostNames.{carrier_named}

-- nothing is tracked yet
attached-first : (rows : RowLists) (name : List ℕ) → IsAttached (first_host rows name).host
attached-first rows name = record {
  stand = λ k e at. absurd (none-some e at);
  once_outside = λ router kind outer port far far_port. omega arith;
  once_inside = λ router key outer. omega arith;
}

each-first : (rows : RowLists) (P : DvrHost → Type 0) → ((name : List ℕ) → P (first_host rows name)) → (hosts : List config.Host) → Each P (first_hosts rows hosts)
each-first rows P all [] k d at = absurd (none-some d at)
each-first rows P all (h ∷ hosts) zero d at = subst P (same_Some (first_host rows h.name) d at) (all h.name)
each-first rows P all (h ∷ hosts) (suc k) d at = each-first rows P all hosts k d at

each-plain : (P : Host → Type 0) (ds : List DvrHost) → Each (λ (d : DvrHost). P d.host) ds → Each P (plain_hosts ds)
each-plain P [] h k x at = absurd (none-some x at)
each-plain P (d ∷ ds) h zero x at = subst P (same_Some d.host x at) (h 0 d refl)
each-plain P (d ∷ ds) h (suc k) x at = each-plain P ds (λ k y at. h (suc k) y at) k x at

named-any : (rows : RowLists) (name : List ℕ) (hosts : List config.Host) → list_any (is_named name) (plain_hosts (first_hosts rows hosts)) ≡ list_any (bytes_eq name) (map (λ (h : config.Host). h.name) hosts)
named-any rows name [] = refl
named-any rows name (h ∷ hosts) = λ j. bytes_eq name h.name || named-any rows name hosts j

none-tracked : (rows : RowLists) (hosts : List config.Host) → entries_of_hosts (first_hosts rows hosts) ≡ []
none-tracked rows [] = refl
none-tracked rows (h ∷ hosts) = none-tracked rows hosts

module _ (settings : SettingsParts) (rows : RowLists) (rules : MeetsRules settings) (sound : first_broken_of settings.hosts rows ≡ None) where
  pub consistent : IsConsistent rows
  consistent = (consistent_holds rows settings.hosts sound).0

  first-hold : HoldCopies (carries settings.hosts) rows (first_hosts rows settings.hosts)
  first-hold =
      let ds = first_hosts rows settings.hosts in
      record {
        held = record {
          consistent = consistent;
          carried = (consistent_holds rows settings.hosts sound).1;
          synced = record {
            realise = each-plain (λ (h : Host). Realises rows h.name h.tables) ds (each-first rows (λ (d : DvrHost). Realises rows d.host.name d.host.tables) (λ name. realised_tables rows name [] no_tags consistent) settings.hosts);
            placed = each-plain IsAttached ds (each-first rows (λ (d : DvrHost). IsAttached d.host) (attached-first rows) settings.hosts);
            names = λ name. subst (λ n. n ≤ 1) (sym (plain-counted name ds)) (first-once rows settings.hosts rules.host_names_differ name);
            complete = λ name s can. named-any rows name settings.hosts ∙ carrier_named name s settings.hosts can;
          };
        };
        copied = each-first rows (λ (d : DvrHost). d.copies ≡ copies_for rows d.host.name) (λ name. refl) settings.hosts;
      }

  pub same-replies : (events : List Event) → replies_of (first_hosts rows settings.hosts) events ≡ replies rows (names_of settings.hosts) events
  same-replies events =
      ap (flat_map reply_line)
      (lists-mean-rows-dvr (carries settings.hosts) rows (first_hosts rows settings.hosts) first-hold events
      ∙ ap (λ es. dvr_meanings rows es (names_of_hosts (first_hosts rows settings.hosts)) events) (none-tracked rows settings.hosts)
      ∙ ap (λ ns. dvr_meanings rows [] ns events) (first-names rows settings.hosts))
