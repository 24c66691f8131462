-- Each step, and every list of steps, leaves what holds of the world.
use Rattle.std.proofs.Common.{◌≡◌, ℕ, zero, suc, ◌+◌, ◌≤◌, List, [], ◌∷◌, ◌++◌, Bool, true, false, cond, Option, None, Some, refl, ap, sym, subst, ◌∙◌, map}
use Rattle.std.specs.Prelude.{count_by}
use Rattle.std.specs.List.{filter_map}
use Rattle.std.specs.Str.{bytes_eq}
use Rattle.api_types.specs.Lists.{Each}
use Rattle.api_types.specs.RowLists.{RowLists}
use Rattle.api_types.specs.Rows.{Fits, after}
use Rattle.api_types.specs.declared.change.Item.{Item}
use Rattle.net_settings.specs.Rules.{MeetsRules}
use Rattle.net_settings.specs.Settings.{SettingsParts}
use Rattle.net_settings.specs.declared.settings.Host as config
use Rattle.api_types.proofs.ListLemmas.{none_some, some_equal}
use Rattle.plane_types.specs.Hosts.{is_named}
use Rattle.plane_types.specs.Attached.{IsAttached}
use Rattle.plane_types.specs.Verdicts.{fabric_verdict, hosts_after, with_made_from, made_at}
use Rattle.plane_types.specs.declared.event.Event.{Event}
use Rattle.plane_types.specs.declared.verdict.Made.{Made}
use Rattle.plane_laws.proofs.KeptLaw.{stay-placed}
use Rattle.bus_core.specs.History.{History, IsHistory, accepted, change_at, history_from}
use Rattle.bus_core.proofs.HistoryLaw.{accepted_history, history_starts, newest_kept}
use Rattle.plane_types.specs.Node.{Agent, after_change, after_forget, after_restart, after_resync, first_agent, follows, host_of}
use Rattle.world_laws.specs.Lead.{AreNamed, IsWorld}
use Rattle.world_laws.specs.Steps.{Accept, Deliver, Forget, May, MayRun, Resync, Restart, Send, Settle, Step, accept, add_from, at_host, deliver_by, deliver_kept, holds, run, after_settle, step}
use Rattle.world_laws.specs.World.{AreSound, World, first_world, hosts_of}
use Rattle.world_laws.proofs.AgentLaw.{IsAgent, entered_agent, forgotten_agent, left_agent, restarted_agent, resynced_agent, started_agent, told_agent}
use Rattle.world_laws.proofs.HostNames.{one_of}
use Rattle.world_laws.proofs.Lists.{count_map, each_map, map_each, map_map, map_same}

-- what holds, told host by host
pub record Holds (w : World) : Type 0 where
  pub rules : MeetsRules w.settings
  pub named : AreNamed w
  pub history : IsHistory (AreSound w.settings) w.history
  pub agents : Each (IsAgent w.settings w.history) w.agents

pub holds_of : (w : World) → IsWorld w → Holds w
holds_of w is = record {
  rules = is.rules;
  named = is.named;
  history = is.lead.history;
  agents = λ k a at. record { led = is.lead.agents k a at; placed = is.placed k a at; realised = is.realised k a at };
}

pub world_of : (w : World) → Holds w → IsWorld w
world_of w s = record {
  rules = s.rules;
  named = s.named;
  lead = record { history = s.history; agents = λ k a at. (s.agents k a at).led };
  placed = λ k a at. (s.agents k a at).placed;
  realised = λ k a at. (s.agents k a at).realised;
}

-- each host by a call that keeps its name
each_by : (w : World) (f : Agent → Agent) → ((a : Agent) → (f a).name ≡ a.name) → ((a : Agent) → IsAgent w.settings w.history a → IsAgent w.settings w.history (f a)) → Holds w → Holds (record w { agents = map f w.agents })
each_by w f named goes s = record {
  rules = s.rules;
  named = map_same (λ (a : Agent). a.name) f w.agents named ∙ s.named;
  history = s.history;
  agents = each_map f (IsAgent w.settings w.history) w.agents (λ k a at. goes a (s.agents k a at));
}

cond_name : (b : Bool) (a x y : Agent) → x.name ≡ a.name → y.name ≡ a.name → (cond b x y).name ≡ a.name
cond_name true a x y p q = p
cond_name false a x y p q = q

cond_agent : (settings : SettingsParts) (h : History) (b : Bool) (x y : Agent) → IsAgent settings h x → IsAgent settings h y → IsAgent settings h (cond b x y)
cond_agent settings h true x y p q = p
cond_agent settings h false x y p q = q

one_by : (w : World) (name : List ℕ) (f : Agent → Agent) → ((a : Agent) → (f a).name ≡ a.name) → ((a : Agent) → IsAgent w.settings w.history a → IsAgent w.settings w.history (f a)) → Holds w → Holds (record w { agents = at_host name f w.agents })
one_by w name f named goes s =
    each_by w (λ (a : Agent). cond (bytes_eq name a.name) (f a) a)
    (λ a. cond_name (bytes_eq name a.name) a (f a) a (named a) refl)
    (λ a h. cond_agent w.settings w.history (bytes_eq name a.name) (f a) a (goes a h) h) s

told_name : (n : ℕ) (c : List Item) (a : Agent) → (after_change n c a).name ≡ a.name
told_name n c a = cond_name (follows n a.held) a (after_resync n (after a.rows c) a) a refl refl

-- a change is accepted
pub accepted_holds : (w : World) (c : List Item) → Fits w.history.rows c → AreSound w.settings (after w.history.rows c) → Holds w → Holds (record w { history = accepted w.history c })
accepted_holds w c fits sound s = record {
  rules = s.rules;
  named = s.named;
  history = accepted_history (AreSound w.settings) w.history c s.history fits sound;
  agents = λ k a at. left_agent w.settings w.history s.history c fits a (s.agents k a at);
}

accept_holds : (w : World) (c : List Item) → Fits w.history.rows c → AreSound w.settings (after w.history.rows c) → Holds w → Holds (accept w c)
accept_holds w c fits sound s = by w.manual
  where
    v : World
    v = record w { history = accepted w.history c }

    start : Holds v
    start = accepted_holds w c fits sound s

    kept : change_at v.history (w.history.version + 1) ≡ Some c
    kept = newest_kept w.history c s.history.few s.history.numbered

    by : (b : Bool) → Holds (record v { agents = deliver_by b (w.history.version + 1) c w.agents })
    by true = start
    by false =
        each_by v (after_change (w.history.version + 1) c)
        (told_name (w.history.version + 1) c)
        (λ a h. told_agent v.settings v.history start.history a (w.history.version + 1) c kept h) start

deliver_holds : (w : World) (name : List ℕ) (n : ℕ) (o : Option (List Item)) → change_at w.history n ≡ o → Holds w → Holds (deliver_kept w name n o)
deliver_holds w name n None at s = s
deliver_holds w name n (Some c) at s = one_by w name (after_change n c) (told_name n c) (λ a h. told_agent w.settings w.history s.history a n c at h) s

-- an event makes entries
hosts_added : (place : ℕ) (agents : List Agent) (fresh : List Made) → map host_of (add_from place agents fresh) ≡ with_made_from place (map host_of agents) fresh
hosts_added place [] fresh = refl
hosts_added place (a ∷ rest) fresh = λ j. record { name = a.name; tables = a.tables; entries = a.entries ++ filter_map (made_at place) fresh } ∷ hosts_added (suc place) rest fresh j

names_added : (place : ℕ) (agents : List Agent) (fresh : List Made) → map (λ (a : Agent). a.name) (add_from place agents fresh) ≡ map (λ (a : Agent). a.name) agents
names_added place [] fresh = refl
names_added place (a ∷ rest) fresh = λ j. a.name ∷ names_added (suc place) rest fresh j

added_agents : (settings : SettingsParts) (h : History) → IsHistory (AreSound settings) h → (place : ℕ) (agents : List Agent) (fresh : List Made) → Each (IsAgent settings h) agents → Each (λ (a : Agent). IsAttached (host_of a)) (add_from place agents fresh) → Each (IsAgent settings h) (add_from place agents fresh)
added_agents settings h is place [] fresh each placed k a at = none_some a _ at
added_agents settings h is place (x ∷ rest) fresh each placed zero a at =
    subst (IsAgent settings h) (some_equal _ a at) (entered_agent settings h is x (x.entries ++ filter_map (made_at place) fresh) (each 0 x refl) (placed 0 (record x { entries = x.entries ++ filter_map (made_at place) fresh }) refl))
added_agents settings h is place (x ∷ rest) fresh each placed (suc k) a at = added_agents settings h is (suc place) rest fresh (λ i b g. each (suc i) b g) (λ i b g. placed (suc i) b g) k a at

pub host_names : (w : World) → MeetsRules w.settings → AreNamed w → (name : List ℕ) → count_by (is_named name) (hosts_of w) ≤ 1
host_names w rules named name =
    subst (λ n. n ≤ 1) (sym (count_map (is_named name) host_of w.agents ∙ sym (count_map (bytes_eq name) (λ (a : Agent). a.name) w.agents) ∙ ap (count_by (bytes_eq name)) named))
    (one_of name (map (λ (d : config.Host). d.name) w.settings.hosts) rules.host_names_differ)

send_holds : (w : World) (event : Event) → Holds w → Holds (step w (Send event))
send_holds w event s =
    let fresh = (fabric_verdict (hosts_of w) event).fresh in
    let placed : Each IsAttached (hosts_after (hosts_of w) event) = stay-placed (hosts_of w) (host_names w s.rules s.named) (each_map host_of IsAttached w.agents (λ k a at. (s.agents k a at).placed)) event in
    record {
      rules = s.rules;
      named = names_added 0 w.agents fresh ∙ s.named;
      history = s.history;
      agents = added_agents w.settings w.history s.history 0 w.agents fresh s.agents (map_each host_of IsAttached (add_from 0 w.agents fresh) (subst (Each IsAttached) (sym (hosts_added 0 w.agents fresh)) placed));
    }

step_holds : (w : World) (s : Step) → May w s → Holds w → Holds (step w s)
step_holds w (Accept c) may h = accept_holds w c may.0 may.1 h
step_holds w (Deliver name n) may h = deliver_holds w name n (change_at w.history n) refl h
step_holds w (Resync name) may h = one_by w name (after_resync w.history.version w.history.rows) (λ a. refl) (λ a g. resynced_agent w.settings w.history h.history a g) h
step_holds w (Restart name) may h = one_by w name after_restart (λ a. refl) (λ a g. restarted_agent w.settings w.history h.history a g) h
step_holds w (Forget name) may h = one_by w name after_forget (λ a. refl) (λ a g. forgotten_agent w.settings w.history h.history a g) h
step_holds w Settle may h =
    each_by w (after_settle w.history.version w.history.rows) (λ a. cond_name (holds w.history.version a.held) a a (after_resync w.history.version w.history.rows a) refl refl)
    (λ a g. cond_agent w.settings w.history (holds w.history.version a.held) a (after_resync w.history.version w.history.rows a) g (resynced_agent w.settings w.history h.history a g)) h
step_holds w (Send event) may h = send_holds w event h

pub step_kept : (w : World) (s : Step) → IsWorld w → May w s → IsWorld (step w s)
step_kept w s is may = world_of (step w s) (step_holds w s may (holds_of w is))

pub run_kept : (w : World) (ss : List Step) → IsWorld w → MayRun w ss → IsWorld (run w ss)
unfolding run MayRun
run_kept w [] is may = is
run_kept w (s ∷ ss) is may = run_kept (step w s) ss (step_kept w s is may.0) may.1

pub opened_stands : (settings : SettingsParts) (manual : Bool) (rows : RowLists) → MeetsRules settings → AreSound settings rows → IsWorld (first_world settings manual rows)
opened_stands settings manual rows rules sound =
    let start = history_starts (AreSound settings) rows 0 sound in
    world_of (first_world settings manual rows) (record {
      rules = rules;
      named = map_map (λ (a : Agent). a.name) (λ (d : config.Host). first_agent rows 0 d.name) settings.hosts;
      history = start;
      agents = each_map (λ (d : config.Host). first_agent rows 0 d.name) (IsAgent settings (history_from rows 0)) settings.hosts (λ k d at. started_agent settings (history_from rows 0) start d.name);
    })

pub all_runs : (settings : SettingsParts) (manual : Bool) (rows : RowLists) → MeetsRules settings → AreSound settings rows → (ss : List Step) → MayRun (first_world settings manual rows) ss → IsWorld (run (first_world settings manual rows) ss)
all_runs settings manual rows rules sound ss may = run_kept (first_world settings manual rows) ss (opened_stands settings manual rows rules sound) may
