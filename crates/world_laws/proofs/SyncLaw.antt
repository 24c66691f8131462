-- When every host holds the current version, and that in automatic delivery each step but a restart leaves it so.
use Rattle.std.proofs.Common.{◌≡◌, ℕ, zero, suc, ◌+◌, ◌≤◌, List, [], ◌∷◌, ◌++◌, Bool, true, false, cond, Option, None, Some, refl, ap, sym, subst, ◌∙◌, arith, map}
use Rattle.std.specs.List.{filter_map}
use Rattle.std.specs.Str.{bytes_eq}
use Rattle.std.proofs.lemmas.Bool.Decides.{nat_tests}
use Rattle.api_types.specs.Lists.{Each}
use Rattle.api_types.specs.Rows.{after}
use Rattle.api_types.specs.declared.change.Item.{Item}
use Rattle.api_types.proofs.ListLemmas.{some_equal}
use Rattle.plane_types.specs.Node.{Agent, after_change, after_forget, after_resync, follows}
use Rattle.plane_types.specs.Verdicts.{fabric_verdict, made_at}
use Rattle.plane_types.specs.declared.event.Event.{Event}
use Rattle.plane_types.specs.declared.verdict.Made.{Made}
use Rattle.bus_core.specs.History.{change_at}
use Rattle.bus_core.proofs.HistoryLaw.{kept_within}
use Rattle.world_laws.specs.Lead.{IsWorld}
use Rattle.world_laws.specs.Steps.{Accept, Deliver, Forget, Resync, Restart, Send, Settle, Step, add_from, after_settle, at_host, deliver_by, deliver_kept, holds, restarts, step}
use Rattle.world_laws.specs.World.{IsSynced, World, hosts_of}
use Rattle.world_laws.proofs.AgentLaw.{follows_held, next_follows}
use Rattle.world_laws.proofs.Lists.{each_map}
use Rattle.world_laws.proofs.MeaningLaw.{rows_of_now}

-- what is held is the version
holds_it : (version : ℕ) (held : Option ℕ) → holds version held ≡ true → held ≡ Some version
holds_it version None h = absurd cc
holds_it version (Some v) h = let same : v ≡ version = grind (arith, nat_tests, h) in ap Some same

pub settle_syncs : (w : World) → IsSynced (step w Settle)
settle_syncs w = each_map (after_settle w.history.version w.history.rows) (λ (a : Agent). a.held ≡ Some w.history.version) w.agents (λ k a at. by a (holds w.history.version a.held) refl)
  where
    by : (a : Agent) (b : Bool) → holds w.history.version a.held ≡ b → (cond b a (after_resync w.history.version w.history.rows a)).held ≡ Some w.history.version
    by a true e = holds_it w.history.version a.held e
    by a false e = refl

-- in automatic delivery, where each host holds the current version, each is given the new rows
pub accept_rewires : (w : World) (c : List Item) → IsWorld w → w.manual ≡ false → IsSynced w → (step w (Accept c)).agents ≡ map (after_resync (w.history.version + 1) (after w.history.rows c)) w.agents
accept_rewires w c is automatic synced = by w.manual automatic
  where
    tells : (a : Agent) → a.held ≡ Some w.history.version → a.rows ≡ w.history.rows → after_change (w.history.version + 1) c a ≡ after_resync (w.history.version + 1) (after w.history.rows c) a
    tells a held same =
        ap (λ (b : Bool). cond b (after_resync (w.history.version + 1) (after a.rows c) a) a)
        (ap (follows (w.history.version + 1)) held ∙ next_follows (w.history.version + 1) w.history.version refl)
        ∙ ap (λ rows. after_resync (w.history.version + 1) (after rows c) a) same

    all : (agents : List Agent) → Each (λ (a : Agent). after_change (w.history.version + 1) c a ≡ after_resync (w.history.version + 1) (after w.history.rows c) a) agents
        → map (λ (a : Agent). after_change (w.history.version + 1) c a) agents ≡ map (after_resync (w.history.version + 1) (after w.history.rows c)) agents
    all [] each = refl
    all (a ∷ agents) each = λ j. each 0 a refl j ∷ all agents (λ k b at. each (suc k) b at) j

    by : (b : Bool) → b ≡ false → deliver_by b (w.history.version + 1) c w.agents ≡ map (after_resync (w.history.version + 1) (after w.history.rows c)) w.agents
    by true e = absurd cc
    by false e = all w.agents (λ k a at. tells a (synced k a at) (rows_of_now w is k a at (synced k a at)))

-- in automatic delivery all stay at the current version
pub accept_syncs : (w : World) (c : List Item) → w.manual ≡ false → IsSynced w → IsSynced (step w (Accept c))
accept_syncs w c automatic synced = by w.manual automatic
  where
    tells : (a : Agent) → a.held ≡ Some w.history.version → after_change (w.history.version + 1) c a ≡ after_resync (w.history.version + 1) (after a.rows c) a
    tells a held =
        ap (λ (b : Bool). cond b (after_resync (w.history.version + 1) (after a.rows c) a) a)
        (ap (follows (w.history.version + 1)) held ∙ next_follows (w.history.version + 1) w.history.version refl)

    by : (b : Bool) → b ≡ false → Each (λ (a : Agent). a.held ≡ Some (w.history.version + 1)) (deliver_by b (w.history.version + 1) c w.agents)
    by true e = absurd cc
    by false e = each_map (λ (a : Agent). after_change (w.history.version + 1) c a) (λ (a : Agent). a.held ≡ Some (w.history.version + 1)) w.agents (λ k a at. ap (λ (x : Agent). x.held) (tells a (synced k a at)))

-- ---- each step

abbrev HoldsVersion : ℕ → Agent → Type 0
HoldsVersion version a = a.held ≡ Some version

-- a host of a name does something, after which it holds the version still
named_sync : (version : ℕ) (name : List ℕ) (f : Agent → Agent) (agents : List Agent) → ((a : Agent) → HoldsVersion version a → HoldsVersion version (f a)) → Each (HoldsVersion version) agents → Each (HoldsVersion version) (at_host name f agents)
named_sync version name f agents still synced = each_map (λ (a : Agent). cond (bytes_eq name a.name) (f a) a) (HoldsVersion version) agents (λ k a at. by a (bytes_eq name a.name) (synced k a at))
  where
    by : (a : Agent) (b : Bool) → HoldsVersion version a → HoldsVersion version (cond b (f a) a)
    by a true held = still a held
    by a false held = held

-- no kept change follows the current version
still_held : (n version : ℕ) (c : List Item) (a : Agent) → n ≤ version → HoldsVersion version a → HoldsVersion version (after_change n c a)
still_held n version c a within held = by (follows n a.held) refl
  where
    by : (b : Bool) → follows n a.held ≡ b → HoldsVersion version (cond b (after_resync n (after a.rows c) a) a)
    by false e = held
    by true e =
        let next = follows_held n a.held e in
        let same : next.0 ≡ version = some_equal next.0 version (sym next.1 ∙ held) in
        let later = next.2 in absurd (omega (arith, later, same, within))

deliver_syncs : (w : World) (name : List ℕ) (n : ℕ) (o : Option (List Item)) → change_at w.history n ≡ o → IsWorld w → IsSynced w → IsSynced (deliver_kept w name n o)
deliver_syncs w name n None at is synced = synced
deliver_syncs w name n (Some c) at is synced =
    let within = kept_within w.history n c is.lead.history.numbered at in
    named_sync w.history.version name (after_change n c) w.agents (λ a held. still_held n w.history.version c a within.1 held) synced

added_held : (held : Option ℕ) (place : ℕ) (agents : List Agent) (fresh : List Made) → Each (λ (a : Agent). a.held ≡ held) agents → Each (λ (a : Agent). a.held ≡ held) (add_from place agents fresh)
added_held held place [] fresh each k a at = each k a at
added_held held place (b ∷ agents) fresh each zero a at = ap (λ (x : Agent). x.held) (sym (same at)) ∙ each 0 b refl
  where
    same : Some (record b { entries = b.entries ++ filter_map (made_at place) fresh }) ≡ Some a → record b { entries = b.entries ++ filter_map (made_at place) fresh } ≡ a
    same h = cc
added_held held place (b ∷ agents) fresh each (suc k) a at = added_held held (suc place) agents fresh (λ i x here. each (suc i) x here) k a at

pub sent_synced : (w : World) → IsSynced w → (event : Event) → IsSynced (step w (Send event))
sent_synced w synced event = added_held (Some w.history.version) 0 w.agents (fabric_verdict (hosts_of w) event).fresh synced

pub step_syncs : (w : World) (s : Step) → IsWorld w → w.manual ≡ false → IsSynced w → restarts s ≡ false → IsSynced (step w s)
step_syncs w (Accept c) is automatic synced other = accept_syncs w c automatic synced
step_syncs w (Deliver name n) is automatic synced other = deliver_syncs w name n (change_at w.history n) refl is synced
step_syncs w (Resync name) is automatic synced other = named_sync w.history.version name (after_resync w.history.version w.history.rows) w.agents (λ a held. refl) synced
step_syncs w (Restart name) is automatic synced other = absurd cc
step_syncs w (Forget name) is automatic synced other = named_sync w.history.version name after_forget w.agents (λ a held. held) synced
step_syncs w Settle is automatic synced other = settle_syncs w
step_syncs w (Send event) is automatic synced other = sent_synced w synced event
