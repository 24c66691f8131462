-- What calls do with the parts of the world is a step of the world.
use Rattle.std.proofs.Common.{◌≡◌, ℕ, suc, ◌+◌, ◌≤◌, List, [], ◌∷◌, Bool, true, false, cond, Option, None, Some, refl, ap, sym, subst, ◌∙◌, arith, map, slice_get}
use Rattle.std.specs.Prelude.{count_by}
use Rattle.std.specs.Str.{bytes_eq}
use Rattle.api_types.specs.Consistent.{IsConsistent}
use Rattle.api_types.specs.Lists.{Each}
use Rattle.api_types.specs.RowLists.{RowLists}
use Rattle.api_types.specs.Rows.{Fits, after}
use Rattle.api_types.specs.declared.change.Item.{Item}
use Rattle.net_settings.specs.Settings.{SettingsParts}
use Rattle.plane_types.specs.Hosts.{is_named}
use Rattle.plane_types.specs.Attached.{IsAttached}
use Rattle.plane_types.specs.Verdicts.{fabric_verdict, with_made as kept_at_hosts}
use Rattle.plane_types.specs.declared.event.Event.{Event}
use Rattle.plane_laws.proofs.Counted.{once-counted}
use Rattle.plane_laws.proofs.Facts.{AtMostOne}
use Rattle.plane_laws.proofs.KeptLaw.{stay-placed}
use Rattle.plane_laws.proofs.ListLemmas.{AtMostOne-from_map}
use Rattle.bus_core.specs.History.{change_at}
use Rattle.bus_core.specs.Kept.{Kept, with_newest}
use Rattle.bus_core.proofs.HistoryLaw.{rows_now}
use Rattle.kept_laws.specs.Kept.{AreKept}
use Rattle.plane_types.specs.Node.{Agent, CanFollow, Node, after_change, after_resync, agents_of, follows, host_of}
use Rattle.world_laws.specs.Lead.{IsWorld}
use Rattle.world_laws.specs.Steps.{Accept, May, Send, Step, add_from, deliver_by, step}
use Rattle.world_laws.specs.World.{AreSound, World}
use Rattle.world_laws.proofs.AgentLaw.{follows_held, sound_now}
use Rattle.world_laws.proofs.Lists.{each_map}
use Rattle.world_laws.proofs.MeaningLaw.{next_change, rows_of_now}
use Rattle.world_laws.proofs.StepLaw.{host_names, step_kept}
use Rattle.agent_node.specs.Rewired.{CanTake, IsReadyTo, after_taking}
use Rattle.agent_node.specs.declared.rewire.Rewire.{Rewire}
use Rattle.lab_world.specs.Hosts.{AreToldBy, CanTakeAll, IsToldBy, take_each}
use Rattle.lab_world.specs.Parts.{AreParts, world_seen}
use Rattle.lab_world.proofs.One.{agent_at}

-- each host that can take the next change is given the rows that it leads to
taken : (n : ℕ) (c : List Item) (rs : RowLists) (x : Node) (o : Option Rewire) → IsReadyTo n rs x o → (follows n x.agent.held ≡ true → rs ≡ after x.agent.rows c)
    → after_taking n o x.agent ≡ after_change n c x.agent
taken n c rs x None h leads = sym (ap (λ (b : Bool). cond b (after_resync n (after x.agent.rows c) x.agent) x.agent) h)
taken n c rs x (Some r) h leads =
    ap (λ rows. after_resync n rows x.agent) (h.1 ∙ leads h.0) ∙ sym (ap (λ (b : Bool). cond b (after_resync n (after x.agent.rows c) x.agent) x.agent) h.0)

all_taken : (n : ℕ) (c : List Item) (rs : RowLists) (nodes : List Node) (ready : List (Option Rewire)) → AreToldBy false n rs nodes ready
    → Each (λ (x : Node). follows n x.agent.held ≡ true → rs ≡ after x.agent.rows c) nodes → take_each n ready (agents_of nodes) ≡ map (after_change n c) (agents_of nodes)
all_taken n c rs [] [] h each = refl
all_taken n c rs [] (o ∷ ready) h each = absurd h
all_taken n c rs (x ∷ nodes) [] h each = absurd h
all_taken n c rs (x ∷ nodes) (o ∷ ready) h each =
    λ j. taken n c rs x o h.0 (each 0 x refl) j ∷ all_taken n c rs nodes ready h.1 (λ k y at. each (suc k) y at) j

-- by hand alone none is
none_taken : (n : ℕ) (rs : RowLists) (nodes : List Node) (ready : List (Option Rewire)) → AreToldBy true n rs nodes ready → take_each n ready (agents_of nodes) ≡ agents_of nodes
none_taken n rs [] [] h = refl
none_taken n rs [] (o ∷ ready) h = absurd h
none_taken n rs (x ∷ nodes) [] h = absurd h
none_taken n rs (x ∷ nodes) (o ∷ ready) h = λ j. after_taking n (h.0 j) x.agent ∷ none_taken n rs nodes ready h.1 j

-- what was made ready can be put in
can_take : (manual : Bool) (n : ℕ) (rs : RowLists) (x : Node) (o : Option Rewire) → IsToldBy manual n rs x o → CanTake x o
can_take true n rs x o h = subst (CanTake x) (sym h) tt
can_take false n rs x None h = tt
can_take false n rs x (Some r) h = h.2

pub can_take_all : (manual : Bool) (n : ℕ) (rs : RowLists) (nodes : List Node) (ready : List (Option Rewire)) → AreToldBy manual n rs nodes ready → CanTakeAll nodes ready
can_take_all manual n rs [] [] h = tt
can_take_all manual n rs [] (o ∷ ready) h = absurd h
can_take_all manual n rs (x ∷ nodes) [] h = absurd h
can_take_all manual n rs (x ∷ nodes) (o ∷ ready) h = (can_take manual n rs x o h.0, can_take_all manual n rs nodes ready h.1)

module _ (settings : SettingsParts) (rows : RowLists) (version : ℕ) (kept : Kept) (nodes : List Node) (manual : Bool) (are : AreParts settings rows version kept nodes manual) where
  abbrev old : World
  old = world_seen settings rows version kept nodes manual

  pub sound : AreSound settings rows
  sound = sound_now settings old.history are.world.lead.history

  pub sound_after : (after_rows : RowLists) → AreKept settings rows after_rows → AreSound settings after_rows
  sound_after after_rows k = record { consistent = k.consistent; typed = k.typed; carried = k.carried sound.carried }

  pub once_named : (name : List ℕ) → AtMostOne (λ (a : Agent). bytes_eq name a.name) (agents_of nodes)
  once_named name = AtMostOne-from_map (is_named name) host_of (agents_of nodes) (once-counted (is_named name) (map host_of (agents_of nodes)) (host_names old are.world.rules are.world.named name))

  -- other hosts that are seen alike
  pub same_parts : (new : List Node) → agents_of new ≡ agents_of nodes → AreParts settings rows version kept new manual
  same_parts new same = record {
    world = subst (λ (agents : List Agent). IsWorld (record old { agents = agents })) (sym same) are.world;
    numbered = are.numbered;
  }

  -- a step that changes the hosts alone, as these are
  pub by_step : (s : Step) (agents : List Agent) → step (world_seen settings rows version kept nodes manual) s ≡ record (world_seen settings rows version kept nodes manual) { agents = agents }
      → May (world_seen settings rows version kept nodes manual) s → (new : List Node) → agents_of new ≡ agents
      → AreParts settings rows version kept new manual × (world_seen settings rows version kept new manual ≡ step (world_seen settings rows version kept nodes manual) s)
  by_step s agents leads may new same =
      let is : world_seen settings rows version kept new manual ≡ step old s = ap (λ (seen : List Agent). record old { agents = seen }) same ∙ sym leads in
      (record { world = subst IsWorld (sym is) (step_kept old s are.world may); numbered = are.numbered }, is)

  -- a host that can take the next change has the rows of now
  rows_before : (c : List Item) → Each (λ (a : Agent). follows (version + 1) a.held ≡ true → after rows c ≡ after a.rows c) (agents_of nodes)
  rows_before c k a at next =
      let held = follows_held (version + 1) a.held next in
      let now : a.held ≡ Some version = held.1 ∙ ap Some (sym (let same : version ≡ held.0 = omega (arith, held.2) in same)) in
      ap (λ r. after r c) (sym (rows_of_now old are.world k a at now))

  -- so has it with other room
  pub rows_with : (c : List Item) (mid : List Node) → agents_of mid ≡ agents_of nodes → Each (λ (x : Node). follows (version + 1) x.agent.held ≡ true → after rows c ≡ after x.agent.rows c) mid
  rows_with c mid same k x at = rows_before c k x.agent (ap (λ (agents : List Agent). slice_get agents k) (sym same) ∙ agent_at mid k x at)

  -- the next change can follow at each host
  pub can_follow : (c : List Item) → Fits rows c → IsConsistent (after rows c) → Each (λ (n : Node). CanFollow n.agent (version + 1) c) nodes
  can_follow c fits consistent k n at next =
      let held = follows_held (version + 1) n.agent.held next in
      let now : n.agent.held ≡ Some version = held.1 ∙ ap Some (sym (let same : version ≡ held.0 = omega (arith, held.2) in same)) in
      let same : n.agent.rows ≡ rows = rows_of_now old are.world k n.agent (agent_at nodes k n at) now in
      (subst (λ r. Fits r c) (sym same) fits, subst (λ r. IsConsistent (after r c)) (sym same) consistent)

  -- the kept change that follows what a host holds can follow there
  pub next_follows : (number : ℕ) (c : List Item) → change_at (world_seen settings rows version kept nodes manual).history number ≡ Some c → Each (λ (n : Node). CanFollow n.agent number c) nodes
  next_follows number c at k n there follows_it =
      let held = follows_held number n.agent.held follows_it in
      let f = next_change old are.world number held.0 c at held.2 k n.agent (agent_at nodes k n there) held.1 in
      (f.0, f.1.consistent)

  -- and that which leads to the rows of now leads there from what the host has
  pub rows_given : (c : List Item) → change_at (world_seen settings rows version kept nodes manual).history version ≡ Some c
      → Each (λ (n : Node). follows version n.agent.held ≡ true → rows ≡ after n.agent.rows c) nodes
  rows_given c at k n there follows_it =
      let held = follows_held version n.agent.held follows_it in
      let f = next_change old are.world version held.0 c at held.2 k n.agent (agent_at nodes k n there) held.1 in
      sym (f.2 ∙ rows_now old.history are.world.lead.history.numbered)

  -- a change is accepted
  abbrev now_kept : List Item → Kept
  now_kept c = record { last = kept.last + 1; changes = with_newest kept.changes c }

  delivers : (c : List Item) (mid : List Node) (ready : List (Option Rewire)) → agents_of mid ≡ agents_of nodes → AreToldBy manual (version + 1) (after rows c) mid ready
      → take_each (version + 1) ready (agents_of mid) ≡ deliver_by manual (version + 1) c (agents_of nodes)
  delivers c mid ready same told = by manual told
    where
      by : (b : Bool) → AreToldBy b (version + 1) (after rows c) mid ready → take_each (version + 1) ready (agents_of mid) ≡ deliver_by b (version + 1) c (agents_of nodes)
      by true h = none_taken (version + 1) (after rows c) mid ready h ∙ same
      by false h = all_taken (version + 1) c (after rows c) mid ready h (rows_with c mid same) ∙ ap (map (after_change (version + 1) c)) same

  pub accepted : (c : List Item) (mid new : List Node) (ready : List (Option Rewire)) → Fits rows c → AreSound settings (after rows c) → agents_of mid ≡ agents_of nodes
      → AreToldBy manual (version + 1) (after rows c) mid ready → agents_of new ≡ take_each (version + 1) ready (agents_of mid)
      → AreParts settings (after rows c) (version + 1) (record { last = kept.last + 1; changes = with_newest kept.changes c }) new manual
      × (world_seen settings (after rows c) (version + 1) (record { last = kept.last + 1; changes = with_newest kept.changes c }) new manual ≡ step (world_seen settings rows version kept nodes manual) (Accept c))
  accepted c mid new ready fits sound same told is =
      let s : world_seen settings (after rows c) (version + 1) (now_kept c) new manual ≡ step old (Accept c) =
      ap (λ (agents : List Agent). record (world_seen settings (after rows c) (version + 1) (now_kept c) new manual) { agents = agents }) (is ∙ delivers c mid ready same told) in
      (record { world = subst IsWorld (sym s) (step_kept old (Accept c) are.world (fits, sound)); numbered = ap (λ n. n + 1) are.numbered }, s)

  -- ---- frames

  pub names_differ : (name : List ℕ) → count_by (is_named name) (map host_of (agents_of nodes)) ≤ 1
  names_differ name = host_names old are.world.rules are.world.named name

  -- the entries that an event makes are placed where they are kept
  pub fresh_placed : (event : Event) → Each IsAttached (kept_at_hosts (map host_of (agents_of nodes)) (fabric_verdict (map host_of (agents_of nodes)) event).fresh)
  fresh_placed event = stay-placed (map host_of (agents_of nodes)) names_differ (each_map host_of IsAttached (agents_of nodes) are.world.placed) event

  pub sent : (event : Event) (new : List Node) → agents_of new ≡ add_from 0 (agents_of nodes) (fabric_verdict (map host_of (agents_of nodes)) event).fresh
      → AreParts settings rows version kept new manual × (world_seen settings rows version kept new manual ≡ step (world_seen settings rows version kept nodes manual) (Send event))
  sent event new same = by_step (Send event) (add_from 0 (agents_of nodes) (fabric_verdict (map host_of (agents_of nodes)) event).fresh) refl tt new same
