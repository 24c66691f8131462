-- The state of an agent by what code has of it.
use Rattle.std.proofs.Common.{◌≡◌, ◌∙◌, ◌+◌, ◌++◌, ◌==◌, ℕ, suc, Bool, List, [], true, false, true≢false, Option, Some, None, option_map, ap, sym, subst, refl, arith}
use Rattle.std.specs.Prelude.{◌&&◌, Err, Ok, OnErr, Result}
use Rattle.std.proofs.lemmas.Bool.Decides.{nat_tests}
use Rattle.net_settings.specs.Settings.{SettingsParts}
use Rattle.plane_types.specs.Node.{Agent, Node, after_resync, first_agent}
use Rattle.api_types.specs.RowLists.{RowLists}
use Rattle.api_types.proofs.ListLemmas.{none_some, some_equal}
use Rattle.wire_types.specs.declared.ask.WireAsk.TheVariants as ask
use Rattle.api_types.specs.declared.page.PageRow.{PageRow}
use Rattle.wire_laws.specs.Hearing.{agent_with, without_draft}
use Rattle.wire_laws.specs.Promises.{held_by}
use Rattle.wire_laws.specs.WireStates.{Check as Checks, Draft as Drafts, Held, Lost, WireState, agent_of, ask_of}
use Rattle.agent_wire.specs.HostAgents.{HostAgent}
use Rattle.agent_wire.specs.Phases.{HasNode, HoldsItsRows, IsInState, agent_in, awaits_change, awaits_page, can_go_on, checking, has_next, has_room, is_asking, is_drafting, is_following, is_next, next_ask, state_of, with_page}
use Rattle.agent_wire.specs.Snapshots.{drafted}
use Rattle.agent_wire.specs.declared.agent.Phase.{Phase}
use Rattle.agent_wire.specs.declared.agent.Phase.TheVariants.{Check, Draft, Follow}

-- what holds at all holds in an error
pub on_err : {T E : Type 0} (r : Result T E) (P : Type 0) → P → OnErr r P
on_err (Ok x) P p = tt
on_err (Err e) P p = p

pub agent_is : (node : Option Node) (phase : Phase) → agent_of (state_of node phase) ≡ agent_in node
agent_is None Check = refl
agent_is None (Draft version number rows) = refl
agent_is None Follow = refl
agent_is (Some n) Check = refl
agent_is (Some n) (Draft version number rows) = refl
agent_is (Some n) Follow = refl

-- ---- what it asks

pub asks_version : (node : Option Node) → ask.Version ≡ ask_of (state_of node Check)
asks_version None = refl
asks_version (Some n) = refl

pub asks_next : (node : Option Node) → next_ask (held_by (state_of node Follow)) ≡ ask_of (state_of node Follow)
asks_next None = refl
asks_next (Some n) = refl

-- ---- tests

pub is_check : (node : Option Node) → true ≡ is_asking (state_of node Check)
is_check None = refl
is_check (Some n) = refl

pub no_check : (node : Option Node) → HasNode node Follow → false ≡ is_asking (state_of node Follow)
no_check None there = absurd there
no_check (Some n) there = refl

pub is_follow : (node : Option Node) → HasNode node Follow → true ≡ is_following (state_of node Follow)
is_follow None there = absurd there
is_follow (Some n) there = refl

pub no_follow : (node : Option Node) → false ≡ is_following (state_of node Check)
no_follow None = refl
no_follow (Some n) = refl

pub checks_no_pages : (node : Option Node) → false ≡ is_drafting (state_of node Check)
checks_no_pages None = refl
checks_no_pages (Some n) = refl

pub follows_no_pages : (node : Option Node) → false ≡ is_drafting (state_of node Follow)
follows_no_pages None = refl
follows_no_pages (Some n) = refl

pub checks_awaits : (node : Option Node) (v k : ℕ) → false ≡ awaits_page v k (state_of node Check)
checks_awaits None v k = refl
checks_awaits (Some n) v k = refl

pub follows_awaits : (node : Option Node) (v k : ℕ) → false ≡ awaits_page v k (state_of node Follow)
follows_awaits None v k = refl
follows_awaits (Some n) v k = refl

pub same_version : (a b c d : ℕ) → a ≡ b → (c == d) ≡ (a == b) && (c == d)
same_version a b c d e = let same : (a == b) ≡ true = grind (arith, nat_tests, e) in ap (λ (t : Bool). t && (c == d)) (sym same)

pub other_version : (a b c d : ℕ) → (a ≡ b → ⊥) → (a == b) ≡ (a == b) && (c == d)
other_version a b c d differ = let other : (a == b) ≡ false = grind (arith, nat_tests, differ) in other ∙ ap (λ (t : Bool). t && (c == d)) (sym other)

pub checks_drafted : (node : Option Node) → [] ≡ drafted (state_of node Check)
checks_drafted None = refl
checks_drafted (Some n) = refl

pub follows_drafted : (node : Option Node) → [] ≡ drafted (state_of node Follow)
follows_drafted None = refl
follows_drafted (Some n) = refl

pub room_is : (node : Option Node) (phase : Phase) → has_room (state_of node phase) ≡ has_next phase
room_is None Check = refl
room_is None (Draft version number rows) = refl
room_is None Follow = refl
room_is (Some n) Check = refl
room_is (Some n) (Draft version number rows) = refl
room_is (Some n) Follow = refl

-- ---- states that are told by a test

pub asking_is : (node : Option Node) (phase : Phase) → HasNode node phase → is_asking (state_of node phase) ≡ true → state_of node phase ≡ checking (agent_in node)
asking_is n Check there e = refl
asking_is n (Draft version number rows) there e = cc
asking_is None Follow there e = absurd there
asking_is (Some n) Follow there e = cc

pub following_is : (state : WireState) → is_following state ≡ true → (a : Agent) × (agent_of state ≡ Some a) × (state ≡ Held a)
following_is Lost e = cc
following_is (Checks a) e = cc
following_is (Drafts a version number rows) e = cc
following_is (Held a) e = (a, refl, refl)

-- the next change
pub next_awaited : (state : WireState) (number : ℕ) → is_following state ≡ true → is_next (held_by state) number ≡ awaits_change number state
next_awaited Lost number e = cc
next_awaited (Checks a) number e = cc
next_awaited (Drafts a version n rows) number e = cc
next_awaited (Held a) number e = refl

pub none_awaited : (state : WireState) (number : ℕ) → is_following state ≡ false → false ≡ awaits_change number state
none_awaited Lost number e = refl
none_awaited (Checks a) number e = refl
none_awaited (Drafts a version n rows) number e = refl
none_awaited (Held a) number e = cc

-- the version comes first again
pub drafting_is : (state : WireState) → is_drafting state ≡ true → (v : ℕ) × (n : ℕ) × (rows : List PageRow) × (state ≡ Drafts (agent_of state) v n rows)
drafting_is Lost e = cc
drafting_is (Checks a) e = cc
drafting_is (Drafts a version number rows) e = (version, number, rows, refl)
drafting_is (Held a) e = cc

pub without_is : (a : Option Agent) → checking a ≡ without_draft a
without_is None = refl
without_is (Some a) = refl

-- ---- rows that were put in place

-- a node is given rows, and so is one that is made for them
pub given_again : (node : Option Node) (old new : Node) (host : List ℕ) (version : ℕ) (rows : RowLists) → node ≡ Some old → new.agent ≡ after_resync version rows old.agent
    → Some new.agent ≡ Some (agent_with host version rows (agent_in node))
given_again given old new host version rows is put = ap Some put ∙ ap (λ o. Some (agent_with host version rows (agent_in o))) (sym is)

pub given_first : (node : Option Node) (new : Node) (name host : List ℕ) (version : ℕ) (rows : RowLists) → node ≡ None → name ≡ host → new.agent ≡ first_agent rows version name
    → Some new.agent ≡ Some (agent_with host version rows (agent_in node))
given_first given new name host version rows is same put =
    ap Some (put ∙ ap (first_agent rows version) same) ∙ ap (λ o. Some (agent_with host version rows (agent_in o))) (sym is)

pub holds_rows : (node : Option Node) (host : List ℕ) (version : ℕ) (rows : RowLists) (old : Option Agent) → agent_in node ≡ Some (agent_with host version rows old) → IsInState node Follow
holds_rows None host version rows old e = none_some (agent_with host version rows old) (IsInState None Follow) e
holds_rows (Some n) host version rows old e = (held old (some_equal n.agent (agent_with host version rows old) e), tt)
  where
    held : (old : Option Agent) → n.agent ≡ agent_with host version rows old → n.agent.held ≡ Some n.agent.version
    held None same = ap (λ (a : Agent). a.held) same ∙ ap (λ (a : Agent). Some a.version) (sym same)
    held (Some a) same = ap (λ (a : Agent). a.held) same ∙ ap (λ (a : Agent). Some a.version) (sym same)

pub followed : (node : Option Node) (a : Agent) → agent_in node ≡ Some a → state_of node Follow ≡ Held a
followed None a e = none_some a _ e
followed (Some n) a e = ap Held (some_equal n.agent a e)

pub version_of : (host : List ℕ) (version : ℕ) (rows : RowLists) (old : Option Agent) → (agent_with host version rows old).version ≡ version
version_of host version rows None = refl
version_of host version rows (Some a) = refl

-- ---- what an agent's value says, by its parts

-- an agent with this node, which waits for this
abbrev pub host_agent : List ℕ → SettingsParts → Option Node → Phase → HostAgent
host_agent host settings node phase = record { host = host; settings = settings; state = state_of node phase }

module _ (host : List ℕ) (settings : SettingsParts) (node : Option Node) (phase : Phase) (old : HostAgent) (view : host_agent host settings node phase ≡ old) where
  -- by what it waits for
  pub seen : {X : Type 0} (f : WireState → X) (x : X) (p : Phase) → phase ≡ p → x ≡ f (state_of node p) → x ≡ f old.state
  seen f x p is e = e ∙ ap (λ q. f (state_of node q)) (sym is) ∙ ap (λ (o : HostAgent). f o.state) view

  pub agent_seen : agent_in node ≡ agent_of old.state
  agent_seen = sym (agent_is node phase) ∙ ap (λ (o : HostAgent). agent_of o.state) view

  pub agent_none : node ≡ None → None ≡ agent_of old.state
  agent_none is = ap agent_in (sym is) ∙ agent_seen

  pub agent_some : (n : Node) → node ≡ Some n → Some n.agent ≡ agent_of old.state
  agent_some n is = ap agent_in (sym is) ∙ agent_seen

  pub held_none : node ≡ None → None ≡ held_by old.state
  held_none is = ap (option_map (λ (a : Agent). a.version)) (agent_none is)

  pub held_some : (n : Node) → node ≡ Some n → HoldsItsRows node → n.agent.held ≡ held_by old.state
  held_some n is h = subst HoldsItsRows is h ∙ ap (option_map (λ (a : Agent). a.version)) (agent_some n is)

  pub asks_on : phase ≡ Follow → next_ask (held_by old.state) ≡ ask_of old.state
  asks_on is =
      subst (λ state. next_ask (held_by state) ≡ ask_of state) (ap (state_of node) (sym is) ∙ ap (λ (o : HostAgent). o.state) view) (asks_next node)

  -- who can be followed holds something
  pub has_node : (first last : ℕ) → can_go_on (held_by old.state) first last ≡ true → HasNode node Follow
  has_node first last goes = there node agent_seen
    where
      there : (n : Option Node) → agent_in n ≡ agent_of old.state → HasNode n Follow
      there None e = true≢false (sym goes ∙ ap (λ o. can_go_on (option_map (λ (a : Agent). a.version) o) first last) (sym e))
      there (Some n) e = tt

  -- a draft gets one more page
  pub room_left : has_room old.state ≡ true → has_next phase ≡ true
  room_left room = sym (room_is node phase) ∙ ap (λ (o : HostAgent). has_room o.state) view ∙ room

  pub page_put : (fresh : Phase) (more : List PageRow) → state_of node fresh ≡ with_page more (state_of node phase) → host_agent host settings node fresh ≡ record old { state = with_page more old.state }
  page_put fresh more put =
      let now : state_of node fresh ≡ with_page more old.state = put ∙ ap (λ (o : HostAgent). with_page more o.state) view in
      (λ j. record { host = host; settings = settings; state = now j }) ∙ ap (λ (o : HostAgent). record o { state = with_page more old.state }) view

  pub page_kept : (fresh : Phase) → state_of node fresh ≡ state_of node phase → host_agent host settings node fresh ≡ old
  page_kept fresh same = (λ j. record { host = host; settings = settings; state = same j }) ∙ view

-- by what a draft has
module _ (phase p : Phase) (v n : ℕ) (items : List PageRow) (is : phase ≡ p) (at : (node : Option Node) → state_of node p ≡ Drafts (agent_in node) v n items) where
  pub page_more : (more new : List PageRow) → new ≡ items ++ more → (node : Option Node) → Drafts (agent_in node) v (n + 1) new ≡ with_page more (state_of node phase)
  page_more more new put held =
      let one : n + 1 ≡ suc n = omega arith in
      (λ j. Drafts (agent_in held) v (one j) (put j)) ∙ sym (ap (λ q. with_page more (state_of held q)) is ∙ ap (with_page more) (at held))

  pub page_same : (new : List PageRow) → new ≡ items → (node : Option Node) → Drafts (agent_in node) v n new ≡ state_of node phase
  page_same new same held = ap (Drafts (agent_in held) v n) same ∙ sym (ap (state_of held) is ∙ at held)
