-- What is done with all hosts one by one, as the world sees them.
use Rattle.std.proofs.Common.{◌≡◌, ℕ, zero, suc, ◌+◌, ◌<◌, List, [], ◌∷◌, ◌++◌, Bool, true, false, cond, Option, None, Some, refl, ap, sym, subst, ◌∙◌, arith, length, map, slice_get, slice_set}
use Rattle.std.specs.Prelude.{Err, IfSome, Ok, OnErr, Result, flat_map}
use Rattle.std.specs.List.{filter_map}
use Rattle.std.specs.Str.{bytes_eq}
use Rattle.api_types.specs.Lists.{Each}
use Rattle.api_types.specs.RowLists.{RowLists}
use Rattle.plane_types.specs.Hosts.{all_entries}
use Rattle.plane_types.specs.Node.{Agent, Node, Ready, after_resync, agents_of, host_of, ready_for, with_entries}
use Rattle.plane_types.specs.Verdicts.{made_at}
use Rattle.plane_types.specs.declared.verdict.Made.{Made}
use Rattle.world_laws.specs.Steps.{add_from, after_settle, at_host, holds}
use Rattle.agent_node.specs.Rewired.{CanTake, after_taking}
use Rattle.agent_node.specs.declared.rewire.Rewire.{Rewire}
use Rattle.lab_world.specs.Hosts.{AreToldBy, CanTakeAll, IsToldBy, made_for, name_and_tags, settle_each, state_at_version, state_with, take_each}
use Rattle.lab_world.specs.Lab.{host_state}
use Rattle.api_types.proofs.ListLemmas.{none_some, some_equal}
use Rattle.lab_world.proofs.SoFar.{Stepwise}

later : {S : Type 0} (step : ℕ → S → S → Type 0) (x y : S) (old new : List S) → Stepwise step (x ∷ old) (y ∷ new) → Stepwise (λ k. step (suc k)) old new
later step x y old new s = record { length = omega (arith, s.length); each = λ k a b at bt. s.each (suc k) a b at bt }

pub entries_joined : (nodes : List Node) → flat_map (λ (n : Node). n.agent.entries) nodes ≡ all_entries (map host_of (agents_of nodes))
entries_joined [] = refl
entries_joined (n ∷ nodes) = λ j. n.agent.entries ++ entries_joined nodes j

-- ---- told of a change

-- what holds anyway holds after an error
pub still_on_err : {X E : Type 0} (r : Result X E) (P : Type 0) → P → OnErr r P
still_on_err (Ok x) P h = tt
still_on_err (Err e) P h = h

-- what holds of rows, where some are given
pub given_at : {X : Type 0} (o : Option X) (P Q : X → Type 0) → ((x : X) → P x → Q x) → IfSome o P → IfSome o Q
given_at None P Q f h = tt
given_at (Some x) P Q f h = f x h

-- a host takes what was made ready for it, if anything
abbrev pub IsTakenAt : ℕ → List (Option Rewire) → ℕ → Node → Node → Type 0
IsTakenAt number ready k n m = (o : Option Rewire) → slice_get ready k ≡ Some o → m.agent ≡ after_taking number o n.agent

pub take_long : (nodes : List Node) (ready : List (Option Rewire)) → CanTakeAll nodes ready → length ready ≡ length nodes
take_long [] [] h = refl
take_long [] (o ∷ ready) h = absurd h
take_long (n ∷ nodes) [] h = absurd h
take_long (n ∷ nodes) (o ∷ ready) h = ap (λ k. suc k) (take_long nodes ready h.1)

pub take_at : (nodes : List Node) (ready : List (Option Rewire)) → CanTakeAll nodes ready → (k : ℕ) (o : Option Rewire) (n : Node)
    → slice_get ready k ≡ Some o → slice_get nodes k ≡ Some n → CanTake n o
take_at [] [] h k o n at bt = cc
take_at [] (p ∷ ready) h k o n at bt = absurd h
take_at (x ∷ nodes) [] h k o n at bt = absurd h
take_at (x ∷ nodes) (p ∷ ready) h zero o n at bt = subst (λ (m : Node). CanTake m o) (some_equal x n bt) (subst (CanTake x) (some_equal p o at) h.0)
take_at (x ∷ nodes) (p ∷ ready) h (suc k) o n at bt = take_at nodes ready h.1 k o n at bt

pub all_taken : (number : ℕ) (ready : List (Option Rewire)) (old new : List Node) → length ready ≡ length old → Stepwise (IsTakenAt number ready) old new
    → agents_of new ≡ take_each number ready (agents_of old)
all_taken number [] [] [] long s = refl
all_taken number [] [] (y ∷ new) long s = absurd (omega (arith, s.length))
all_taken number [] (x ∷ old) new long s = absurd (omega (arith, long))
all_taken number (o ∷ ready) [] new long s = absurd (omega (arith, long))
all_taken number (o ∷ ready) (x ∷ old) [] long s = absurd (omega (arith, s.length))
all_taken number (o ∷ ready) (x ∷ old) (y ∷ new) long s =
    λ j. s.each 0 x y refl refl o refl j ∷ all_taken number ready old new (omega (arith, long)) (later (IsTakenAt number (o ∷ ready)) x y old new s) j

-- what was made ready at the hosts so far, with that at the next one
pub one_told : (P : Node → Option Rewire → Type 0) (nodes : List Node) (ready : List (Option Rewire)) (i : ℕ) (m : Node) (o : Option Rewire) → length ready ≡ i
    → ((k : ℕ) (n : Node) (p : Option Rewire) → slice_get nodes k ≡ Some n → slice_get ready k ≡ Some p → P n p) → P m o → i < length nodes
    → (k : ℕ) (n : Node) (p : Option Rewire) → slice_get (slice_set nodes i m) k ≡ Some n → slice_get (ready ++ o ∷ []) k ≡ Some p → P n p
one_told P [] ready i m o long all one within k n p at bt = absurd (omega (arith, within))
one_told P (x ∷ nodes) [] zero m o long all one within zero n p at bt = subst (P n) (some_equal o p bt) (subst (λ (y : Node). P y o) (some_equal m n at) one)
one_told P (x ∷ nodes) [] zero m o long all one within (suc k) n p at bt = none_some p _ bt
one_told P (x ∷ nodes) [] (suc i) m o long all one within k n p at bt = absurd (omega (arith, long))
one_told P (x ∷ nodes) (q ∷ ready) zero m o long all one within k n p at bt = absurd (omega (arith, long))
one_told P (x ∷ nodes) (q ∷ ready) (suc i) m o long all one within zero n p at bt = all 0 n p at bt
one_told P (x ∷ nodes) (q ∷ ready) (suc i) m o long all one within (suc k) n p at bt =
    one_told P nodes ready i m o (omega (arith, long)) (λ j y r from to. all (suc j) y r from to) one (omega (arith, within)) k n p at bt

pub all_told : (manual : Bool) (number : ℕ) (rows : RowLists) (nodes : List Node) (ready : List (Option Rewire)) → length ready ≡ length nodes
    → ((k : ℕ) (n : Node) (p : Option Rewire) → slice_get nodes k ≡ Some n → slice_get ready k ≡ Some p → IsToldBy manual number rows n p) → AreToldBy manual number rows nodes ready
all_told manual number rows [] [] long all = tt
all_told manual number rows [] (o ∷ ready) long all = absurd (omega (arith, long))
all_told manual number rows (x ∷ nodes) [] long all = absurd (omega (arith, long))
all_told manual number rows (x ∷ nodes) (o ∷ ready) long all = (all 0 x o refl refl, all_told manual number rows nodes ready (omega (arith, long)) (λ k n p at bt. all (suc k) n p at bt))

-- ---- settled

-- a host is given the rows that were made ready for it, where it doesn't hold their version
abbrev pub IsSettledAt : ℕ → List Ready → ℕ → Node → Node → Type 0
IsSettledAt version ready k n m = (r : Ready) → slice_get ready k ≡ Some r → m.agent ≡ after_settle version r.rows n.agent

pub all_settled : (version : ℕ) (ready : List Ready) (old new : List Node) → length ready ≡ length old → Stepwise (IsSettledAt version ready) old new
    → agents_of new ≡ settle_each version ready (agents_of old)
all_settled version [] [] [] long s = refl
all_settled version [] [] (y ∷ new) long s = absurd (omega (arith, s.length))
all_settled version [] (x ∷ old) new long s = absurd (omega (arith, long))
all_settled version (r ∷ ready) [] new long s = absurd (omega (arith, long))
all_settled version (r ∷ ready) (x ∷ old) [] long s = absurd (omega (arith, s.length))
all_settled version (r ∷ ready) (x ∷ old) (y ∷ new) long s =
    λ j. s.each 0 x y refl refl r refl j ∷ all_settled version ready old new (omega (arith, long)) (later (IsSettledAt version (r ∷ ready)) x y old new s) j

-- where the same rows were made ready for all
pub settle_ready : (version : ℕ) (rows : RowLists) (agents : List Agent) → settle_each version (map (ready_for version rows) agents) agents ≡ map (after_settle version rows) agents
settle_ready version rows [] = refl
settle_ready version rows (a ∷ agents) = λ j. after_settle version rows a ∷ settle_ready version rows agents j

pub ready_matches : (version : ℕ) (rows : RowLists) (nodes : List Node) → map made_for (map (ready_for version rows) (agents_of nodes)) ≡ map (λ (n : Node). name_and_tags n.agent) nodes
ready_matches version rows [] = refl
ready_matches version rows (n ∷ nodes) = λ j. name_and_tags n.agent ∷ ready_matches version rows nodes j

-- ---- entries

-- a host has the entries that it made of these
abbrev pub IsKeptAt : List Made → ℕ → Node → Node → Type 0
IsKeptAt fresh k n m = m.agent ≡ with_entries (n.agent.entries ++ filter_map (made_at k) fresh) n.agent

added_from : (place : ℕ) (fresh : List Made) (at : ℕ → ℕ) (old new : List Node) → ((k : ℕ) → at k ≡ place + k)
    → Stepwise (λ k. IsKeptAt fresh (at k)) old new → agents_of new ≡ add_from place (agents_of old) fresh
added_from place fresh at [] [] is s = refl
added_from place fresh at [] (y ∷ new) is s = absurd (omega (arith, s.length))
added_from place fresh at (x ∷ old) [] is s = absurd (omega (arith, s.length))
added_from place fresh at (x ∷ old) (y ∷ new) is s =
    let first : at 0 ≡ place = is 0 ∙ omega arith in
    let one : y.agent ≡ with_entries (x.agent.entries ++ filter_map (made_at place) fresh) x.agent =
    s.each 0 x y refl refl ∙ ap (λ k. with_entries (x.agent.entries ++ filter_map (made_at k) fresh) x.agent) first in
    let rest = added_from (suc place) fresh (λ k. at (suc k)) old new (λ k. is (suc k) ∙ omega arith) (later (λ k. IsKeptAt fresh (at k)) x y old new s) in
    λ j. one j ∷ rest j

pub all_added : (fresh : List Made) (old new : List Node) → Stepwise (IsKeptAt fresh) old new → agents_of new ≡ add_from 0 (agents_of old) fresh
all_added fresh old new s = added_from 0 fresh (λ k. k) old new (λ k. omega arith) s

-- ---- states

-- where the hosts of one name are given other parts, by which they hold this
pub states_named : (name : List ℕ) (held : Option ℕ) (g : Agent → Agent) → ((a : Agent) → host_state (g a) ≡ record { name = a.name; held = held }) → (agents : List Agent)
    → map (state_with name held) agents ≡ map host_state (at_host name g agents)
states_named name held g gives [] = refl
states_named name held g gives (a ∷ agents) = λ j. by (bytes_eq name a.name) j ∷ states_named name held g gives agents j
  where
    by : (b : Bool) → record { name = a.name; held = cond b held a.held } ≡ host_state (cond b (g a) a)
    by true = sym (gives a)
    by false = refl

-- and where they hold what they held
pub states_same : (name : List ℕ) (g : Agent → Agent) → ((a : Agent) → host_state (g a) ≡ host_state a) → (agents : List Agent) → map host_state agents ≡ map host_state (at_host name g agents)
states_same name g same [] = refl
states_same name g same (a ∷ agents) = λ j. by (bytes_eq name a.name) j ∷ states_same name g same agents j
  where
    by : (b : Bool) → host_state a ≡ host_state (cond b (g a) a)
    by true = sym (same a)
    by false = refl

settled_name : (version : ℕ) (rows : RowLists) (a : Agent) → (after_settle version rows a).name ≡ a.name
settled_name version rows a = by (holds version a.held)
  where
    by : (b : Bool) → (cond b a (after_resync version rows a)).name ≡ a.name
    by true = refl
    by false = refl

pub states_settled : (version : ℕ) (rows : RowLists) (agents : List Agent) → Each (λ (a : Agent). a.held ≡ Some version) (map (after_settle version rows) agents)
    → map (state_at_version version) agents ≡ map host_state (map (after_settle version rows) agents)
states_settled version rows [] held = refl
states_settled version rows (a ∷ agents) held =
    let name : a.name ≡ (after_settle version rows a).name = sym (settled_name version rows a) in
    let now : Some version ≡ (after_settle version rows a).held = sym (held 0 (after_settle version rows a) refl) in
    λ j. record { name = name j; held = now j } ∷ states_settled version rows agents (λ k b at. held (suc k) b at) j
