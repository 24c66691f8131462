-- What is done at the place of the one host of a name is done with the host of that name.
use Rattle.std.proofs.Common.{◌≡◌, ◌<◌, ℕ, zero, suc, List, [], ◌∷◌, Bool, true, false, cond, None, Some, refl, ap, sym, subst, ◌∙◌, length, slice_get, slice_index_or, slice_set}
use Rattle.std.specs.Prelude.{find}
use Rattle.std.specs.Option.{option_map}
use Rattle.std.specs.Str.{bytes_eq}
use Rattle.std.proofs.lemmas.Option.{slice_get-get_or, slice_get-map}
use Rattle.api_types.proofs.ListLemmas.{none_some, some_equal}
use Rattle.plane_laws.proofs.Facts.{AtMostOne}
use Rattle.plane_types.specs.Node.{Agent, Node, agents_of}
use Rattle.world_laws.specs.Steps.{at_host}
use Rattle.lab_world.specs.Hosts.{IsNamedAt, at_place, named_node}

-- ---- places

put_at : (f : Agent → Agent) (nodes : List Node) (at : ℕ) (n m : Node) → slice_get nodes at ≡ Some n → m.agent ≡ f n.agent → agents_of (slice_set nodes at m) ≡ at_place at f (agents_of nodes)
put_at f [] at n m h same = none_some n _ h
put_at f (x ∷ nodes) zero n m h same = λ j. (same ∙ ap (λ (y : Node). f y.agent) (sym (some_equal x n h))) j ∷ agents_of nodes
put_at f (x ∷ nodes) (suc at) n m h same = λ j. x.agent ∷ put_at f nodes at n m h same j

-- where the agents are as they were
pub same_agents : (nodes : List Node) (at : ℕ) (n m : Node) → slice_get nodes at ≡ Some n → m.agent ≡ n.agent → agents_of (slice_set nodes at m) ≡ agents_of nodes
same_agents [] at n m h same = none_some n _ h
same_agents (x ∷ nodes) zero n m h same = λ j. (same ∙ ap (λ (y : Node). y.agent) (sym (some_equal x n h))) j ∷ agents_of nodes
same_agents (x ∷ nodes) (suc at) n m h same = λ j. x.agent ∷ same_agents nodes at n m h same j

-- what a borrow of the item at a place is, and what is written through it
pub item_at : (nodes items : List Node) (at : ℕ) (n : Node) → items ≡ nodes → n ≡ slice_index_or items at n → at < length nodes → slice_get nodes at ≡ Some n
item_at nodes items at n same is within =
    subst (λ (ns : List Node). slice_get ns at ≡ Some n) same (slice_get-get_or items at n (subst (λ (ns : List Node). at < length ns) (sym same) within) ∙ ap Some (sym is))

pub done_at : (f : Agent → Agent) (nodes items : List Node) (at : ℕ) (n m : Node) → items ≡ nodes → n ≡ slice_index_or items at n → at < length nodes → m.agent ≡ f n.agent
    → agents_of (slice_set items at m) ≡ at_place at f (agents_of nodes)
done_at f nodes items at n m same is within goes =
    ap (λ (ns : List Node). agents_of (slice_set ns at m)) same ∙ put_at f nodes at n m (item_at nodes items at n same is within) goes

pub agent_at : (nodes : List Node) (at : ℕ) (n : Node) → slice_get nodes at ≡ Some n → slice_get (agents_of nodes) at ≡ Some n.agent
agent_at nodes at n h = slice_get-map (λ (x : Node). x.agent) nodes at ∙ ap (option_map (λ (x : Node). x.agent)) h

-- ---- names

abbrev Named : List ℕ → Agent → Bool
Named name a = bytes_eq name a.name

none_parts : (name : List ℕ) (x : Agent) (rest : List Agent) → find (Named name) (x ∷ rest) ≡ None → (Named name x ≡ false) × (find (Named name) rest ≡ None)
none_parts name x rest h = by (Named name x) refl h
  where
    by : (b : Bool) → Named name x ≡ b → cond b (Some x) (find (Named name) rest) ≡ None → (Named name x ≡ false) × (find (Named name) rest ≡ None)
    by true e g = absurd cc
    by false e g = (e, g)

-- a host of the name is found
is_found : (name : List ℕ) (agents : List Agent) (at : ℕ) (a : Agent) → slice_get agents at ≡ Some a → Named name a ≡ true → find (Named name) agents ≡ None → ⊥
is_found name [] at a h t none = none_some a ⊥ h
is_found name (x ∷ rest) zero a h t none = let p = none_parts name x rest none in let s : x ≡ a = some_equal x a h in let e : Named name a ≡ false = subst (λ (y : Agent). Named name y ≡ false) s p.0 in cc
is_found name (x ∷ rest) (suc at) a h t none = is_found name rest at a h t (none_parts name x rest none).1

unnamed : (name : List ℕ) (f : Agent → Agent) (agents : List Agent) → find (Named name) agents ≡ None → at_host name f agents ≡ agents
unnamed name f [] h = refl
unnamed name f (x ∷ rest) h = let p = none_parts name x rest h in λ j. cond (p.0 j) (f x) x ∷ unnamed name f rest p.1 j

-- where one of the rest has the name the first has another
first_other : (name : List ℕ) (x : Agent) (rest : List Agent) (at : ℕ) (a : Agent) → AtMostOne (Named name) (x ∷ rest) → slice_get rest at ≡ Some a → Named name a ≡ true → Named name x ≡ false
first_other name x rest at a once h t = by (Named name x) refl
  where
    by : (b : Bool) → Named name x ≡ b → b ≡ false
    by false e = refl
    by true e = absurd (is_found name rest at a h t (once.0 e))

place_is : (name : List ℕ) (f : Agent → Agent) (agents : List Agent) (at : ℕ) (a : Agent) → AtMostOne (Named name) agents → slice_get agents at ≡ Some a → Named name a ≡ true → at_place at f agents ≡ at_host name f agents
place_is name f [] at a once h t = none_some a _ h
place_is name f (x ∷ rest) zero a once h t =
    let here : Named name x ≡ true = subst (λ (y : Agent). Named name y ≡ true) (sym (some_equal x a h)) t in
    sym (λ j. cond (here j) (f x) x ∷ unnamed name f rest (once.0 here) j)
place_is name f (x ∷ rest) (suc at) a once h t =
    let other = first_other name x rest at a once h t in
    (λ j. x ∷ place_is name f rest at a once.1 h t j) ∙ sym (λ j. cond (other j) (f x) x ∷ at_host name f rest)

find_one : (name : List ℕ) (agents : List Agent) (at : ℕ) (a : Agent) → AtMostOne (Named name) agents → slice_get agents at ≡ Some a → Named name a ≡ true → find (Named name) agents ≡ Some a
find_one name [] at a once h t = none_some a _ h
find_one name (x ∷ rest) zero a once h t =
    let is : x ≡ a = some_equal x a h in
    let here : Named name x ≡ true = subst (λ (y : Agent). Named name y ≡ true) (sym is) t in
    ap (λ (b : Bool). cond b (Some x) (find (Named name) rest)) here ∙ ap Some is
find_one name (x ∷ rest) (suc at) a once h t =
    let other = first_other name x rest at a once h t in
    ap (λ (b : Bool). cond b (Some x) (find (Named name) rest)) other ∙ find_one name rest at a once.1 h t

-- the host at a place is the one of its name
pub found_at : (name : List ℕ) (nodes : List Node) (at : ℕ) → AtMostOne (Named name) (agents_of nodes) → IsNamedAt name nodes at → (n : Node) × (slice_get nodes at ≡ Some n) × (find (Named name) (agents_of nodes) ≡ Some n.agent)
found_at name nodes at once there = (there.0, there.1, find_one name (agents_of nodes) at there.0.agent once (agent_at nodes at there.0 there.1) there.2)

pub place_named : (name : List ℕ) (f : Agent → Agent) (at : ℕ) (nodes : List Node) → AtMostOne (Named name) (agents_of nodes) → IsNamedAt name nodes at → at_place at f (agents_of nodes) ≡ at_host name f (agents_of nodes)
place_named name f at nodes once there = place_is name f (agents_of nodes) at there.0.agent once (agent_at nodes at there.0 there.1) there.2

pub none_named : (name : List ℕ) (nodes : List Node) → named_node name nodes ≡ None → find (Named name) (agents_of nodes) ≡ None
none_named name [] h = refl
none_named name (n ∷ nodes) h = by (bytes_eq name n.agent.name) h (none_named name nodes)
  where
    by : (b : Bool) → cond b (Some n) (named_node name nodes) ≡ None → (named_node name nodes ≡ None → find (Named name) (agents_of nodes) ≡ None)
        → cond b (Some n.agent) (find (Named name) (agents_of nodes)) ≡ None
    by true g rest = absurd cc
    by false g rest = rest g

pub some_named : (name : List ℕ) (nodes : List Node) (n : Node) → named_node name nodes ≡ Some n → find (Named name) (agents_of nodes) ≡ Some n.agent
some_named name [] n h = absurd cc
some_named name (x ∷ nodes) n h = by (bytes_eq name x.agent.name) h (some_named name nodes n)
  where
    by : (b : Bool) → cond b (Some x) (named_node name nodes) ≡ Some n → (named_node name nodes ≡ Some n → find (Named name) (agents_of nodes) ≡ Some n.agent)
        → cond b (Some x.agent) (find (Named name) (agents_of nodes)) ≡ Some n.agent
    by true g rest = ap Some (ap (λ (y : Node). y.agent) (some_equal x n g))
    by false g rest = rest g
