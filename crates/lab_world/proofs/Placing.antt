-- A front of placed entries is placed, and what a list holds at a place.
use Rattle.std.proofs.Common.{rules, ◌≡◌, ℕ, zero, suc, ◌+◌, ◌<◌, ◌≤◌, List, [], ◌∷◌, ◌++◌, Bool, cond, Option, Some, refl, ap, sym, subst, ◌∙◌, arith, drop, length, map, slice_get, slice_index_or}
use Rattle.std.specs.Prelude.{count_by}
use Rattle.std.specs.List.{filter_map}
use Rattle.std.specs.Option.{option_map}
use Rattle.std.proofs.Math.Seq.{drop-cons}
use Rattle.std.proofs.lemmas.List.{append_assoc}
use Rattle.std.proofs.lemmas.List.Sums.{sum_by-append}
use Rattle.std.proofs.lemmas.Option.{slice_get-get_or, slice_get-map}
use Rattle.api_types.proofs.ListLemmas.{none_some, some_equal}
use Rattle.api_types.specs.Lists.{Each}
use Rattle.plane_types.specs.Hosts.{Host}
use Rattle.plane_types.specs.Attached.{IsAttached, meets, translates}
use Rattle.plane_types.specs.Verdicts.{with_made, with_made_from, made_at}
use Rattle.plane_types.specs.declared.entry.Entry.{Entry}
use Rattle.plane_types.specs.declared.lists.TableLists.{TableLists}
use Rattle.plane_types.specs.declared.verdict.Made.{Made}
use Rattle.plane_types.specs.Node.{Agent, Node, Ready, agents_of, host_of, host_with, with_entries}
use Rattle.lab_world.specs.Hosts.{AreFor, made_for, name_and_tags}
use Rattle.lab_world.proofs.One.{agent_at}

-- ---- entries

fewer : (test : Entry → Bool) (es more : List Entry) → count_by test (es ++ more) ≤ 1 → count_by test es ≤ 1
fewer test es more h = omega (arith, h, sum_by-append (λ e. cond {A = ℕ} (test e) 1 0) es more)

in_front : {X : Type 0} (es more : List X) (k : ℕ) (e : X) → slice_get es k ≡ Some e → slice_get (es ++ more) k ≡ Some e
in_front [] more k e at = none_some e _ at
in_front (x ∷ es) more zero e at = at
in_front (x ∷ es) more (suc k) e at = in_front es more k e at

front_placed : (name : List ℕ) (t : TableLists) (es more : List Entry) → IsAttached (record { name = name; tables = t; entries = es ++ more }) → IsAttached (record { name = name; tables = t; entries = es })
front_placed name t es more h = record {
  stand = λ k e at. h.stand k e (in_front es more k e at);
  once_outside = λ router kind outer port far far_port. fewer (meets router kind outer port far far_port) es more (h.once_outside router kind outer port far far_port);
  once_inside = λ router key outer. fewer (translates router key outer) es more (h.once_inside router key outer);
}

-- the first that a test gives something for
first_given : {X Y : Type 0} (f : X → Option Y) (x : X) (xs : List X) (y : Y) → f x ≡ Some y → filter_map f (x ∷ xs) ≡ y ∷ filter_map f xs
first_given f x xs y h = by (f x) refl
  where
    by : (o : Option _) → f x ≡ o → filter_map f (x ∷ xs) ≡ y ∷ filter_map f xs
    by o is = search (rules, h, is)

-- an entry that is made next can be added
pub next_placed : (n old : Agent) (place : ℕ) (fresh : List Made) (i : ℕ) (m : Made) → n ≡ with_entries n.entries old
    → n.entries ++ filter_map (made_at place) (drop i fresh) ≡ old.entries ++ filter_map (made_at place) fresh → i < length fresh → m ≡ slice_index_or fresh i m → made_at place m ≡ Some m.entry
    → IsAttached (host_with old (old.entries ++ filter_map (made_at place) fresh)) → IsAttached (host_with n (n.entries ++ m.entry ∷ []))
next_placed n old place fresh i m same all within is hit placed =
    let f : Made → Option Entry = made_at place in
    let split : drop i fresh ≡ m ∷ drop (suc i) fresh = drop-cons fresh i m within ∙ ap (λ x. x ∷ drop (suc i) fresh) (sym is) in
    let shown : filter_map f (drop i fresh) ≡ m.entry ∷ filter_map f (drop (suc i) fresh) = ap (filter_map f) split ∙ first_given f m (drop (suc i) fresh) m.entry hit in
    let whole : (n.entries ++ m.entry ∷ []) ++ filter_map f (drop (suc i) fresh) ≡ old.entries ++ filter_map f fresh =
    append_assoc n.entries (m.entry ∷ []) (filter_map f (drop (suc i) fresh)) ∙ ap (λ es. n.entries ++ es) (sym shown) ∙ all in
    let here : host_with n ((n.entries ++ m.entry ∷ []) ++ filter_map f (drop (suc i) fresh)) ≡ host_with old (old.entries ++ filter_map f fresh) =
    ap (λ x. host_with x ((n.entries ++ m.entry ∷ []) ++ filter_map f (drop (suc i) fresh))) same ∙ ap (host_with old) whole in
    front_placed n.name n.tables (n.entries ++ m.entry ∷ []) (filter_map f (drop (suc i) fresh)) (subst IsAttached (sym here) placed)

-- ---- places

pub at_host : {T : Type 0} (f : Host → T) (nodes : List Node) (k : ℕ) (n : Node) → k < length nodes → n ≡ slice_index_or nodes k n
    → slice_get (map f (map host_of (agents_of nodes))) k ≡ Some (f (host_of n.agent))
at_host f nodes k n within is =
    let at : slice_get (agents_of nodes) k ≡ Some n.agent = agent_at nodes k n (slice_get-get_or nodes k n within ∙ ap Some (sym is)) in
    slice_get-map f (map host_of (agents_of nodes)) k ∙ ap (option_map f) (slice_get-map host_of (agents_of nodes) k ∙ ap (option_map host_of) at)

pub at_front : {X : Type 0} (xs : List X) (i : ℕ) (x : X) (rest : List X) → drop i xs ≡ x ∷ rest → slice_get xs i ≡ Some x
at_front [] zero x rest h = absurd cc
at_front [] (suc i) x rest h = absurd cc
at_front (y ∷ xs) zero x rest h = cc
at_front (y ∷ xs) (suc i) x rest h = at_front xs i x rest h

-- what is left of what was made ready begins with what is for the host at this place
pub next_ready : (ready : List Ready) (old items : List Node) (i : ℕ) (r : Ready) (rest : List Ready) (n : Node) → AreFor ready old → slice_get items i ≡ slice_get old i → i < length items
    → n ≡ slice_index_or items i n → drop i ready ≡ r ∷ rest → made_for r ≡ name_and_tags n.agent
next_ready ready old items i r rest n are same within is split =
    let at : slice_get old i ≡ Some n = sym same ∙ slice_get-get_or items i n within ∙ ap Some (sym is) in
    some_equal (made_for r) (name_and_tags n.agent)
    (sym (slice_get-map made_for ready i ∙ ap (option_map made_for) (at_front ready i r rest split)) ∙ ap (λ xs. slice_get xs i) are
    ∙ slice_get-map (λ (m : Node). name_and_tags m.agent) old i ∙ ap (option_map (λ (m : Node). name_and_tags m.agent)) at)

pub rest_behind : {X : Type 0} (xs : List X) (i : ℕ) (x : X) (rest : List X) → drop i xs ≡ x ∷ rest → rest ≡ drop (suc i) xs
rest_behind [] zero x rest h = absurd cc
rest_behind [] (suc i) x rest h = absurd cc
rest_behind (y ∷ xs) zero x rest h = cc
rest_behind (y ∷ xs) (suc i) x rest h = rest_behind xs i x rest h

-- each host keeps what it made, places counted from any
kept_at : (place : ℕ) (hosts : List Host) (fresh : List Made) (k at : ℕ) (h : Host) → at ≡ place + k → slice_get hosts k ≡ Some h
    → slice_get (with_made_from place hosts fresh) k ≡ Some (record { name = h.name; tables = h.tables; entries = h.entries ++ filter_map (made_at at) fresh })
kept_at place [] fresh k at h is here = none_some h _ here
kept_at place (g ∷ hosts) fresh zero at h is here =
    let same : g ≡ h = some_equal g h here in
    let first : place ≡ at = omega (arith, is) in
    ap Some ((λ j. record { name = (same j).name; tables = (same j).tables; entries = (same j).entries ++ filter_map (made_at (first j)) fresh }))
kept_at place (g ∷ hosts) fresh (suc k) at h is here = kept_at (suc place) hosts fresh k at h (omega (arith, is)) here

pub will_be_placed : (old items : List Node) (fresh : List Made) (i : ℕ) (n : Node) → Each IsAttached (with_made (map host_of (agents_of old)) fresh) → slice_get items i ≡ slice_get old i → i < length items
    → n ≡ slice_index_or items i n → IsAttached (host_with n.agent (n.agent.entries ++ filter_map (made_at i) fresh))
will_be_placed old items fresh i n placed same within is =
    let at : slice_get (agents_of old) i ≡ Some n.agent = agent_at old i n (sym same ∙ slice_get-get_or items i n within ∙ ap Some (sym is)) in
    let there : slice_get (map host_of (agents_of old)) i ≡ Some (host_of n.agent) = slice_get-map host_of (agents_of old) i ∙ ap (option_map host_of) at in
    placed i (host_with n.agent (n.agent.entries ++ filter_map (made_at i) fresh)) (kept_at 0 (map host_of (agents_of old)) fresh i i (host_of n.agent) (omega arith) there)
