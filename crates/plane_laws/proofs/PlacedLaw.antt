-- A run leaves the entries of each host placed, those that it made at the host counted in.
use Rattle.std.proofs.Common.{◌≡◌, ℕ, zero, suc, List, [], ◌∷◌, ◌++◌, Bool, true, false, not, Option, Some, None, refl, ap, sym, subst, ◌∙◌, append_assoc}
use Rattle.std.specs.Prelude.{find, count_by, ◌&&◌, ◌||◌, ◌==◌, if◌then◌else◌, ⊤, is_some}
use Rattle.std.specs.List.{list_any}
use Rattle.std.specs.Str.{bytes_eq}
use Rattle.std.proofs.lemmas.Bool.{eqb-true}
use Rattle.std.proofs.lemmas.List.{append-nil}
use Rattle.std.proofs.lemmas.List.Folds.{list_any-append}
use Rattle.api_types.proofs.ListLemmas.{and_both, or_none, none-any, count-none, once-push, each-push, some_equal}
use Rattle.api_types.proofs.NameLemmas.{ident_same, bytes_same, bytes_itself}
use Rattle.plane_laws.proofs.ListLemmas.{find-only, AllOf-more, each-found}
use Rattle.plane_laws.proofs.MadeLaw.{Admits, IsApart, step-admits}
use Rattle.api_types.specs.Ident.{Ident}
use Rattle.api_types.specs.Table.{ident_eq}
use Rattle.net_addr.specs.Addresses.{addr_eq}
use Rattle.net_addr.proofs.AddrLemmas.{addr_same}
use Rattle.net_addr.specs.declared.address.Addr.{Addr}
use Rattle.plane_types.specs.Ends.{source, destination}
use Rattle.plane_types.specs.Fabric.{FabricFate, Run, after_step, at_inward, at_tap, run_from, fabric_fate, fate_of_run, from_outside, from_tap, next_position, outside, place_trail, step_path, steps_for, fate_after, takes, over_tunnel, walk, over_wire}
use Rattle.plane_types.specs.Hosts.{Host, is_named}
use Rattle.plane_types.specs.Keys.{key_eq, kind_eq, kind_number}
use Rattle.plane_types.specs.Meaning.{life_of}
use Rattle.plane_types.specs.Packets.{is_unsupported}
use Rattle.plane_types.specs.Attached.{IsAttached, is_attached, meets, translates}
use Rattle.plane_types.specs.Places.{End, Next, Place, Step, TapIn, ToTunnel, ToWire, TunnelIn, WireIn}
use Rattle.plane_types.specs.TableStep.{Stepped, inward_at, table_step, tap_at}
use Rattle.plane_types.specs.declared.entry.Entry.{Entry}
use Rattle.plane_types.specs.declared.entry.Entry.TheVariants.{Flow, Snat}
use Rattle.plane_types.specs.declared.event.Event.{Event}
use Rattle.plane_types.specs.declared.event.Event.TheVariants.{FromPort, FromWire}
use Rattle.plane_types.specs.declared.frame.Frame.{Frame}
use Rattle.plane_types.specs.declared.frame.Key.{Key}
use Rattle.plane_types.specs.declared.frame.KeyKind.{KeyKind}
use Rattle.plane_types.specs.declared.table.Carrier.TheVariants.{Wire as ByWire}
use Rattle.api_types.specs.declared.wire.Wire.{Wire}
use Rattle.plane_types.specs.declared.lists.TableLists.{TableLists}
use Rattle.plane_types.specs.declared.verdict.DropCause.TheVariants.{Unsupported}
use Rattle.plane_types.specs.declared.verdict.Outcome.TheVariants.{Dropped}
use Rattle.plane_types.specs.declared.verdict.Toward.{Toward}
use Rattle.plane_laws.proofs.Facts.{AllOf, AtMostOne}

-- what a host of this name made of these entries
abbrev pub made_by : List ℕ → List Entry → List (List ℕ) → List Entry
made_by name [] makers = []
made_by name (e ∷ es) [] = []
made_by name (e ∷ es) (m ∷ ms) = if bytes_eq name m then e ∷ made_by name es ms else made_by name es ms

abbrev pub with_made : List Entry → List (List ℕ) → Host → Host
with_made fresh makers h = record { name = h.name; tables = h.tables; entries = h.entries ++ made_by h.name fresh makers }

-- each entry with its maker
abbrev pub AllMade : (Entry → List ℕ → Type 0) → List Entry → List (List ℕ) → Type 0
AllMade P [] [] = ⊤
AllMade P [] (m ∷ ms) = ⊥
AllMade P (e ∷ es) [] = ⊥
AllMade P (e ∷ es) (m ∷ ms) = P e m × AllMade P es ms

-- the maker is one of the hosts, and has the entry's tap or router
pub record IsMade (hosts : List Host) (e : Entry) (m : List ℕ) : Type 0 where
  pub host : Host
  pub named : find (is_named m) hosts ≡ Some host
  pub placed : is_attached host.tables e ≡ true

pub record RunPlaced (hosts : List Host) (run : Run) : Type 0 where
  pub made : AllMade (IsMade hosts) run.fresh run.makers
  pub all : AllOf (λ x. IsAttached (with_made run.fresh run.makers x)) hosts

-- counting with tests that are alike
count-none-like : {X : Type 0} (p q : X → Bool) (xs : List X) → ((x : X) → p x ≡ q x) → list_any q xs ≡ false → count_by p xs ≡ 0
count-none-like p q xs same none = count-none p xs (λ k x at. same x ∙ none-any q xs none k x at)

-- a test that a translation passes is like the test of that translation's own parts
meets-like : (router : Ident) (kind : KeyKind) (outer port : ℕ) (far : Addr) (far_port : ℕ) (r : Ident) (k : Key) (o p : ℕ) → meets router kind outer port far far_port (Snat r k o p) ≡ true → (e : Entry) → meets router kind outer port far far_port e ≡ meets r k.kind o p (destination k.ends) k.dport e
meets-like router kind outer port far far_port r k o p h (Flow q d x) = refl
meets-like router kind outer port far far_port r k o p h (Snat s q x y) =
    let front = and_both (ident_eq router r && (outer == o)) ((p == port) && kind_eq k.kind kind && addr_eq (destination k.ends) far && (k.dport == far_port)) h in
    let ids = and_both (ident_eq router r) (outer == o) front.0 in
    let three = and_both ((p == port) && kind_eq k.kind kind && addr_eq (destination k.ends) far) (k.dport == far_port) front.1 in
    let two = and_both ((p == port) && kind_eq k.kind kind) (addr_eq (destination k.ends) far) three.0 in
    let one = and_both (p == port) (kind_eq k.kind kind) two.0 in
    let er : router ≡ r = ident_same router r ids.0 in
    let eo : outer ≡ o = eqb-true outer o ids.1 in
    let ep : p ≡ port = eqb-true p port one.0 in
    let ek : kind_number k.kind ≡ kind_number kind = eqb-true (kind_number k.kind) (kind_number kind) one.1 in
    let et : destination k.ends ≡ far = addr_same (destination k.ends) far two.1 in
    let ed : k.dport ≡ far_port = eqb-true k.dport far_port three.1 in
    λ j. ident_eq (er j) s && (eo j == x) && ((y == sym ep j) && (kind_number q.kind == sym ek j) && addr_eq (destination q.ends) (sym et j) && (q.dport == sym ed j))

translates-like : (router : Ident) (key : Key) (outer : ℕ) (r : Ident) (k : Key) (o p : ℕ) → translates router key outer (Snat r k o p) ≡ true → (e : Entry) → translates router key outer e ≡ translates r k o e
translates-like router key outer r k o p h (Flow q d x) = refl
translates-like router key outer r k o p h (Snat s q x y) =
    let front = and_both (ident_eq router r && (outer == o)) (key_eq k key) h in
    let ids = and_both (ident_eq router r) (outer == o) front.0 in
    let four = and_both (kind_eq k.kind key.kind && addr_eq (source k.ends) (source key.ends) && (k.sport == key.sport) && addr_eq (destination k.ends) (destination key.ends)) (k.dport == key.dport) front.1 in
    let three = and_both (kind_eq k.kind key.kind && addr_eq (source k.ends) (source key.ends) && (k.sport == key.sport)) (addr_eq (destination k.ends) (destination key.ends)) four.0 in
    let two = and_both (kind_eq k.kind key.kind && addr_eq (source k.ends) (source key.ends)) (k.sport == key.sport) three.0 in
    let one = and_both (kind_eq k.kind key.kind) (addr_eq (source k.ends) (source key.ends)) two.0 in
    let er : router ≡ r = ident_same router r ids.0 in
    let eo : outer ≡ o = eqb-true outer o ids.1 in
    let ek : kind_number k.kind ≡ kind_number key.kind = eqb-true (kind_number k.kind) (kind_number key.kind) one.0 in
    let ef : source k.ends ≡ source key.ends = addr_same (source k.ends) (source key.ends) one.1 in
    let es : k.sport ≡ key.sport = eqb-true k.sport key.sport two.1 in
    let et : destination k.ends ≡ destination key.ends = addr_same (destination k.ends) (destination key.ends) three.1 in
    let ed : k.dport ≡ key.dport = eqb-true k.dport key.dport four.1 in
    λ j. ident_eq (er j) s && (eo j == x) && ((kind_number q.kind == sym ek j) && addr_eq (source q.ends) (sym ef j) && (q.sport == sym es j) && addr_eq (destination q.ends) (sym et j) && (q.dport == sym ed j))

-- one more entry that is placed and apart
pub placed-push : (name : List ℕ) (t : TableLists) (es : List Entry) (e : Entry) → IsAttached (record { name = name; tables = t; entries = es }) → is_attached t e ≡ true → IsApart es e → IsAttached (record { name = name; tables = t; entries = es ++ e ∷ [] })
placed-push name t es (Flow q d k) old stood apart = record {
  stand = each-push (λ e. is_attached t e ≡ true) es (Flow q d k) old.stand stood;
  once_outside = λ r k o p f g. once-push (meets r k o p f g) es (Flow q d _) (old.once_outside r k o p f g) (λ h. cc);
  once_inside = λ r x o. once-push (translates r x o) es (Flow q d k) (old.once_inside r x o) (λ h. cc);
}
placed-push name t es (Snat q k o p) old stood apart = record {
  stand = each-push (λ e. is_attached t e ≡ true) es (Snat q k o p) old.stand stood;
  once_outside = λ r kind x y f g. once-push (meets r kind x y f g) es (Snat q k o p) (old.once_outside r kind x y f g)
      (λ h. count-none-like (meets r kind x y f g) (meets q k.kind o p (destination k.ends) k.dport) es (meets-like r kind x y f g q k o p h) apart.0);
  once_inside = λ r key x. once-push (translates r key x) es (Snat q k o p) (old.once_inside r key x)
      (λ h. count-none-like (translates r key x) (translates q k o) es (translates-like r key x q k o p h) apart.1);
}

-- what is apart from more entries is apart from fewer
fewer-apart : (T : Entry → Bool) (name : List ℕ) (own fresh : List Entry) (makers : List (List ℕ)) → list_any T (own ++ fresh) ≡ false → list_any T (own ++ made_by name fresh makers) ≡ false
fewer-apart T name own fresh makers h =
    let parts = or_none (list_any T own) (list_any T fresh) (sym (list_any-append T own fresh) ∙ h) in
    list_any-append T own (made_by name fresh makers) ∙ (λ j. parts.0 j || picked fresh makers parts.1 j)
  where
    picked : (es : List Entry) (ms : List (List ℕ)) → list_any T es ≡ false → list_any T (made_by name es ms) ≡ false
    picked [] ms k = refl
    picked (e ∷ es) [] k = refl
    picked (e ∷ es) (m ∷ ms) k = let both = or_none (T e) (list_any T es) k in go (bytes_eq name m) both.0 (picked es ms both.1)
      where
        go : (b : Bool) → T e ≡ false → list_any T (made_by name es ms) ≡ false → list_any T (if b then e ∷ made_by name es ms else made_by name es ms) ≡ false
        go true no_e rest = λ j. no_e j || rest j
        go false no_e rest = rest

apart-fewer : (name : List ℕ) (own fresh : List Entry) (makers : List (List ℕ)) (e : Entry) → IsApart (own ++ fresh) e → IsApart (own ++ made_by name fresh makers) e
apart-fewer name own fresh makers (Flow q d k) h = tt
apart-fewer name own fresh makers (Snat r k o p) h = (fewer-apart (meets r k.kind o p (destination k.ends) k.dport) name own fresh makers h.0, fewer-apart (translates r k o) name own fresh makers h.1)

-- one more at the end
made_by-push : (P : Entry → List ℕ → Type 0) (name : List ℕ) (es : List Entry) (ms : List (List ℕ)) (e : Entry) (m : List ℕ) → AllMade P es ms → made_by name (es ++ e ∷ []) (ms ++ m ∷ []) ≡ made_by name es ms ++ (if bytes_eq name m then e ∷ [] else [])
made_by-push P name [] [] e m h = refl
made_by-push P name [] (n ∷ ms) e m h = absurd h
made_by-push P name (x ∷ es) [] e m h = absurd h
made_by-push P name (x ∷ es) (n ∷ ms) e m h = go (bytes_eq name n) (made_by-push P name es ms e m h.1)
  where
    go : (b : Bool) → made_by name (es ++ e ∷ []) (ms ++ m ∷ []) ≡ made_by name es ms ++ (if bytes_eq name m then e ∷ [] else []) → (if b then x ∷ made_by name (es ++ e ∷ []) (ms ++ m ∷ []) else made_by name (es ++ e ∷ []) (ms ++ m ∷ [])) ≡ (if b then x ∷ made_by name es ms else made_by name es ms) ++ (if bytes_eq name m then e ∷ [] else [])
    go true rest = ap (λ xs. x ∷ xs) rest
    go false rest = rest

AllMade-push : (P : Entry → List ℕ → Type 0) (es : List Entry) (ms : List (List ℕ)) (e : Entry) (m : List ℕ) → AllMade P es ms → P e m → AllMade P (es ++ e ∷ []) (ms ++ m ∷ [])
AllMade-push P [] [] e m h new = (new, tt)
AllMade-push P [] (n ∷ ms) e m h new = absurd h
AllMade-push P (x ∷ es) [] e m h new = absurd h
AllMade-push P (x ∷ es) (n ∷ ms) e m h new = (h.0, AllMade-push P es ms e m h.1 new)

abbrev run_of : FabricFate → Run
run_of f = f.run

module _ (hosts : List Host) (names : (name : List ℕ) → AtMostOne (is_named name) hosts) where
  -- a host is found by its name
  self-found : AllOf (λ (x : Host). find (is_named x.name) hosts ≡ Some x) hosts
  self-found = each-found (λ (x y : Host). is_named x.name y) hosts (λ x. bytes_itself x.name) (λ x. names x.name)

  -- a run with one more entry, made at h
  more-made : (run : Run) (path : List Ident) (trail : List (List ℕ × ℕ)) (h : Host) (e : Entry) → find (is_named h.name) hosts ≡ Some h → RunPlaced hosts run → is_attached h.tables e ≡ true → IsApart (h.entries ++ run.fresh) e
      → RunPlaced hosts (record { path = path; fresh = run.fresh ++ e ∷ []; makers = run.makers ++ h.name ∷ []; trail = trail })
  more-made run path trail h e found old stood apart = record {
    made = AllMade-push (IsMade hosts) run.fresh run.makers e h.name old.made (record { host = h; named = found; placed = stood });
    all = at_hosts hosts self-found old.all;
  }
    where
      at_host : (x : Host) → find (is_named x.name) hosts ≡ Some x → IsAttached (with_made run.fresh run.makers x) → IsAttached (with_made (run.fresh ++ e ∷ []) (run.makers ++ h.name ∷ []) x)
      at_host x own placed =
          subst (λ es. IsAttached (record { name = x.name; tables = x.tables; entries = x.entries ++ es })) (sym (made_by-push (IsMade hosts) x.name run.fresh run.makers e h.name old.made)) (go (bytes_eq x.name h.name) refl)
        where
          go : (b : Bool) → bytes_eq x.name h.name ≡ b → IsAttached (record { name = x.name; tables = x.tables; entries = x.entries ++ (made_by x.name run.fresh run.makers ++ (if b then e ∷ [] else [])) })
          go false k = subst (λ es. IsAttached (record { name = x.name; tables = x.tables; entries = x.entries ++ es })) (sym (append-nil (made_by x.name run.fresh run.makers))) placed
          go true k =
              let same : x ≡ h = some_equal x h (sym own ∙ ap (λ m. find (is_named m) hosts) (bytes_same x.name h.name k) ∙ found) in
              subst (λ es. IsAttached (record { name = x.name; tables = x.tables; entries = es })) (append_assoc x.entries (made_by x.name run.fresh run.makers) (e ∷ []))
              (placed-push x.name x.tables (x.entries ++ made_by x.name run.fresh run.makers) e placed
              (subst (λ (y : Host). is_attached y.tables e ≡ true) (sym same) stood)
              (apart-fewer x.name x.entries run.fresh run.makers e (subst (λ (y : Host). IsApart (y.entries ++ run.fresh) e) (sym same) apart)))

      at_hosts : (xs : List Host) → AllOf (λ (x : Host). find (is_named x.name) hosts ≡ Some x) xs → AllOf (λ x. IsAttached (with_made run.fresh run.makers x)) xs → AllOf (λ x. IsAttached (with_made (run.fresh ++ e ∷ []) (run.makers ++ h.name ∷ []) x)) xs
      at_hosts [] own placed = tt
      at_hosts (x ∷ xs) own placed = (at_host x own.0 placed.0, at_hosts xs own.1 placed.1)

  -- a step
  stepped : (h : Host) (place : Place) (run : Run) → find (is_named h.name) hosts ≡ Some h → RunPlaced hosts run → (step : Step) (made : List Entry) → Admits h.tables (h.entries ++ run.fresh) made → RunPlaced hosts (after_step h place (record { step = step; made = made }) run)
  stepped h place run found old step [] a = record {
    made = subst (λ es. AllMade (IsMade hosts) es (run.makers ++ [])) (sym (append-nil run.fresh)) (subst (λ ms. AllMade (IsMade hosts) run.fresh ms) (sym (append-nil run.makers)) old.made);
    all = subst (λ es. AllOf (λ x. IsAttached (with_made es (run.makers ++ []) x)) hosts) (sym (append-nil run.fresh)) (subst (λ ms. AllOf (λ x. IsAttached (with_made run.fresh ms x)) hosts) (sym (append-nil run.makers)) old.all);
  }
  stepped h place run found old step (e ∷ []) a = more-made run (run.path ++ step_path h place step) (run.trail ++ place_trail h place) h e found old a.0 a.1
  stepped h place run found old step (e ∷ f ∷ es) a = absurd a

  -- a host that is found by any test is found by its name
  by-name : (test : Host → Bool) (h : Host) → find test hosts ≡ Some h → find (is_named h.name) hosts ≡ Some h
  by-name test h found = find-only test (is_named h.name) hosts h (names h.name) found (bytes_itself h.name)

  walk-placed : (many : ℕ) (h : Host) (place : Place) (run : Run) → find (is_named h.name) hosts ≡ Some h → RunPlaced hosts run → RunPlaced hosts (walk hosts many h place run).run
  unfolding walk
  walk-placed zero h place run found old = old
  walk-placed (suc many) h place run found old = go (table_step h.tables (h.entries ++ run.fresh) place) (step-admits h.tables (h.entries ++ run.fresh) place) (walk-placed many)
    where
      go : (s : Stepped) → Admits h.tables (h.entries ++ run.fresh) s.made → ((x : Host) (p : Place) (r : Run) → find (is_named x.name) hosts ≡ Some x → RunPlaced hosts r → RunPlaced hosts (walk hosts many x p r).run) → RunPlaced hosts (fate_after hosts (walk hosts many) h place run s).run
      go s a rest = by s.step (stepped h place run found old s.step s.made a)
        where
          tunnel : (n : ℕ) (f : Frame) (r : Run) → RunPlaced hosts r → (o : Option Host) (test : Host → Bool) → find test hosts ≡ o → RunPlaced hosts (over_tunnel (walk hosts many) n f r o).run
          tunnel n f r placed None test e = placed
          tunnel n f r placed (Some x) test e = rest x (TunnelIn n f) r (by-name test x e) placed

          wire : (w : Wire) (n : Ident) (t : Toward) (f : Frame) (r : Run) → RunPlaced hosts r → (o : Option Host) (test : Host → Bool) → find test hosts ≡ o → RunPlaced hosts (over_wire (walk hosts many) w n t f r o).run
          wire w n t f r placed None test e = placed
          wire w n t f r placed (Some x) test e = rest x (WireIn w f) r (by-name test x e) placed

          by : (step : Step) → RunPlaced hosts (after_step h place s run) → RunPlaced hosts (next_position hosts (walk hosts many) h (after_step h place s run) step).run
          by (Next p) placed = rest h p (after_step h place s run) found placed
          by (End o way) placed = placed
          by (ToTunnel name n f) placed = tunnel n f (after_step h place s run) placed (find (is_named name) hosts) (is_named name) refl
          by (ToWire w n t f) placed = wire w n t f (after_step h place s run) placed (find (λ (x : Host). not (bytes_eq x.name h.name) && takes w f x) hosts) (λ (x : Host). not (bytes_eq x.name h.name) && takes w f x) refl

  begins : (path : List Ident) → AllOf IsAttached hosts → RunPlaced hosts (run_from path)
  begins path placed = record { made = tt; all = AllOf-more IsAttached (λ x. IsAttached (with_made [] [] x)) hosts (λ x p. subst (λ es. IsAttached (record { name = x.name; tables = x.tables; entries = es })) (sym (append-nil x.entries)) p) placed }

  -- a run of any event
  pub fate-placed : (event : Event) → AllOf IsAttached hosts → RunPlaced hosts (fabric_fate hosts event).run
  unfolding fabric_fate
  fate-placed (FromPort port frame) placed = go (find (λ (h : Host). is_some (tap_at h.tables port)) hosts) refl
    where
      go : (o : Option Host) → find (λ (h : Host). is_some (tap_at h.tables port)) hosts ≡ o → RunPlaced hosts (from_tap hosts port frame o).run
      go None e = begins [] placed
      go (Some h) e = walk-placed (suc (steps_for (life_of frame))) h (TapIn port frame) (run_from (at_tap h (tap_at h.tables port))) (by-name (λ (h : Host). is_some (tap_at h.tables port)) h e) (begins (at_tap h (tap_at h.tables port)) placed)
  fate-placed (FromWire physical tag frame) placed = start (is_unsupported frame)
    where
      go : (o : Option Host) → find (takes (record { physical = physical; tag = tag }) frame) hosts ≡ o → RunPlaced hosts (from_outside hosts (record { physical = physical; tag = tag }) frame o).run
      go None e = begins [] placed
      go (Some h) e = walk-placed (steps_for (life_of frame)) h (WireIn (record { physical = physical; tag = tag }) frame) (run_from (at_inward h (inward_at h.tables (ByWire (record { physical = physical; tag = tag }))))) (by-name (takes (record { physical = physical; tag = tag }) frame) h e) (begins (at_inward h (inward_at h.tables (ByWire (record { physical = physical; tag = tag })))) placed)

      start : (b : Bool) → RunPlaced hosts (run_of (if b then fate_of_run (run_from []) (Dropped Unsupported) else outside hosts (record { physical = physical; tag = tag }) frame))
      start true = begins [] placed
      start false = go (find (takes (record { physical = physical; tag = tag }) frame) hosts) refl
