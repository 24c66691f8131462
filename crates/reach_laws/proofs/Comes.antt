-- A first packet that comes from one source, which isn't the number that it goes to, comes from each, and to each number that no rule of
-- the two ports tells from its own.
use Rattle.std.proofs.Common.{◌≡◌, ℕ, List, [], ◌∷◌, Bool, true, false, not, Option, Some, None, refl, ap, sym, ◌∙◌}
use Rattle.std.specs.Prelude.{option_map, ◌&&◌, ◌||◌, ◌==◌, if◌then◌else◌}
use Rattle.net_addr.specs.Addresses.{addr_eq}
use Rattle.api_types.specs.Consistent.Groups.{is_direction}
use Rattle.api_types.specs.Ident.{Ident}
use Rattle.api_types.specs.RowLists.{RowLists}
use Rattle.api_types.specs.Table.{ident_eq}
use Rattle.api_types.specs.declared.group.Direction.{Direction}
use Rattle.api_types.specs.declared.group.Direction.TheVariants.{Egress, Ingress}
use Rattle.api_types.specs.declared.port.PortRow.{PortRow}
use Rattle.plane_types.specs.Ends.{Ends, destination, source}
use Rattle.plane_types.specs.Entries.{has_flow, is_flow}
use Rattle.plane_types.specs.Filter.{rules_allow}
use Rattle.plane_types.specs.Keys.{answer_kind, key_eq, key_of_part, kind_eq, answer_key}
use Rattle.plane_types.specs.Meaning.{Trace, delivered_by, port_fate, at_receiver}
use Rattle.plane_types.specs.Packets.{Packet, key_of}
use Rattle.plane_types.specs.Passage.{Passage, passage}
use Rattle.plane_types.specs.declared.entry.Entry.{Entry}
use Rattle.plane_types.specs.declared.entry.Entry.TheVariants.{Flow, Snat}
use Rattle.plane_types.specs.declared.frame.Key.{Key}
use Rattle.plane_types.specs.declared.frame.KeyKind.{KeyKind}
use Rattle.plane_types.specs.declared.frame.KeyPart.{KeyPart}
use Rattle.reach_laws.proofs.Alone.{Landing, alone}
use Rattle.reach_laws.proofs.Follow.{AheadEntry, LiveEntry, OwnGateways}
use Rattle.reach_laws.proofs.Lists.{AllOf, AllOf-map, any-none}
use Rattle.reach_laws.proofs.Lockstep.{arrives, loses}
use Rattle.reach_laws.proofs.Misses.{SameEntry, misses}
use Rattle.reach_laws.proofs.Parts.{alone-with, relanded, with_part}
use Rattle.reach_laws.proofs.RowsFound.{IsRow, alone-row}
use Rattle.reach_laws.proofs.Walk.{ends, goes, stops}
use Rattle.reach_laws.specs.Reach.{is_delivered}

-- entries that are flows of a key
abbrev pub IsFlowOf : Key → Entry → Type 0
IsFlowOf k (Flow a b c) = c ≡ k
IsFlowOf k (Snat i c o port) = ⊥

first-third : (a b c d e : Bool) → (a && c) ≡ false → (a && b && c && d && e) ≡ false
first-third false b c d e h = refl
first-third true false c d e h = refl
first-third true true false d e h = refl
first-third true true true d e h = cc

-- what a port lets out: as it isn't secured, or by its rules
pub record Passed (p : PortRow) (k : Key) (x : Passage) : Type 0 where
  pub made : List Entry
  pub is : x ≡ record { passes = true; made = made }
  pub flows : AllOf (IsFlowOf k) made

pub passed-by : (p : PortRow) (allows : Direction → Key → Bool) (k : Key) (b c : Bool) → p.secured ≡ b → allows Egress k ≡ c → (not b || c) ≡ true → Passed p k (passage p.secured allows [] p.id Egress k)
passed-by p allows k false c e f h = record { made = []; is = ap (λ s. if not s then record { passes = true; made = [] } else if allows Egress k then record { passes = true; made = Flow p.id Egress k ∷ [] } else record { passes = false; made = [] }) e; flows = tt }
passed-by p allows k true true e f h = record {
  made = Flow p.id Egress k ∷ [];
  is = ap (λ s. if not s then record { passes = true; made = [] } else if allows Egress k then record { passes = true; made = Flow p.id Egress k ∷ [] } else record { passes = false; made = [] }) e ∙ ap (λ a. if a then record { passes = true; made = Flow p.id Egress k ∷ [] } else record { passes = false; made = [] }) f;
  flows = (refl, tt);
}
passed-by p allows k true false e f h = cc

abbrev passes_of : Passage → Bool
passes_of x = x.passes

pub passes-if : (p : PortRow) (allows : Direction → Key → Bool) (k : Key) → (passage p.secured allows [] p.id Egress k).passes ≡ true → (not p.secured || allows Egress k) ≡ true
passes-if p allows k h = go p.secured (allows Egress k) h
  where
    go : (b c : Bool) → passes_of (if not b then record { passes = true; made = [] } else if c then record { passes = true; made = Flow p.id Egress k ∷ [] } else record { passes = false; made = [] }) ≡ true → (not b || c) ≡ true
    go false c h = refl
    go true true h = refl
    go true false h = cc

module _ (rows : RowLists) (good : OwnGateways rows) (j : Ident)
    (part : KeyPart) (kind : KeyKind) (s d : ℕ) (is : (ends : Ends) → key_of_part part ends ≡ record { kind = kind; ends = ends; sport = s; dport = d })
    (apart : (kind_eq kind (answer_kind kind) && (s == d)) ≡ false) (unasked : (kind_eq (answer_kind kind) kind && (d == s)) ≡ false)
    (other : KeyPart)
    (into : (x : PortRow) (ends : Ends) → IsRow rows x → ident_eq j x.id ≡ true → rules_allow rows x Ingress (key_of_part part ends) ≡ true → rules_allow rows x Ingress (key_of_part other ends) ≡ true) where
  -- no flow that the event made lets its packet in as an answer
  no-answer : (made : List Entry) (out ends : Ends) (port : Ident) → AllOf (IsFlowOf (key_of_part part out)) made → has_flow made port Egress (answer_key (key_of_part part ends)) ≡ false
  no-answer made out ends port flows = any-none (is_flow port Egress (answer_key (key_of_part part ends))) made (AllOf-map (IsFlowOf (key_of_part part out)) (λ e. is_flow port Egress (answer_key (key_of_part part ends)) e ≡ false) made each flows)
    where
      other-key : key_eq (answer_key (key_of_part part ends)) (key_of_part part out) ≡ false
      other-key =
          ap (λ (k : Key). key_eq (answer_key k) (key_of_part part out)) (is ends) ∙ ap (key_eq (answer_key (record { kind = kind; ends = ends; sport = s; dport = d }))) (is out)
          ∙ first-third (kind_eq (answer_kind kind) kind) (addr_eq (source (answer_key (record { kind = kind; ends = ends; sport = s; dport = d })).ends) (source out)) (d == s) (addr_eq (destination (answer_key (record { kind = kind; ends = ends; sport = s; dport = d })).ends) (destination out)) (s == d) unasked

      last : (a : Bool) → (a && false) ≡ false
      last true = refl
      last false = refl

      each : (e : Entry) → IsFlowOf (key_of_part part out) e → is_flow port Egress (answer_key (key_of_part part ends)) e ≡ false
      each (Flow a b c) f = ap (λ k. ident_eq port a && is_direction Egress b && key_eq (answer_key (key_of_part part ends)) k) f ∙ ap (λ x. ident_eq port a && is_direction Egress b && x) other-key ∙ last (ident_eq port a && is_direction Egress b)
      each (Snat i c o q) f = refl

  live-flows : (k : Key) (made : List Entry) → AllOf (IsFlowOf k) made → AllOf (LiveEntry rows good) made
  live-flows k made h = AllOf-map (IsFlowOf k) (LiveEntry rows good) made each h
    where
      each : (e : Entry) → IsFlowOf k e → LiveEntry rows good e
      each (Flow a b c) f = tt
      each (Snat i c o q) f = absurd f

  ahead-flows : (n : ℕ) (k : Key) (made : List Entry) → AllOf (IsFlowOf k) made → AllOf (AheadEntry rows good n) made
  ahead-flows n k made h = AllOf-map (IsFlowOf k) (AheadEntry rows good n) made each h
    where
      each : (e : Entry) → IsFlowOf k e → AheadEntry rows good n e
      each (Flow a b c) f = tt
      each (Snat i c o q) f = absurd f

  same-flows : (k : Key) (made : List Entry) → AllOf (IsFlowOf k) made → AllOf (SameEntry rows good part kind s d is apart) made
  same-flows k made h = AllOf-map (IsFlowOf k) (SameEntry rows good part kind s d is apart) made each h
    where
      each : (e : Entry) → IsFlowOf k e → SameEntry rows good part kind s d is apart e
      each (Flow a b c) f = tt
      each (Snat i c o q) f = absurd f

  -- at the port that has it in the end
  let-in : (x : PortRow) → IsRow rows x → (ends : Ends) (p1 p2 : Packet) (t1 t2 : Trace) → key_of p1 ≡ key_of_part part ends → key_of p2 ≡ key_of_part other ends → has_flow t1.fresh x.id Egress (answer_key (key_of_part part ends)) ≡ false
      → is_delivered j (at_receiver rows [] x p1 t1).outcome ≡ true → is_delivered j (at_receiver rows [] x p2 t2).outcome ≡ true
  let-in x row ends p1 p2 t1 t2 k1 k2 none h = ap (λ k. is_delivered j (delivered_by x p2 t2 (passage x.secured (rules_allow rows x) t2.fresh x.id Ingress k)).outcome) k2 ∙ go x.secured (rules_allow rows x Ingress (key_of_part part ends)) refl refl h1
    where
      h1 : is_delivered j (delivered_by x p1 t1 (passage x.secured (rules_allow rows x) t1.fresh x.id Ingress (key_of_part part ends))).outcome ≡ true
      h1 = ap (λ k. is_delivered j (delivered_by x p1 t1 (passage x.secured (rules_allow rows x) t1.fresh x.id Ingress k)).outcome) (sym k1) ∙ h

      second : (b : Bool) → rules_allow rows x Ingress (key_of_part other ends) ≡ true → ident_eq j x.id ≡ true → is_delivered j (delivered_by x p2 t2 (passage true (rules_allow rows x) t2.fresh x.id Ingress (key_of_part other ends))).outcome ≡ true
      second b a e = ap (λ c. is_delivered j (delivered_by x p2 t2 (if c then record { passes = true; made = if has_flow t2.fresh x.id Ingress (key_of_part other ends) then [] else Flow x.id Ingress (key_of_part other ends) ∷ [] } else record { passes = has_flow t2.fresh x.id Egress (answer_key (key_of_part other ends)) && rules_allow rows x Egress (answer_key (key_of_part other ends)); made = [] })).outcome) a ∙ e

      go : (b c : Bool) → x.secured ≡ b → rules_allow rows x Ingress (key_of_part part ends) ≡ c → is_delivered j (delivered_by x p1 t1 (passage x.secured (rules_allow rows x) t1.fresh x.id Ingress (key_of_part part ends))).outcome ≡ true
          → is_delivered j (delivered_by x p2 t2 (passage x.secured (rules_allow rows x) t2.fresh x.id Ingress (key_of_part other ends))).outcome ≡ true
      go false c e f h =
          let there : ident_eq j x.id ≡ true = sym (ap (λ b. is_delivered j (delivered_by x p1 t1 (passage b (rules_allow rows x) t1.fresh x.id Ingress (key_of_part part ends))).outcome) e) ∙ h in
          ap (λ b. is_delivered j (delivered_by x p2 t2 (passage b (rules_allow rows x) t2.fresh x.id Ingress (key_of_part other ends))).outcome) e ∙ there
      go true true e f h =
          let in1 = sym (ap (λ b. is_delivered j (delivered_by x p1 t1 (passage b (rules_allow rows x) t1.fresh x.id Ingress (key_of_part part ends))).outcome) e) ∙ h in
          let there : ident_eq j x.id ≡ true = sym (ap (λ c. is_delivered j (delivered_by x p1 t1 (if c then record { passes = true; made = if has_flow t1.fresh x.id Ingress (key_of_part part ends) then [] else Flow x.id Ingress (key_of_part part ends) ∷ [] } else record { passes = has_flow t1.fresh x.id Egress (answer_key (key_of_part part ends)) && rules_allow rows x Egress (answer_key (key_of_part part ends)); made = [] })).outcome) f) ∙ in1 in
          ap (λ b. is_delivered j (delivered_by x p2 t2 (passage b (rules_allow rows x) t2.fresh x.id Ingress (key_of_part other ends))).outcome) e ∙ second true (into x ends row there f) there
      go true false e f h =
          let in1 = sym (ap (λ b. is_delivered j (delivered_by x p1 t1 (passage b (rules_allow rows x) t1.fresh x.id Ingress (key_of_part part ends))).outcome) e) ∙ h in
          let in2 : is_delivered j (delivered_by x p1 t1 (record { passes = has_flow t1.fresh x.id Egress (answer_key (key_of_part part ends)) && rules_allow rows x Egress (answer_key (key_of_part part ends)); made = [] })).outcome ≡ true =
          sym (ap (λ c. is_delivered j (delivered_by x p1 t1 (if c then record { passes = true; made = if has_flow t1.fresh x.id Ingress (key_of_part part ends) then [] else Flow x.id Ingress (key_of_part part ends) ∷ [] } else record { passes = has_flow t1.fresh x.id Egress (answer_key (key_of_part part ends)) && rules_allow rows x Egress (answer_key (key_of_part part ends)); made = [] })).outcome) f) ∙ in1 in
          let bad : false ≡ true = sym (ap (λ y. is_delivered j (delivered_by x p1 t1 (record { passes = y && rules_allow rows x Egress (answer_key (key_of_part part ends)); made = [] })).outcome) none) ∙ in2 in
          cc

  -- on its way
  pub come : (many : ℕ) (q : PortRow) → IsRow rows q → (p : Packet) (t1 t2 : Trace) (out : Ends) (k : Key) → p.part ≡ part → AllOf (IsFlowOf (key_of_part part out)) t1.fresh → AllOf (IsFlowOf k) t2.fresh
      → is_delivered j (port_fate rows [] many q p t1).outcome ≡ true → is_delivered j (port_fate rows [] many q (with_part other p) t2).outcome ≡ true
  come many q row p t1 t2 out k of f1 f2 h = go (goes rows many q (destination p.ends)) refl
    where
      landed : (n : ℕ) → stops rows n q (destination p.ends) ≡ true → (l : Landing) → alone rows many q p ≡ Some l → is_delivered j (port_fate rows [] many q (with_part other p) t2).outcome ≡ true
      landed n st l a =
          let one = arrives rows good many n q p t1 l st (live-flows (key_of_part part out) t1.fresh f1) (ahead-flows n (key_of_part part out) t1.fresh f1) a in
          let a2 : alone rows many q (with_part other p) ≡ Some (relanded other l) = alone-with rows other many q p ∙ ap (option_map (relanded other)) a in
          let two = arrives rows good many n q (with_part other p) t2 (relanded other l) st (live-flows k t2.fresh f2) (ahead-flows n k t2.fresh f2) a2 in
          let self : p ≡ with_part part p = ap (λ (x : KeyPart). record { src = p.src; dst = p.dst; ends = p.ends; ttl = p.ttl; part = x }) of in
          let back : Some l ≡ Some (relanded part l) = sym a ∙ ap (alone rows many q) self ∙ alone-with rows part many q p ∙ ap (option_map (relanded part)) a in
          let is_l : l ≡ relanded part l = cc in
          let of_l : l.packet.part ≡ part = ap (λ (x : Landing). x.packet.part) is_l in
          let none = one.flows l.port.id Egress (answer_key (key_of_part part l.packet.ends)) ∙ no-answer t1.fresh out l.packet.ends l.port.id f1 in
          ap (λ f. is_delivered j f.outcome) two.same
          ∙ let-in l.port (alone-row rows many q p l row a) l.packet.ends l.packet (with_part other l.packet) one.trace two.trace (ap (λ x. key_of_part x l.packet.ends) of_l) refl none (sym (ap (λ f. is_delivered j f.outcome) one.same) ∙ h)

      stopped : (n : ℕ) → stops rows n q (destination p.ends) ≡ true → (o : Option Landing) → alone rows many q p ≡ o → is_delivered j (port_fate rows [] many q (with_part other p) t2).outcome ≡ true
      stopped n st None a =
          let bad : false ≡ true = sym (misses rows good part kind s d is apart many n q p t1 st of (live-flows (key_of_part part out) t1.fresh f1) (ahead-flows n (key_of_part part out) t1.fresh f1) (same-flows (key_of_part part out) t1.fresh f1) a j) ∙ h in
          cc
      stopped n st (Some l) a = landed n st l a

      go : (b : Bool) → goes rows many q (destination p.ends) ≡ b → is_delivered j (port_fate rows [] many q (with_part other p) t2).outcome ≡ true
      go true e = let bad : false ≡ true = sym (loses rows good many q p t1 e (live-flows (key_of_part part out) t1.fresh f1) j) ∙ h in cc
      go false e = let end = ends rows many q (destination p.ends) e in stopped end.count end.is (alone rows many q p) refl
