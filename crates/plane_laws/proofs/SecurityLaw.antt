-- By the rows, and by tables that hold them, ports let in and out what their groups and guard allow.
use Rattle.std.proofs.Common.{◌≡◌, ℕ, List, [], ◌∷◌, ◌++◌, Bool, true, false, not, Option, Some, None, refl, ap, sym, subst, ◌∙◌}
use Rattle.std.specs.Prelude.{◌&&◌, ◌||◌, if◌then◌else◌}
use Rattle.std.proofs.lemmas.Bool.{and_from, and_parts}
use Rattle.api_types.specs.Consistent.{IsConsistent}
use Rattle.api_types.specs.RowsWith.{port_with}
use Rattle.api_types.specs.Ident.{Ident}
use Rattle.api_types.specs.Lists.{Each}
use Rattle.api_types.specs.RowLists.{RowLists}
use Rattle.api_types.specs.declared.group.Direction.{Direction}
use Rattle.api_types.specs.declared.group.Direction.TheVariants.{Egress, Ingress}
use Rattle.api_types.specs.declared.network.Segment.{Segment}
use Rattle.api_types.specs.declared.port.PortRow.{PortRow}
use Rattle.plane_types.specs.Crossing.{is_dropped}
use Rattle.plane_types.specs.Entries.{has_flow, opposite}
use Rattle.plane_types.specs.Filter.{rules_allow}
use Rattle.plane_types.specs.Guard.{passes_guard}
use Rattle.plane_types.specs.Hosts.{Host, all_entries}
use Rattle.plane_types.specs.Keys.{answer_key}
use Rattle.plane_types.specs.Meaning.{drop_fate, from_port, from_sender, port_fate, life_of, may_begin, none_so_far, rows_fate, rows_passage, sent_on, sent_out, with_fresh}
use Rattle.plane_types.specs.Packets.{ip_frame, is_unsupported, key_of, packet, packet_in}
use Rattle.plane_types.specs.Passage.{Passage, new_flow, passage}
use Rattle.plane_types.specs.PortSecurity.{AreLetOut, EndsAllowed, IsLetIn, IsLetOut, is_allowed, is_allowed_out, lets_in, lets_out}
use Rattle.plane_types.specs.Verdicts.{fabric_verdict, fabric_verdicts, rows_verdict}
use Rattle.plane_types.specs.declared.entry.Entry.{Entry}
use Rattle.plane_types.specs.declared.event.Event.{Event}
use Rattle.plane_types.specs.declared.event.Event.TheVariants.{FromPort, FromWire}
use Rattle.plane_types.specs.declared.frame.Frame.{Frame}
use Rattle.plane_types.specs.declared.frame.Frame.TheVariants.{Dhcp, Ip, NeighbourAsk, Other}
use Rattle.plane_types.specs.declared.frame.Key.{Key}
use Rattle.plane_types.specs.declared.verdict.DropCause.TheVariants.{Dead, Egress as EgressFilter, Spoof, Unsupported}
use Rattle.plane_types.specs.declared.verdict.Outcome.{Outcome}
use Rattle.plane_types.specs.declared.verdict.Outcome.TheVariants.{Absorbed, Answered, Delivered, Dropped, Out}
use Rattle.plane_laws.proofs.CrossingLaw.{LawOfEnds}
use Rattle.plane_laws.proofs.CrossingTop.{PathEnds, ends-law}
use Rattle.plane_laws.proofs.FactsHold.{frame-facts}
use Rattle.plane_laws.proofs.ListLaw.{each-pair, each-verdict}
use Rattle.plane_laws.proofs.Theorem.{tables-mean-rows}
use Rattle.plane_laws.specs.Held.{HoldRows}

-- a secured port, whose rules allow a key or don't
abbrev by_rules : Bool → (Direction → Key → Bool) → List Entry → Ident → Direction → Key → Passage
by_rules allowed allows entries port d k =
    if allowed then record { passes = true; made = new_flow entries port d k }
    else record { passes = has_flow entries port (opposite d) (answer_key k) && allows (opposite d) (answer_key k); made = [] }

-- what passes a port is allowed, or answers what is
passes-allowed : (secured : Bool) (allows : Direction → Key → Bool) (entries : List Entry) (port : Ident) (d : Direction) (k : Key) → (passage secured allows entries port d k).passes ≡ true
    → not secured || (allows d k || allows (opposite d) (answer_key k)) ≡ true
passes-allowed false allows entries port d k h = refl
passes-allowed true allows entries port d k h = go (allows d k) h
  where
    go : (allowed : Bool) → (by_rules allowed allows entries port d k).passes ≡ true → allowed || allows (opposite d) (answer_key k) ≡ true
    go true h = refl
    go false h = (and_parts (has_flow entries port (opposite d) (answer_key k)) (allows (opposite d) (answer_key k)) h).1

-- ---- in

let-in : (rows : RowLists) → LawOfEnds rows (λ n o. EndsAllowed rows o)
let-in rows = record {
  drops = λ n c. tt;
  answers = λ n a. tt;
  leaves = λ n t f. tt;
  absorbs = λ n r named leg. tt;
  delivers = λ q entries p there passes. ap (lets_in rows (ip_frame p)) there ∙ passes-allowed q.secured (rules_allow rows q) entries q.id Ingress (key_of p) passes;
}

dropped-allowed : (rows : RowLists) (o : Outcome) → is_dropped o ≡ true → EndsAllowed rows o
dropped-allowed rows (Delivered q f) h = absurd cc
dropped-allowed rows (Answered a) h = tt
dropped-allowed rows (Absorbed r) h = tt
dropped-allowed rows (Out n t f) h = tt
dropped-allowed rows (Dropped c) h = tt

allowed-so : (rows : RowLists) (path : List Ident) (o : Outcome) → PathEnds rows (λ n o. EndsAllowed rows o) path o → EndsAllowed rows o
allowed-so rows [] o h = dropped-allowed rows o h
allowed-so rows (n ∷ rest) o (there, crosses, allowed) = allowed

pub in-by-rows : (rows : RowLists) → IsConsistent rows → (entries : List Entry) (e : Event) → IsLetIn rows (rows_verdict rows entries e)
in-by-rows rows good entries e =
    let fate = rows_fate rows entries e in
    allowed-so rows fate.path fate.outcome (ends-law rows (frame-facts rows good) entries (λ n o. EndsAllowed rows o) (let-in rows) e)

pub in-by-tables : (carry : List ℕ → Segment → Bool) (rows : RowLists) (hosts : List Host) → HoldRows carry rows hosts → (e : Event) → IsLetIn rows (fabric_verdict hosts e)
in-by-tables carry rows hosts h e =
    subst (IsLetIn rows) (sym (tables-mean-rows carry rows hosts h e)) (in-by-rows rows h.consistent (all_entries hosts) e)

pub in-by-lists : (carry : List ℕ → Segment → Bool) (rows : RowLists) (hosts : List Host) → HoldRows carry rows hosts → (events : List Event) → Each (IsLetIn rows) (fabric_verdicts hosts events)
in-by-lists carry rows = each-verdict carry rows (IsLetIn rows) (in-by-tables carry rows)

-- ---- out

module _ (rows : RowLists) (entries : List Entry) where
  sender-out : (p : PortRow) (many : ℕ) (frame : Frame) → is_dropped (from_sender rows entries many p (record { path = p.network ∷ []; fresh = [] }) frame).outcome ≡ false → is_allowed_out rows p (packet_in frame) ≡ true
  sender-out p many (Ip src dst ends ttl part) h =
      go (rows_passage rows (entries ++ []) p Egress (packet src dst ends ttl part)) (passes-allowed p.secured (rules_allow rows p) (entries ++ []) p.id Egress (key_of (packet src dst ends ttl part))) h
    where
      go : (y : Passage) → (y.passes ≡ true → is_allowed rows p Egress (packet src dst ends ttl part) ≡ true)
          → is_dropped (sent_out rows (port_fate rows entries many) p (packet src dst ends ttl part) (record { path = p.network ∷ []; fresh = [] }) y).outcome ≡ false → is_allowed rows p Egress (packet src dst ends ttl part) ≡ true
      go y allowed = by y.passes refl
        where
          by : (b : Bool) → y.passes ≡ b
              → is_dropped (if b then sent_on rows (port_fate rows entries many) p.network p.host (packet src dst ends ttl part) (with_fresh (record { path = p.network ∷ []; fresh = [] }) y.made) else drop_fate (record { path = p.network ∷ []; fresh = [] }) EgressFilter).outcome ≡ false
              → is_allowed rows p Egress (packet src dst ends ttl part) ≡ true
          by true e h = allowed e
          by false e h = absurd cc
  sender-out p many (NeighbourAsk src ends) h = refl
  sender-out p many (Dhcp src from) h = refl
  sender-out p many (Other s d y) h = refl

  port-out : (many : ℕ) (frame : Frame) (o : Option PortRow) → is_dropped (from_port rows entries many frame o).outcome ≡ false → lets_out rows frame o ≡ true
  port-out many frame None h = absurd cc
  port-out many frame (Some p) h = go (may_begin rows p) (is_unsupported frame) (passes_guard p frame) refl h
    where
      go : (b u g : Bool) → passes_guard p frame ≡ g
          → is_dropped (if b then (if u then drop_fate (record { path = p.network ∷ []; fresh = [] }) Unsupported else if not g then drop_fate (record { path = p.network ∷ []; fresh = [] }) Spoof else from_sender rows entries many p (record { path = p.network ∷ []; fresh = [] }) frame) else drop_fate none_so_far Dead).outcome ≡ false
          → lets_out rows frame (Some p) ≡ true
      go false u g e h = absurd cc
      go true true g e h = absurd cc
      go true false false e h = absurd cc
      go true false true e h = and_from (passes_guard p frame) (is_allowed_out rows p (packet_in frame)) e (sender-out p many frame h)

pub out-by-rows : (rows : RowLists) (entries : List Entry) (e : Event) → IsLetOut rows e (rows_verdict rows entries e)
unfolding rows_fate
out-by-rows rows entries (FromPort i frame) = port-out rows entries (life_of frame) frame (port_with rows i)
out-by-rows rows entries (FromWire physical tag frame) = tt

pub out-by-tables : (carry : List ℕ → Segment → Bool) (rows : RowLists) (hosts : List Host) → HoldRows carry rows hosts → (e : Event) → IsLetOut rows e (fabric_verdict hosts e)
out-by-tables carry rows hosts h (FromPort i frame) =
    subst (IsLetOut rows (FromPort i frame)) (sym (tables-mean-rows carry rows hosts h (FromPort i frame))) (out-by-rows rows (all_entries hosts) (FromPort i frame))
out-by-tables carry rows hosts h (FromWire physical tag frame) = tt

pub out-by-lists : (carry : List ℕ → Segment → Bool) (rows : RowLists) (hosts : List Host) → HoldRows carry rows hosts → (events : List Event) → AreLetOut rows events (fabric_verdicts hosts events)
out-by-lists carry rows = each-pair carry rows (IsLetOut rows) (out-by-tables carry rows)
