-- A packet that no entry waits for goes where it goes among routers that keep none.
use Rattle.std.proofs.Common.{◌≡◌, ℕ, zero, suc, ◌≤◌, List, [], ◌∷◌, ◌++◌, Bool, true, false, Option, Some, None, refl, ap, sym, ◌∙◌, arith}
use Rattle.std.specs.Prelude.{find, option_and_then, ◌&&◌, ◌||◌, ◌==◌, if◌then◌else◌, ⊤}
use Rattle.std.specs.List.{list_any}
use Rattle.std.proofs.lemmas.Bool.{and_parts}
use Rattle.std.proofs.lemmas.List.Folds.{list_any-append}
use Rattle.net_addr.proofs.AddrLemmas.{addr_same}
use Rattle.net_addr.specs.Addresses.{addr_eq}
use Rattle.net_addr.specs.declared.address.Addr.{Addr}
use Rattle.net_addr.specs.declared.address.Addr.TheVariants.{V4}
use Rattle.api_types.proofs.NameLemmas.{ident_same}
use Rattle.api_types.specs.Holders.{holder}
use Rattle.api_types.specs.Ident.{Ident}
use Rattle.api_types.specs.Live.{joined_with, segment}
use Rattle.api_types.specs.RouterRows.{legs_of, router_view}
use Rattle.api_types.specs.RouterViews.{Leg, RouterView}
use Rattle.api_types.specs.RowLists.{RowLists}
use Rattle.api_types.specs.Table.{ident_eq}
use Rattle.api_types.specs.Wires.{wire_of}
use Rattle.api_types.specs.declared.group.Direction.{Direction}
use Rattle.api_types.specs.declared.port.PortRow.{PortRow}
use Rattle.api_types.specs.declared.router.RouterRow.{RouterRow}
use Rattle.api_types.specs.declared.wire.Wire.{Wire}
use Rattle.plane_types.specs.Ends.{destination, source}
use Rattle.plane_types.specs.Entries.{has_flow, is_flow}
use Rattle.plane_types.specs.Keys.{key_eq, kind_eq, answer_key}
use Rattle.plane_types.specs.Meaning.{Fate, Onward, Trace, after_router, handed_out, handed_to, out_or, with_fresh, with_path}
use Rattle.plane_types.specs.Packets.{Packet, ip_frame, key_of}
use Rattle.plane_types.specs.Routing.{RouteSends, Use, answers, is_gateway_live, is_own, is_taken, uses_at, uses_by}
use Rattle.plane_types.specs.declared.entry.Entry.{Entry}
use Rattle.plane_types.specs.declared.entry.Entry.TheVariants.{Flow, Snat}
use Rattle.plane_types.specs.declared.frame.Frame.{Frame}
use Rattle.plane_types.specs.declared.frame.Key.{Key}
use Rattle.plane_types.specs.declared.verdict.DropCause.{DropCause}
use Rattle.plane_types.specs.declared.verdict.DropCause.TheVariants.{NoHolder}
use Rattle.plane_types.specs.declared.verdict.Toward.{Toward}
use Rattle.plane_types.specs.declared.verdict.Toward.TheVariants.{Address as TowardAddress}
use Rattle.reach_laws.proofs.Lists.{AllOf, AllOf-map, and-false, any-none, find-none, not-true}
use Rattle.reach_laws.proofs.RouterSays.{Made}
use Rattle.reach_laws.proofs.Walk.{landing, leads, router_at, view-id}
use Rattle.reach_laws.specs.Reach.{is_delivered}

-- what searches among uses miss
abbrev pub Misses : (Use → Bool) → Ident → Entry → Type 0
Misses f r (Flow a b c) = ⊤
Misses f r (Snat i k o port) = ident_eq r i ≡ true → f (record { key = k; port = port }) ≡ false

uses-miss : (f : Use → Bool) (r : Ident) (outer : ℕ) (es : List Entry) → AllOf (Misses f r) es → AllOf (λ (u : Use). f u ≡ false) (uses_at r outer es)
uses-miss f r outer [] h = tt
uses-miss f r outer (Flow a b c ∷ es) h = uses-miss f r outer es h.1
uses-miss f r outer (Snat i k o port ∷ es) h = go (ident_eq r i && (outer == o)) refl (uses-miss f r outer es h.1)
  where
    go : (b : Bool) → (ident_eq r i && (outer == o)) ≡ b → AllOf (λ (u : Use). f u ≡ false) (uses_at r outer es) → AllOf (λ (u : Use). f u ≡ false) (if b then record { key = k; port = port } ∷ uses_at r outer es else uses_at r outer es)
    go true e rest = (h.0 (and_parts (ident_eq r i) (outer == o) e).0, rest)
    go false e rest = rest

pub uses-miss-by : (f : Use → Bool) (snat : Bool) (gateway : Option ℕ) (r : Ident) (es : List Entry) → AllOf (Misses f r) es → AllOf (λ (u : Use). f u ≡ false) (uses_by snat gateway r es)
uses-miss-by f false gateway r es h = tt
uses-miss-by f true None r es h = tt
uses-miss-by f true (Some o) r es h = uses-miss f r o es h

pub second-third : (a b c d e : Bool) → (b && c) ≡ false → (a && b && c && d && e) ≡ false
second-third false b c d e h = refl
second-third true false c d e h = refl
second-third true true false d e h = refl
second-third true true true d e h = cc

pub never : (n : ℕ) → suc n ≤ n → ⊥
never n h = let z : zero ≡ suc zero = omega (arith, h) in absurd cc

-- flows stay as they are where only translations are made
abbrev pub IsTranslation : Entry → Type 0
IsTranslation (Flow a b c) = ⊥
IsTranslation (Snat i k o port) = ⊤

no-flows : (port : Ident) (dir : Direction) (key : Key) (es : List Entry) → AllOf IsTranslation es → list_any (is_flow port dir key) es ≡ false
no-flows port dir key [] h = refl
no-flows port dir key (Flow a b c ∷ es) h = absurd h.0
no-flows port dir key (Snat i k o p ∷ es) h = no-flows port dir key es h.1

or-false : (b : Bool) → (b || false) ≡ b
or-false true = refl
or-false false = refl

pub flows-same : (port : Ident) (dir : Direction) (key : Key) (es made : List Entry) → AllOf IsTranslation made → has_flow (es ++ made) port dir key ≡ has_flow es port dir key
flows-same port dir key es made h = list_any-append (is_flow port dir key) es made ∙ ap (λ b. list_any (is_flow port dir key) es || b) (no-flows port dir key made h) ∙ or-false (list_any (is_flow port dir key) es)

module _ (v : RouterView) (uses : List Use) (key : Key) where
  pub made-each : (P : Entry → Type 0) → ((i : Ident) (k : Key) (o port : ℕ) → i ≡ v.id → k ≡ key → is_gateway_live v ≡ true → (uses ≡ [] → port ≡ key.sport) → P (Snat i k o port)) → (made : List Entry) → Made v uses key made → AllOf P made
  made-each P f [] h = tt
  made-each P f (Flow a b c ∷ es) h = absurd h
  made-each P f (Snat i k o port ∷ e ∷ es) h = absurd h
  made-each P f (Snat i k o port ∷ []) h = (f i k o port h.0 h.1 h.2 h.3, tt)

-- the gateway address of a router whose gateway port is live is its own
pub record OwnGateways (rows : RowLists) : Type 0 where
  pub own : (r : RouterRow) (i : Ident) (outer : ℕ) → router_at rows i ≡ Some r → (router_view rows r).gateway ≡ Some outer → is_gateway_live (router_view rows r) ≡ true → is_own (router_view rows r) (V4 outer) ≡ true

module _ (rows : RowLists) (good : OwnGateways rows) where
  -- an entry that was made on the way is of a router whose gateway port is live
  abbrev pub LiveEntry : Entry → Type 0
  LiveEntry (Flow a b c) = ⊤
  LiveEntry (Snat i k o port) = (r : RouterRow) → router_at rows i ≡ Some r → is_gateway_live (router_view rows r) ≡ true

  -- and from where it was made at least so many routers were still to pass
  abbrev pub AheadEntry : ℕ → Entry → Type 0
  AheadEntry n (Flow a b c) = ⊤
  AheadEntry n (Snat i k o port) = (r : RouterRow) → router_at rows i ≡ Some r → (m : ℕ) → leads rows m r (destination k.ends) ≡ true → n ≤ m

  pub less-ahead : (n : ℕ) (e : Entry) → AheadEntry (suc n) e → AheadEntry n e
  less-ahead n (Flow a b c) h = tt
  less-ahead n (Snat i k o port) h = λ r found m leads. let more = h r found m leads in omega (arith, more)

  module _ (r : RouterRow) (found : router_at rows r.id ≡ Some r) where
    named : (i : Ident) → ident_eq (router_view rows r).id i ≡ true → router_at rows i ≡ Some r
    named i h = ap (router_at rows) (sym (ident_same (router_view rows r).id i h) ∙ view-id rows r) ∙ found

    -- a packet for no address of the router's own is answered by none of them
    pub unanswered : (p : Packet) (es : List Entry) → AllOf LiveEntry es → is_own (router_view rows r) (destination p.ends) ≡ false
        → find (answers (router_view rows r).gateway p) (uses_by (router_view rows r).snat (router_view rows r).gateway (router_view rows r).id es) ≡ None
    unanswered p es live foreign =
        find-none (answers (router_view rows r).gateway p) (uses_by (router_view rows r).snat (router_view rows r).gateway (router_view rows r).id es)
        (uses-miss-by (answers (router_view rows r).gateway p) (router_view rows r).snat (router_view rows r).gateway (router_view rows r).id es (AllOf-map LiveEntry (Misses (answers (router_view rows r).gateway p) (router_view rows r).id) es each live))
      where
        apart : is_gateway_live (router_view rows r) ≡ true → (outer : ℕ) → (router_view rows r).gateway ≡ Some outer → addr_eq (V4 outer) (destination p.ends) ≡ false
        apart on outer e = not-true (addr_eq (V4 outer) (destination p.ends)) (λ h.
            let own : is_own (router_view rows r) (V4 outer) ≡ true = good.own r r.id outer found e on in
            let same : is_own (router_view rows r) (V4 outer) ≡ is_own (router_view rows r) (destination p.ends) = ap (is_own (router_view rows r)) (addr_same (V4 outer) (destination p.ends) h) in
            absurd cc)

        by : is_gateway_live (router_view rows r) ≡ true → (u : Use) (g : Option ℕ) → (router_view rows r).gateway ≡ g → answers g p u ≡ false
        by on u None e = refl
        by on u (Some outer) e = ap (λ b. b && kind_eq u.key.kind (answer_key (key_of p)).kind && (u.port == (key_of p).dport) && addr_eq (destination u.key.ends) (source p.ends) && (u.key.dport == (key_of p).sport)) (apart on outer e)

        each : (e : Entry) → LiveEntry e → Misses (answers (router_view rows r).gateway p) (router_view rows r).id e
        each (Flow a b c) l = tt
        each (Snat i k o port) l = λ h. by (l r (named i h)) (record { key = k; port = port }) (router_view rows r).gateway refl

    -- and none of them is in the way of a packet from whose way it was made
    pub clear : (n : ℕ) (k : Key) (es : List Entry) → leads rows n r (destination k.ends) ≡ true → AllOf (AheadEntry (suc n)) es
        → (find (λ (u : Use). key_eq u.key k) (uses_by (router_view rows r).snat (router_view rows r).gateway (router_view rows r).id es) ≡ None) × (is_taken (uses_by (router_view rows r).snat (router_view rows r).gateway (router_view rows r).id es) k k.sport ≡ false)
    clear n k es lead ahead = (
      find-none equal (uses_by (router_view rows r).snat (router_view rows r).gateway (router_view rows r).id es) (uses-miss-by equal (router_view rows r).snat (router_view rows r).gateway (router_view rows r).id es (AllOf-map (AheadEntry (suc n)) (Misses equal (router_view rows r).id) es each-equal ahead)),
      any-none taken (uses_by (router_view rows r).snat (router_view rows r).gateway (router_view rows r).id es) (uses-miss-by taken (router_view rows r).snat (router_view rows r).gateway (router_view rows r).id es (AllOf-map (AheadEntry (suc n)) (Misses taken (router_view rows r).id) es each-taken ahead)),
    )
      where
        equal : Use → Bool
        equal u = key_eq u.key k

        taken : Use → Bool
        taken u = (u.port == k.sport) && kind_eq u.key.kind k.kind && addr_eq (destination u.key.ends) (destination k.ends) && (u.key.dport == k.dport)

        far : (i : Ident) (q : Key) (o port : ℕ) → AheadEntry (suc n) (Snat i q o port) → ident_eq (router_view rows r).id i ≡ true → addr_eq (destination q.ends) (destination k.ends) ≡ false
        far i q o port a h = not-true (addr_eq (destination q.ends) (destination k.ends)) (λ same.
            never n (a r (named i h) n (ap (leads rows n r) (addr_same (destination q.ends) (destination k.ends) same) ∙ lead)))

        each-equal : (e : Entry) → AheadEntry (suc n) e → Misses equal (router_view rows r).id e
        each-equal (Flow a b c) l = tt
        each-equal (Snat i q o port) l = λ h.
            ap (λ b. kind_eq q.kind k.kind && addr_eq (source q.ends) (source k.ends) && (q.sport == k.sport) && b && (q.dport == k.dport)) (far i q o port l h)
            ∙ ap (λ b. b && (q.dport == k.dport)) (and-false (kind_eq q.kind k.kind && addr_eq (source q.ends) (source k.ends) && (q.sport == k.sport)))

        each-taken : (e : Entry) → AheadEntry (suc n) e → Misses taken (router_view rows r).id e
        each-taken (Flow a b c) l = tt
        each-taken (Snat i q o port) l = λ h.
            ap (λ b. (port == k.sport) && kind_eq q.kind k.kind && b && (q.dport == k.dport)) (far i q o port l h)
            ∙ ap (λ b. b && (q.dport == k.dport)) (and-false ((port == k.sport) && kind_eq q.kind k.kind))

  -- what a router sends on
  pub record Lands (on : Onward) (q : PortRow) (p : Packet) (fresh : List Entry) (f : Fate) : Type 0 where
    pub trace : Trace
    pub same : f ≡ on q (record p { dst = q.mac }) trace
    pub fresh_is : trace.fresh ≡ fresh

  pub lands : (on : Onward) (r : RouterRow) (t : Trace) (made : List Entry) (out : Leg) (hop : Addr) (p : Packet) (q : PortRow) → landing rows r (out, hop) ≡ Some q → Lands on q p (t.fresh ++ made) (after_router rows on r t (RouteSends made out hop p))
  lands on r t made out hop p q h = go (find (λ (x : PortRow). ident_eq out.port x.id) (legs_of rows r)) h
    where
      to : (o : PortRow) (j : Option PortRow) → j ≡ Some q → Lands on q p (t.fresh ++ made) (handed_to rows on o.network hop p (with_path (with_fresh t made) (r.id ∷ o.network ∷ [])) j)
      to o None e = cc
      to o (Some z) e = let same : z ≡ q = cc in record { trace = with_path (with_fresh t made) (r.id ∷ o.network ∷ []); same = ap (λ (x : PortRow). on x (record p { dst = x.mac }) (with_path (with_fresh t made) (r.id ∷ o.network ∷ []))) same; fresh_is = refl }

      go : (o : Option PortRow) → option_and_then (λ (x : PortRow). joined_with rows x.host (holder rows x.network hop)) o ≡ Some q → Lands on q p (t.fresh ++ made) (handed_out rows on r hop p (with_fresh t made) o)
      go None e = cc
      go (Some o) e = to o (joined_with rows o.host (holder rows o.network hop)) e

  pub lost : (on : Onward) (r : RouterRow) (t : Trace) (made : List Entry) (out : Leg) (hop : Addr) (p : Packet) (j : Ident) → landing rows r (out, hop) ≡ None → is_delivered j (after_router rows on r t (RouteSends made out hop p)).outcome ≡ false
  lost on r t made out hop p j h = go (find (λ (x : PortRow). ident_eq out.port x.id) (legs_of rows r)) h
    where
      wire : (n : Ident) (toward : Toward) (frame : Frame) (c : DropCause) (o : Option Wire) → is_delivered j (out_or o n toward frame c) ≡ false
      wire n toward frame c None = refl
      wire n toward frame c (Some w) = refl

      to : (o : PortRow) (z : Option PortRow) → z ≡ None → is_delivered j (handed_to rows on o.network hop p (with_path (with_fresh t made) (r.id ∷ o.network ∷ [])) z).outcome ≡ false
      to o None e = wire o.network (TowardAddress hop) (ip_frame (record p { dst = 0 })) NoHolder (wire_of (segment rows o.network))
      to o (Some z) e = cc

      go : (o : Option PortRow) → option_and_then (λ (x : PortRow). joined_with rows x.host (holder rows x.network hop)) o ≡ None → is_delivered j (handed_out rows on r hop p (with_fresh t made) o).outcome ≡ false
      go None e = refl
      go (Some o) e = to o (joined_with rows o.host (holder rows o.network hop)) e
