-- Packets of two protocols that no rule tells apart come to the same: their entries differ in the protocol alone.
use Rattle.std.proofs.Common.{◌≡◌, ℕ, ◌+◌, ◌-◌, List, [], ◌∷◌, map, Bool, true, false, cond, not, Option, Some, None, refl, ap, sym, ◌∙◌, arith}
use Rattle.std.specs.Prelude.{find, option_map, ◌&&◌, ◌||◌, ◌==◌, nat_le, if◌then◌else◌}
use Rattle.std.specs.List.{list_any}
use Rattle.std.specs.Option.{unwrap_or}
use Rattle.std.proofs.lemmas.Bool.Decides.{nat_tests}
use Rattle.net_addr.specs.Addresses.{addr_eq}
use Rattle.net_addr.specs.declared.address.Addr.{Addr}
use Rattle.net_addr.specs.declared.address.Addr.TheVariants.{V4}
use Rattle.api_types.specs.Ident.{Ident}
use Rattle.api_types.specs.RouterViews.{Float, Leg, RouterView, Way}
use Rattle.api_types.specs.Table.{ident_eq}
use Rattle.plane_types.specs.Ends.{are_four, destination, source}
use Rattle.plane_types.specs.Keys.{key_eq, kind_eq}
use Rattle.plane_types.specs.Packets.{Packet, key_of}
use Rattle.plane_types.specs.Routing.{Changed, Destined, RouteEnds, RouteSends, Routed, Sourced, Use, answers, best_way, by_any, by_float, new_destination, destined_entry, destined_float, is_gateway_live, is_own, is_taken, kept_source, new_port, routing_of, routed_out, routed_to, routed_way, sending_of, new_source, sourced_float, sourced_gateway, sourced_new, sourced_use, uses_at, uses_by}
use Rattle.plane_types.specs.declared.entry.Entry.{Entry}
use Rattle.plane_types.specs.declared.entry.Entry.TheVariants.{Flow, Snat}
use Rattle.plane_types.specs.declared.frame.Key.{Key}
use Rattle.plane_types.specs.declared.frame.KeyKind.TheVariants.{Proto as ProtoKey}
use Rattle.plane_types.specs.declared.frame.KeyPart.TheVariants.{Proto}
use Rattle.plane_types.specs.declared.verdict.DropCause.TheVariants.{Expired, RouterDown}
use Rattle.plane_types.specs.declared.verdict.Outcome.TheVariants.{Absorbed, Dropped}
use Rattle.reach_laws.proofs.Parts.{with_part}

-- the same of another protocol
abbrev pub rekey : ℕ → Key → Key
rekey m k = record { kind = ProtoKey m; ends = k.ends; sport = k.sport; dport = k.dport }

abbrev pub re_entry : ℕ → Entry → Entry
re_entry m (Flow a b c) = Flow a b (rekey m c)
re_entry m (Snat i k o p) = Snat i (rekey m k) o p

abbrev pub re_use : ℕ → Use → Use
re_use m u = record { key = rekey m u.key; port = u.port }

abbrev pub re_destined : ℕ → Destined → Destined
re_destined m d = record { packet = with_part (Proto m) d.packet; by = d.by }

abbrev pub re_sourced : ℕ → Sourced → Sourced
re_sourced m s = record { packet = with_part (Proto m) s.packet; made = map (re_entry m) s.made }

abbrev pub re_routed : ℕ → Routed → Routed
re_routed m (RouteEnds o) = RouteEnds o
re_routed m (RouteSends made out hop p) = RouteSends (map (re_entry m) made) out hop (with_part (Proto m) p)

pub self : (m n : ℕ) → kind_eq (ProtoKey m) (ProtoKey m) ≡ kind_eq (ProtoKey n) (ProtoKey n)
self m n = let a : (4 + m == 4 + m) ≡ true = grind (arith, nat_tests) in let b : (4 + n == 4 + n) ≡ true = grind (arith, nat_tests) in a ∙ sym b

uses-re : (m : ℕ) (r : Ident) (outer : ℕ) (es : List Entry) → uses_at r outer (map (re_entry m) es) ≡ map (re_use m) (uses_at r outer es)
uses-re m r outer [] = refl
uses-re m r outer (Flow a b c ∷ es) = uses-re m r outer es
uses-re m r outer (Snat i k o p ∷ es) = go (ident_eq r i && (outer == o)) (uses-re m r outer es)
  where
    go : (b : Bool) → uses_at r outer (map (re_entry m) es) ≡ map (re_use m) (uses_at r outer es)
        → (if b then record { key = rekey m k; port = p } ∷ uses_at r outer (map (re_entry m) es) else uses_at r outer (map (re_entry m) es)) ≡ map (re_use m) (if b then record { key = k; port = p } ∷ uses_at r outer es else uses_at r outer es)
    go true h = ap (λ us. record { key = rekey m k; port = p } ∷ us) h
    go false h = h

uses-re-by : (m : ℕ) (snat : Bool) (gateway : Option ℕ) (r : Ident) (es : List Entry) → uses_by snat gateway r (map (re_entry m) es) ≡ map (re_use m) (uses_by snat gateway r es)
uses-re-by m false gateway r es = refl
uses-re-by m true None r es = refl
uses-re-by m true (Some o) r es = uses-re m r o es

find-re : (g f : Use → Bool) (m : ℕ) (us : List Use) → ((u : Use) → g (re_use m u) ≡ f u) → find g (map (re_use m) us) ≡ option_map (re_use m) (find f us)
find-re g f m [] h = refl
find-re g f m (u ∷ us) h = ap (λ b. cond b (Some (re_use m u)) (find g (map (re_use m) us))) (h u) ∙ go (f u) (find-re g f m us h)
  where
    go : (b : Bool) → find g (map (re_use m) us) ≡ option_map (re_use m) (find f us) → cond b (Some (re_use m u)) (find g (map (re_use m) us)) ≡ option_map (re_use m) (cond b (Some u) (find f us))
    go true k = refl
    go false k = k

any-re : (g f : Use → Bool) (m : ℕ) (us : List Use) → ((u : Use) → g (re_use m u) ≡ f u) → list_any g (map (re_use m) us) ≡ list_any f us
any-re g f m [] h = refl
any-re g f m (u ∷ us) h = ap (λ b. b || list_any g (map (re_use m) us)) (h u) ∙ ap (λ b. f u || b) (any-re g f m us h)

-- m beside n, which stands for itself
module _ (v : RouterView) (n m : ℕ) (us : List Use) where
  destined-re : (p : Packet) → new_destination v (map (re_use m) us) (with_part (Proto m) p) ≡ re_destined m (new_destination v (map (re_use n) us) (with_part (Proto n) p))
  destined-re p = go (find (λ (f : Float). addr_eq (V4 f.floating) (destination p.ends)) v.floats)
    where
      alike : (u : Use) (g : Option ℕ) → answers g (with_part (Proto m) p) (re_use m u) ≡ answers g (with_part (Proto n) p) (re_use n u)
      alike u None = refl
      alike u (Some outer) = ap (λ b. addr_eq (V4 outer) (destination p.ends) && b && (u.port == 0) && addr_eq (destination u.key.ends) (source p.ends) && (u.key.dport == 0)) (self m n)

      f : Use → Bool
      f u = answers v.gateway (with_part (Proto n) p) (re_use n u)

      entry : (o : Option Use) → destined_entry (with_part (Proto m) p) (option_map (re_use m) o) ≡ re_destined m (destined_entry (with_part (Proto n) p) (option_map (re_use n) o))
      entry None = refl
      entry (Some u) = refl

      go : (o : Option Float) → destined_float v (map (re_use m) us) (with_part (Proto m) p) o ≡ re_destined m (destined_float v (map (re_use n) us) (with_part (Proto n) p) o)
      go (Some z) = refl
      go None =
          ap (destined_entry (with_part (Proto m) p)) (find-re (answers v.gateway (with_part (Proto m) p)) f m us (λ u. alike u v.gateway))
          ∙ entry (find f us)
          ∙ sym (ap (λ o. re_destined m (destined_entry (with_part (Proto n) p) o)) (find-re (answers v.gateway (with_part (Proto n) p)) f n us (λ u. refl)))

  key-re : (u : Use) (p : Packet) → key_eq (re_use m u).key (key_of (with_part (Proto m) p)) ≡ key_eq (re_use n u).key (key_of (with_part (Proto n) p))
  key-re u p = ap (λ b. b && addr_eq (source u.key.ends) (source p.ends) && (u.key.sport == 0) && addr_eq (destination u.key.ends) (destination p.ends) && (u.key.dport == 0)) (self m n)

  taken-re : (p : Packet) → is_taken (map (re_use m) us) (key_of (with_part (Proto m) p)) 0 ≡ is_taken (map (re_use n) us) (key_of (with_part (Proto n) p)) 0
  taken-re p =
      any-re (λ (u : Use). (u.port == 0) && kind_eq u.key.kind (ProtoKey m) && addr_eq (destination u.key.ends) (destination p.ends) && (u.key.dport == 0)) f m us (λ u. ap (λ b. (u.port == 0) && b && addr_eq (destination u.key.ends) (destination p.ends) && (u.key.dport == 0)) (self m n))
      ∙ sym (any-re (λ (u : Use). (u.port == 0) && kind_eq u.key.kind (ProtoKey n) && addr_eq (destination u.key.ends) (destination p.ends) && (u.key.dport == 0)) f n us (λ u. refl))
    where
      f : Use → Bool
      f u = (u.port == 0) && kind_eq (ProtoKey n) (ProtoKey n) && addr_eq (destination u.key.ends) (destination p.ends) && (u.key.dport == 0)

  port-re : (p : Packet) → new_port (map (re_use m) us) (key_of (with_part (Proto m) p)) ≡ new_port (map (re_use n) us) (key_of (with_part (Proto n) p))
  unfolding new_port
  port-re p = ap (λ b. if b then None else Some 0) (taken-re p)

  sourced-re : (way_in out : Leg) (by : Changed) (p : Packet) → new_source v (map (re_use m) us) way_in out by (with_part (Proto m) p) ≡ option_map (re_sourced m) (new_source v (map (re_use n) us) way_in out by (with_part (Proto n) p))
  sourced-re way_in out by p = start (are_four p.ends && way_in.inside && (not out.inside || by_any by))
    where
      new : (outer : ℕ) (o : Option ℕ) → sourced_new v.id (with_part (Proto m) p) outer o ≡ option_map (re_sourced m) (sourced_new v.id (with_part (Proto n) p) outer o)
      new outer None = refl
      new outer (Some port) = refl

      f : Use → Bool
      f u = key_eq (re_use n u).key (key_of (with_part (Proto n) p))

      use_re : (outer : ℕ) (o : Option Use) → sourced_use v.id (map (re_use m) us) (with_part (Proto m) p) outer (option_map (re_use m) o) ≡ option_map (re_sourced m) (sourced_use v.id (map (re_use n) us) (with_part (Proto n) p) outer (option_map (re_use n) o))
      use_re outer (Some u) = refl
      use_re outer None = ap (sourced_new v.id (with_part (Proto m) p) outer) (port-re p) ∙ new outer (new_port (map (re_use n) us) (key_of (with_part (Proto n) p)))

      gateway : (o : Option ℕ) → sourced_gateway v (map (re_use m) us) (with_part (Proto m) p) o ≡ option_map (re_sourced m) (sourced_gateway v (map (re_use n) us) (with_part (Proto n) p) o)
      gateway None = refl
      gateway (Some outer) =
          ap (sourced_use v.id (map (re_use m) us) (with_part (Proto m) p) outer) (find-re (λ (u : Use). key_eq u.key (key_of (with_part (Proto m) p))) f m us (λ u. key-re u p))
          ∙ use_re outer (find f us)
          ∙ sym (ap (λ o. option_map (re_sourced m) (sourced_use v.id (map (re_use n) us) (with_part (Proto n) p) outer o)) (find-re (λ (u : Use). key_eq u.key (key_of (with_part (Proto n) p))) f n us (λ u. refl)))

      float : (b : Bool) → (if b then sourced_gateway v (map (re_use m) us) (with_part (Proto m) p) v.gateway else kept_source (with_part (Proto m) p)) ≡ option_map (re_sourced m) (if b then sourced_gateway v (map (re_use n) us) (with_part (Proto n) p) v.gateway else kept_source (with_part (Proto n) p))
      float true = gateway v.gateway
      float false = refl

      floated : (o : Option Float) → sourced_float v (map (re_use m) us) out by (with_part (Proto m) p) o ≡ option_map (re_sourced m) (sourced_float v (map (re_use n) us) out by (with_part (Proto n) p) o)
      floated (Some z) = refl
      floated None = float ((not out.inside || by_float by) && v.snat && is_gateway_live v)

      start : (b : Bool) → (if b then sourced_float v (map (re_use m) us) out by (with_part (Proto m) p) (find (λ (f : Float). addr_eq (V4 f.fixed) (source p.ends)) v.floats) else kept_source (with_part (Proto m) p))
          ≡ option_map (re_sourced m) (if b then sourced_float v (map (re_use n) us) out by (with_part (Proto n) p) (find (λ (f : Float). addr_eq (V4 f.fixed) (source p.ends)) v.floats) else kept_source (with_part (Proto n) p))
      start false = refl
      start true = floated (find (λ (f : Float). addr_eq (V4 f.fixed) (source p.ends)) v.floats)

  to-re : (way_in : Leg) (by : Changed) (p : Packet) → routed_to v (map (re_use m) us) way_in (record { packet = with_part (Proto m) p; by = by }) ≡ re_routed m (routed_to v (map (re_use n) us) way_in (record { packet = with_part (Proto n) p; by = by }))
  to-re way_in by p = go (is_own v (destination p.ends)) (nat_le p.ttl 1)
    where
      lower : Packet
      lower = record p { ttl = p.ttl - 1 }

      send : (l : Leg) (hop : Addr) (o : Option Sourced) → sending_of l hop (option_map (re_sourced m) o) ≡ re_routed m (sending_of l hop o)
      send l hop None = refl
      send l hop (Some s) = refl

      out : (hop : Addr) (o : Option Leg) → routed_out v (map (re_use m) us) way_in by (with_part (Proto m) lower) hop o ≡ re_routed m (routed_out v (map (re_use n) us) way_in by (with_part (Proto n) lower) hop o)
      out hop None = refl
      out hop (Some l) = ap (sending_of l hop) (sourced-re way_in l by lower) ∙ send l hop (new_source v (map (re_use n) us) way_in l by (with_part (Proto n) lower))

      way : (o : Option Way) → routed_way v (map (re_use m) us) way_in by (with_part (Proto m) lower) o ≡ re_routed m (routed_way v (map (re_use n) us) way_in by (with_part (Proto n) lower) o)
      way None = refl
      way (Some w) = out (unwrap_or w.next (destination p.ends)) (find (λ (l : Leg). ident_eq w.port l.port) v.legs)

      go : (own low : Bool) → (if own then RouteEnds (Absorbed v.id) else if low then RouteEnds (Dropped Expired) else routed_way v (map (re_use m) us) way_in by (with_part (Proto m) lower) (best_way (destination p.ends) v.ways))
          ≡ re_routed m (if own then RouteEnds (Absorbed v.id) else if low then RouteEnds (Dropped Expired) else routed_way v (map (re_use n) us) way_in by (with_part (Proto n) lower) (best_way (destination p.ends) v.ways))
      go true low = refl
      go false true = refl
      go false false = way (best_way (destination p.ends) v.ways)

  pub routed-with : (way_in : Leg) (p : Packet) → new_destination v (map (re_use n) us) (with_part (Proto n) p) ≡ re_destined n (new_destination v (map (re_use n) us) (with_part (Proto n) p))
      → (if not v.up then RouteEnds (Dropped RouterDown) else routed_to v (map (re_use m) us) way_in (new_destination v (map (re_use m) us) (with_part (Proto m) p)))
      ≡ re_routed m (if not v.up then RouteEnds (Dropped RouterDown) else routed_to v (map (re_use n) us) way_in (new_destination v (map (re_use n) us) (with_part (Proto n) p)))
  routed-with way_in p own = go v.up
    where
      d : Destined
      d = new_destination v (map (re_use n) us) (with_part (Proto n) p)

      go : (b : Bool) → (if not b then RouteEnds (Dropped RouterDown) else routed_to v (map (re_use m) us) way_in (new_destination v (map (re_use m) us) (with_part (Proto m) p)))
          ≡ re_routed m (if not b then RouteEnds (Dropped RouterDown) else routed_to v (map (re_use n) us) way_in (new_destination v (map (re_use n) us) (with_part (Proto n) p)))
      go false = refl
      go true =
          ap (routed_to v (map (re_use m) us) way_in) (destined-re p)
          ∙ to-re way_in (new_destination v (map (re_use n) us) (with_part (Proto n) p)).by (new_destination v (map (re_use n) us) (with_part (Proto n) p)).packet
          ∙ sym (ap (λ (x : Destined). re_routed m (routed_to v (map (re_use n) us) way_in x)) own)

pub routed-re : (v : RouterView) (n m : ℕ) (es : List Entry) (way_in : Leg) (p : Packet) → routing_of v (map (re_entry m) es) way_in (with_part (Proto m) p) ≡ re_routed m (routing_of v (map (re_entry n) es) way_in (with_part (Proto n) p))
unfolding routing_of
routed-re v n m es way_in p =
    ap (λ us. if not v.up then RouteEnds (Dropped RouterDown) else routed_to v us way_in (new_destination v us (with_part (Proto m) p))) (uses-re-by m v.snat v.gateway v.id es)
    ∙ routed-with v n m (uses_by v.snat v.gateway v.id es) way_in p (destined-re v n n (uses_by v.snat v.gateway v.id es) p)
    ∙ sym (ap (λ us. re_routed m (if not v.up then RouteEnds (Dropped RouterDown) else routed_to v us way_in (new_destination v us (with_part (Proto n) p)))) (uses-re-by n v.snat v.gateway v.id es))
