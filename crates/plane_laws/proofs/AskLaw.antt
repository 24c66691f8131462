-- Guards, and asks for an address, on the bridge.
use Rattle.std.proofs.Common.{◌≡◌, ℕ, ◌-◌, ◌<◌, List, [], ◌∷◌, map, Bool, true, false, not, Option, Some, None, refl, ap, sym, ◌∙◌}
use Rattle.std.specs.Prelude.{find, option_map, ◌&&◌, ◌||◌, ◌==◌, if◌then◌else◌, is_some}
use Rattle.std.specs.List.{list_any}
use Rattle.std.specs.Str.{bytes_eq}
use Rattle.std.proofs.lemmas.Bool.{and_parts, and_right}
use Rattle.std.proofs.lemmas.List.Folds.{list_any-append}
use Rattle.api_types.proofs.NameLemmas.{ident_same}
use Rattle.plane_laws.proofs.ListLemmas.{find-passes, find-each, find-none_each, AllOf-more, list_any-map, list_any-same}
use Rattle.plane_laws.proofs.Located.{tag-row}
use Rattle.plane_laws.proofs.Tagged.{inward-located, inward-none}
use Rattle.plane_laws.proofs.Sent.{trace_of, walk-on, trace-plain}
use Rattle.plane_laws.proofs.SentLaw.{wire_self, wire_carrier}
use Rattle.plane_laws.proofs.Neighbours.{row_at, neighbour-located, holder-at}
use Rattle.plane_laws.proofs.FilterLaw.{any-const_left}
use Rattle.net_addr.proofs.AddrLemmas.{one_address}
use Rattle.net_addr.specs.Addresses.{addr_eq}
use Rattle.net_addr.specs.Ordered.{whole_prefix}
use Rattle.net_addr.specs.declared.address.Addr.{Addr}
use Rattle.net_addr.specs.declared.address.Addr.TheVariants.{V4}
use Rattle.net_addr.specs.Prefixes.{contains}
use Rattle.api_types.specs.Ident.{Ident}
use Rattle.api_types.specs.RowLists.{RowLists}
use Rattle.api_types.specs.Table.{ident_eq}
use Rattle.api_types.specs.declared.network.NetworkRow.{NetworkRow}
use Rattle.api_types.specs.declared.network.Segment.{Segment}
use Rattle.api_types.specs.declared.network.Segment.TheVariants.{Flat, Local, Vlan, Vxlan}
use Rattle.api_types.specs.declared.port.Fixed.{Fixed}
use Rattle.api_types.specs.declared.port.Pair.{Pair}
use Rattle.api_types.specs.declared.port.PortRow.{PortRow}
use Rattle.plane_types.specs.Ends.{source, destination}
use Rattle.plane_types.specs.Fabric.{Run, after_step, meant, next_position, takes, takes_at, walk, over_wire}
use Rattle.plane_types.specs.Guard.{guards, has_pair_mac, may_ask_lease, may_send}
use Rattle.api_types.specs.Holders.{has_mac, holder}
use Rattle.plane_types.specs.Hosts.{Host, is_named}
use Rattle.api_types.specs.Live.{is_joined, is_live, is_local, joined_with, segment}
use Rattle.api_types.specs.RowsWith.{network_with}
use Rattle.api_types.specs.Wires.{wire_of}
use Rattle.plane_types.specs.Meaning.{address_outcome, asked_by, end_fate, out_or}
use Rattle.plane_types.specs.Packets.{AddressAsk, address_ask, ask_frame, lease_ask, packet}
use Rattle.plane_types.specs.Places.{Bridge, Step, ToWire}
use Rattle.plane_types.specs.TableRows.{allowed_of, tag_of, tap_of}
use Rattle.plane_types.specs.TableStep.{asked_at, bridge_at_tag, bridge_step, drops, may_send_as, plain, stops, tap_guards, wire_or}
use Rattle.plane_types.specs.declared.frame.Frame.{Frame}
use Rattle.plane_types.specs.declared.frame.Frame.TheVariants.{Dhcp, Ip, NeighbourAsk, Other}
use Rattle.plane_types.specs.declared.table.Carrier.TheVariants.{Wire as ByWire}
use Rattle.api_types.specs.declared.wire.Wire.{Wire}
use Rattle.plane_types.specs.declared.verdict.AskAnswer.TheVariants.{Arp as ArpAnswer}
use Rattle.plane_types.specs.declared.verdict.DropCause.TheVariants.{NoHolder}
use Rattle.plane_types.specs.declared.verdict.Outcome.TheVariants.{Answered, Dropped, Out}
use Rattle.plane_types.specs.declared.verdict.Toward.TheVariants.{Address as TowardAddress}
use Rattle.plane_laws.proofs.Facts.{FrameFacts, HostFacts, SyncedFacts}

may-send-same : (p : PortRow) (mac : ℕ) (from : Addr) → may_send_as (allowed_of p) mac from ≡ may_send p mac from
may-send-same p mac from =
    list_any-append (λ (x : Pair). (x.mac == mac) && contains x.prefix from) (map (λ (f : Fixed). record { mac = p.mac; prefix = whole_prefix f.address }) p.fixed) p.pairs
    ∙ ap (λ b. b || list_any (λ (x : Pair). (x.mac == mac) && contains x.prefix from) p.pairs)
    (list_any-map (λ (x : Pair). (x.mac == mac) && contains x.prefix from) (λ (f : Fixed). record { mac = p.mac; prefix = whole_prefix f.address }) p.fixed
    ∙ list_any-same (λ (f : Fixed). (p.mac == mac) && contains (whole_prefix f.address) from) (λ (f : Fixed). (p.mac == mac) && addr_eq f.address from) p.fixed (λ f. ap (λ b. (p.mac == mac) && b) (one_address f.address from))
    ∙ any-const_left (λ (f : Fixed). addr_eq f.address from) (p.mac == mac) p.fixed)

may-lease-same : (p : PortRow) (mac : ℕ) → ((p.mac == mac) || list_any (λ (y : Pair). y.mac == mac) (allowed_of p)) ≡ may_ask_lease p mac
may-lease-same p mac =
    ap (λ b. (p.mac == mac) || b) (list_any-append (λ (y : Pair). y.mac == mac) (map (λ (f : Fixed). record { mac = p.mac; prefix = whole_prefix f.address }) p.fixed) p.pairs ∙ ap (λ b. b || has_pair_mac p.pairs mac) (list_any-map (λ (y : Pair). y.mac == mac) (λ (f : Fixed). record { mac = p.mac; prefix = whole_prefix f.address }) p.fixed))
    ∙ go (p.mac == mac) p.fixed
  where
    go : (b : Bool) (fs : List Fixed) → (b || (list_any (λ (f : Fixed). b) fs || has_pair_mac p.pairs mac)) ≡ (b || has_pair_mac p.pairs mac)
    go true fs = refl
    go false [] = refl
    go false (f ∷ fs) = go false fs

pub guards-same : (p : PortRow) (tag : ℕ) (frame : Frame) → tap_guards (tap_of p tag) frame ≡ guards p frame
guards-same p tag (Ip src dst ends ttl part) = may-send-same p (packet src dst ends ttl part).src (source ends)
guards-same p tag (NeighbourAsk src ends) = may-send-same p (address_ask src ends).src (source ends)
guards-same p tag (Dhcp src from) = ap (λ b. if (lease_ask src from).from == 0 then b else may_send_as (allowed_of p) (lease_ask src from).src (V4 (lease_ask src from).from)) (may-lease-same p (lease_ask src from).src) ∙ ap (λ b. if (lease_ask src from).from == 0 then may_ask_lease p (lease_ask src from).src else b) (may-send-same p (lease_ask src from).src (V4 (lease_ask src from).from))
guards-same p tag (Other s d y) = refl

module _ (rows : RowLists) (hosts : List Host) (good : FrameFacts rows) (synced : SyncedFacts rows hosts) (steps : ℕ) (h : Host) (n : Ident) (net : NetworkRow) (tag : ℕ) (a : AddressAsk) (run : Run) (enough : 0 < steps) (named : find (is_named h.name) hosts ≡ Some h) (there : network_with rows n ≡ Some net) (is_tagged : tag_of h.tables.tags n ≡ Some tag) where
  real : HostFacts rows h.name h.tables
  real = find-each (λ (y : Host). HostFacts rows y.name y.tables) (is_named h.name) hosts h synced.realise named

  no-taker : (w : Wire) → wire_of (segment rows n) ≡ Some w → holder rows n (destination a.ends) ≡ None → (x : Host) → HostFacts rows x.name x.tables → takes w (ask_frame a) x ≡ false
  no-taker w f none x r = go (tag_of x.tables.tags n) refl
    where
      go : (o : Option ℕ) → tag_of x.tables.tags n ≡ o → takes w (ask_frame a) x ≡ false
      go None e = ap (takes_at x.tables (ask_frame a)) (inward-none rows x.name x.tables r good n net (ByWire w) there e (wire_carrier (segment rows n) w f) (wire_self w))
      go (Some other) e = ap (takes_at x.tables (ask_frame a)) (inward-located rows x.name x.tables r good n other (ByWire w) e (wire_carrier (segment rows n) w f) (wire_self w)) ∙ ap is_some (neighbour-located rows x.name x.tables r good n other e (destination a.ends) ∙ ap (λ o. option_map (row_at other (destination a.ends)) (joined_with rows x.name o)) none)

  pub wire_far : (s : Segment) (w : Wire) → wire_of s ≡ Some w → is_local s ≡ false
  wire_far Local w e = cc
  wire_far (Flat p) w e = refl
  wire_far (Vlan p t) w e = refl
  wire_far (Vxlan m) w e = refl

  nobody-asked : (w : Wire) → wire_of (segment rows n) ≡ Some w → (o : Option PortRow) → holder rows n (destination a.ends) ≡ o → joined_with rows h.name o ≡ None → o ≡ None
  nobody-asked w f None e j = refl
  nobody-asked w f (Some q) e j =
      let at = holder-at rows good n (destination a.ends) q e in
      let hit = find-passes (has_mac rows n q.mac) rows.ports q at in
      let same : n ≡ q.network = ident_same n q.network (and_parts (ident_eq n q.network) (q.mac == q.mac) (and_parts (ident_eq n q.network && (q.mac == q.mac)) (is_live rows q) hit).0).0 in
      let joined : is_joined rows q h.name ≡ true = ap (λ i. not (is_local (segment rows i)) || bytes_eq q.host h.name) (sym same) ∙ ap (λ b. not b || bytes_eq q.host h.name) (wire_far (segment rows n) w f) in
      let bad : Some q ≡ None = sym (ap (λ b. if b then Some q else None) joined) ∙ j in
      cc

  step-is : (o : Option PortRow) → joined_with rows h.name (holder rows n (destination a.ends)) ≡ o → bridge_step h.tables false tag (ask_frame a) ≡ asked_at false (record { network = n; tag = tag; wire = wire_of (segment rows n) }) a (option_map (row_at tag (destination a.ends)) o)
  step-is o e = ap (bridge_at_tag h.tables false (ask_frame a)) (tag-row rows h.name h.tables.tags real.tags n tag is_tagged) ∙ ap (asked_at false (record { network = n; tag = tag; wire = wire_of (segment rows n) }) a) (neighbour-located rows h.name h.tables real good n tag is_tagged (destination a.ends) ∙ ap (option_map (row_at tag (destination a.ends))) e)

  by-step : (s : Step) → bridge_step h.tables false tag (ask_frame a) ≡ s → meant (walk hosts steps h (Bridge tag (ask_frame a)) run) ≡ meant (next_position hosts (walk hosts (steps - 1)) h (after_step h (Bridge tag (ask_frame a)) (plain s) run) s)
  by-step s e = ap meant (walk-on hosts steps h (Bridge tag (ask_frame a)) run enough) ∙ ap (λ x. meant (next_position hosts (walk hosts (steps - 1)) h (after_step h (Bridge tag (ask_frame a)) (plain x) run) x)) e

  pub arp-law : meant (walk hosts steps h (Bridge tag (ask_frame a)) run) ≡ end_fate (trace_of run) (address_outcome rows n h.name a)
  arp-law = go (joined_with rows h.name (holder rows n (destination a.ends))) refl (wire_of (segment rows n)) refl
    where
      go : (o : Option PortRow) → joined_with rows h.name (holder rows n (destination a.ends)) ≡ o → (w : Option Wire) → wire_of (segment rows n) ≡ w → meant (walk hosts steps h (Bridge tag (ask_frame a)) run) ≡ end_fate (trace_of run) (address_outcome rows n h.name a)
      go (Some q) e w f =
          by-step (stops (Answered (ArpAnswer (destination a.ends) q.mac))) (step-is (Some q) e)
          ∙ ap (λ t. end_fate t (Answered (ArpAnswer (destination a.ends) q.mac))) (trace-plain h (Bridge tag (ask_frame a)) (stops (Answered (ArpAnswer (destination a.ends) q.mac))) run refl)
          ∙ sym (ap (λ o. end_fate (trace_of run) (asked_by rows n a o)) e)
      go None e None f =
          by-step (drops NoHolder) (step-is None e ∙ ap (λ w. wire_or false n w (TowardAddress (destination a.ends)) (ask_frame a) NoHolder) f)
          ∙ ap (λ t. end_fate t (Dropped NoHolder)) (trace-plain h (Bridge tag (ask_frame a)) (drops NoHolder) run refl)
          ∙ sym (ap (λ o. end_fate (trace_of run) (asked_by rows n a o)) e ∙ ap (λ w. end_fate (trace_of run) (out_or w n (TowardAddress (destination a.ends)) (ask_frame a) NoHolder)) f)
      go None e (Some w) f =
          let none = nobody-asked w f (holder rows n (destination a.ends)) refl e in
          let nobody = find-none_each (λ (x : Host). not (bytes_eq x.name h.name) && takes w (ask_frame a) x) hosts (AllOf-more (λ (y : Host). HostFacts rows y.name y.tables) (λ (x : Host). (not (bytes_eq x.name h.name) && takes w (ask_frame a) x) ≡ false) hosts (λ x r. and_right (not (bytes_eq x.name h.name)) (takes w (ask_frame a) x) (no-taker w f none x r)) synced.realise) in
          by-step (ToWire w n (TowardAddress (destination a.ends)) (ask_frame a)) (step-is None e ∙ ap (λ w. wire_or false n w (TowardAddress (destination a.ends)) (ask_frame a) NoHolder) f)
          ∙ ap (λ o. meant (over_wire (walk hosts (steps - 1)) w n (TowardAddress (destination a.ends)) (ask_frame a) (after_step h (Bridge tag (ask_frame a)) (plain (ToWire w n (TowardAddress (destination a.ends)) (ask_frame a))) run) o)) nobody
          ∙ ap (λ t. end_fate t (Out n (TowardAddress (destination a.ends)) (ask_frame a))) (trace-plain h (Bridge tag (ask_frame a)) (ToWire w n (TowardAddress (destination a.ends)) (ask_frame a)) run refl)
          ∙ sym (ap (λ o. end_fate (trace_of run) (asked_by rows n a o)) e ∙ ap (λ w. end_fate (trace_of run) (out_or w n (TowardAddress (destination a.ends)) (ask_frame a) NoHolder)) f)
