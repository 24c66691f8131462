-- No two ports give entries of the bridge with one key, and an untouched port's entries stay.
use Rattle.std.proofs.Common.{◌≡◌, ◌∙◌, ℕ, List, map, Option, Some, None, Bool, true, false, true≢false, not, refl, sym, ap, subst, arith}
use Rattle.std.specs.Prelude.{◌&&◌, ◌||◌, ◌==◌, if◌then◌else◌, is_some, nat_lt}
use Rattle.std.specs.List.{list_any}
use Rattle.std.proofs.lemmas.Bool.{and_from, and_parts, eq-eqb}
use Rattle.api_types.proofs.IdTexts.{one-text}
use Rattle.api_types.proofs.ListLemmas.{any-weaker}
use Rattle.api_types.proofs.NameLemmas.{bytes_same, ident_itself}
use Rattle.api_types.specs.Consistent.{IsConsistent}
use Rattle.api_types.specs.Holders.{router_of}
use Rattle.api_types.specs.Ident.{Ident, IsDrawable, ident_text}
use Rattle.api_types.specs.Live.{is_at, is_live}
use Rattle.api_types.specs.Owners.{device_is, is_dhcp, is_dhcp_of, is_port_of, is_router_port}
use Rattle.api_types.specs.RowLists.{RowLists}
use Rattle.api_types.specs.Table.{ident_eq}
use Rattle.api_types.specs.declared.port.PortRow.{PortRow}
use Rattle.api_types.specs.declared.router.RouterRow.{RouterRow}
use Rattle.plane_laws.proofs.Counted.{all-of}
use Rattle.plane_laws.proofs.Facts.{AllOf, AtMostOne, FrameFacts}
use Rattle.plane_laws.proofs.FactsHold.{frame-facts, unless-passes}
use Rattle.plane_laws.proofs.ListLemmas.{find-each, find-passes, find-some, some_of}
use Rattle.plane_types.specs.Hosts.{key_number}
use Rattle.plane_types.specs.Keyed.{AreApart, IsTotal, are_one, pair_order, row_at}
use Rattle.plane_types.specs.KeyedTables.{BridgeKeyAt, bridge_key}
use Rattle.plane_types.specs.Realises.{RealisesTags}
use Rattle.plane_types.specs.TableRows.{bridge_by, bridge_row, dhcp_row, end_of, mac_row, tag_of, to_here, to_router, to_there}
use Rattle.plane_types.specs.declared.table.BridgeKey.{BridgeKey}
use Rattle.plane_types.specs.declared.table.BridgeKey.TheVariants.{Dhcp as AtDhcp, Mac as AtMac}
use Rattle.plane_types.specs.declared.table.BridgeRow.{BridgeRow}
use Rattle.plane_types.specs.declared.table.BridgeTo.{BridgeTo}
use Rattle.plane_types.specs.declared.table.BridgeTo.TheVariants.{Router as ToRouter, Tap as ToTap}
use Rattle.plane_types.specs.declared.table.TagRow.{TagRow}
use Rattle.plane_types.proofs.KeyedTablesLemmas.{unkeyed}
use Rattle.plane_types.proofs.LocalLemmas.{IsAlike, live_same}
use Rattle.plane_types.proofs.NumberedLemmas.{number_order}
use Rattle.plane_types.proofs.PairLemmas.{pair_total}
use Rattle.plane_types.proofs.TagLemmas.{one-network}
use Rattle.row_laws.proofs.PlaceLemmas.{router_drawable}
use Rattle.l2_delta.proofs.MapLaw.{as_list}
use Rattle.l2_delta.proofs.NumberedSources.{GiveOwn, have_key, one_number}
use Rattle.l2_delta.proofs.SourceLaw.{one_is}

abbrev pub before : BridgeKeyAt → BridgeKeyAt → Bool
before = pair_order nat_lt nat_lt

pub order : IsTotal (pair_order nat_lt nat_lt)
order = pair_total nat_lt nat_lt number_order number_order

abbrev entry : ℕ → BridgeKey → BridgeTo → BridgeRow
entry tag key to = record { tag = tag; key = key; to = to }

module _ (rows : RowLists) (host : List ℕ) (tags : List TagRow) where
  abbrev pub of_mac : PortRow → List BridgeRow
  of_mac p = as_list (mac_row rows host tags p)

  abbrev pub of_dhcp : PortRow → List BridgeRow
  of_dhcp p = as_list (dhcp_row rows host tags p)

  -- the key of an entry that leads to a port
  entry_key : (key : BridgeKey) (p : PortRow) (q : BridgeKeyAt) → have_key before bridge_key q (as_list (bridge_row rows host tags key p)) → (tag_of tags p.network ≡ Some q.0) × (key_number key ≡ q.1)
  entry_key key p q h = go (is_live rows p) (end_of rows host p) (tag_of tags p.network) refl h
    where
      go : (live : Bool) (to : Option BridgeTo) (o : Option ℕ) → tag_of tags p.network ≡ o → have_key before bridge_key q (as_list (if live then bridge_by key to o else None)) → (tag_of tags p.network ≡ Some q.0) × (key_number key ≡ q.1)
      go false to o t h = absurd (true≢false (sym h))
      go true None o t h = absurd (true≢false (sym h))
      go true (Some to) None t h = absurd (true≢false (sym h))
      go true (Some to) (Some tag) t h = by (are_one before q (tag, key_number key)) refl h
        where
          by : (b : Bool) → are_one before q (tag, key_number key) ≡ b → is_some (if b then Some (entry tag key to) else None) ≡ true → (tag_of tags p.network ≡ Some q.0) × (key_number key ≡ q.1)
          by true e h =
              let same : q ≡ (tag, key_number key) = one_is before order q (tag, key_number key) e in
              (t ∙ ap Some (sym (ap (λ (k : BridgeKeyAt). k.0) same)), sym (ap (λ (k : BridgeKeyAt). k.1) same))
          by false e h = absurd (true≢false (sym h))

  dhcp_key : (p : PortRow) (q : BridgeKeyAt) → have_key before bridge_key q (of_dhcp p) → (is_dhcp p.owner ≡ true) × (tag_of tags p.network ≡ Some q.0) × (0 ≡ q.1)
  dhcp_key p q h = go (is_dhcp p.owner) refl h
    where
      go : (b : Bool) → is_dhcp p.owner ≡ b → have_key before bridge_key q (as_list (if b then bridge_row rows host tags AtDhcp p else None)) → (is_dhcp p.owner ≡ true) × (tag_of tags p.network ≡ Some q.0) × (0 ≡ q.1)
      go true e h = let at = entry_key AtDhcp p q h in (e, at.0, at.1)
      go false e h = absurd (true≢false (sym h))

  one_apart : (o : Option BridgeRow) → AreApart before (map bridge_key (as_list o))
  one_apart None = tt
  one_apart (Some r) = (tt, tt)

  module _ (good : IsConsistent rows) (real : RealisesTags rows host tags) (ps : List (ℕ × PortRow)) (are_ports : unkeyed ps ≡ rows.ports) where
    facts : FrameFacts rows
    facts = frame-facts rows good

    one_tagged : (n m : Ident) (tag : ℕ) → tag_of tags n ≡ Some tag → tag_of tags m ≡ Some tag → n ≡ m
    one_tagged n m tag h k = one-network tags n m tag (real.differ tag) h k

    abbrev has_mac : Ident → ℕ → PortRow → Bool
    has_mac n mac p = ident_eq n p.network && (p.mac == mac)

    on_network : (n m : Ident) → m ≡ n → ident_eq n m ≡ true
    on_network n m e = subst (λ i. ident_eq n i ≡ true) (sym e) (ident_itself n)

    macs_once : (k n : ℕ) (x z : PortRow) (q : BridgeKeyAt) → row_at nat_lt k ps ≡ Some x → row_at nat_lt n ps ≡ Some z → have_key before bridge_key q (of_mac x) → have_key before bridge_key q (of_mac z) → k ≡ n
    macs_once k n x z q at there h i =
        let a = entry_key (AtMac x.mac) x q h in
        let b = entry_key (AtMac z.mac) z q i in
        let same : z.mac ≡ x.mac = omega (arith, a.1, b.1) in
        one_number (has_mac x.network x.mac) ps (subst (AtMostOne (has_mac x.network x.mac)) (sym are_ports) (facts.macs x.network x.mac)) k n x z at there
        (and_from (ident_eq x.network x.network) (x.mac == x.mac) (ident_itself x.network) (eq-eqb x.mac x.mac refl))
        (and_from (ident_eq x.network z.network) (z.mac == x.mac) (on_network x.network z.network (one_tagged z.network x.network q.0 b.0 a.0)) (eq-eqb z.mac x.mac same))

    dhcp_once : (k n : ℕ) (x z : PortRow) (q : BridgeKeyAt) → row_at nat_lt k ps ≡ Some x → row_at nat_lt n ps ≡ Some z → have_key before bridge_key q (of_dhcp x) → have_key before bridge_key q (of_dhcp z) → k ≡ n
    dhcp_once k n x z q at there h i =
        let a = dhcp_key x q h in
        let b = dhcp_key z q i in
        one_number (is_dhcp_of x.network) ps (subst (AtMostOne (is_dhcp_of x.network)) (sym are_ports) (facts.dhcp_ports x.network)) k n x z at there
        (and_from (ident_eq x.network x.network) (is_dhcp x.owner) (ident_itself x.network) a.0)
        (and_from (ident_eq x.network z.network) (is_dhcp z.owner) (on_network x.network z.network (one_tagged z.network x.network q.0 b.1 a.1)) b.0)

    not_both : (k j : ℕ) (x y : PortRow) (q : BridgeKeyAt) → row_at nat_lt k ps ≡ Some x → row_at nat_lt j ps ≡ Some y → have_key before bridge_key q (of_mac x) → have_key before bridge_key q (of_dhcp y) → ⊥
    not_both k j x y q at there h i =
        let a = entry_key (AtMac x.mac) x q h in
        let b = dhcp_key y q i in
        absurd (omega (arith, a.1, b.2))

    pub bridge_own : GiveOwn before order bridge_key of_mac of_dhcp ps ps
    bridge_own = record {
      first_apart = λ k p at. one_apart (mac_row rows host tags p);
      second_apart = λ k p at. one_apart (dhcp_row rows host tags p);
      first_once = macs_once;
      second_once = dhcp_once;
      not_both = not_both;
    }

-- ---- the router of an untouched port keeps its id

module _ (rows : RowLists) (good : IsConsistent rows) where
  drawable : AllOf (λ (r : RouterRow). IsDrawable r.id) rows.routers
  drawable = all-of (λ (r : RouterRow). IsDrawable r.id) rows.routers (router_drawable rows good)

  abbrev pub HasRouter : PortRow → Type 0
  HasRouter p = not (is_router_port p.owner) || list_any (λ (r : RouterRow). is_port_of r p) rows.routers ≡ true

  pub have_routers : AllOf HasRouter rows.ports
  have_routers = all-of HasRouter rows.ports good.services.of_routers.devices

  pub its_router : (p : PortRow) → HasRouter p → is_router_port p.owner ≡ true → (r : RouterRow) × (router_of rows p ≡ Some r) × IsDrawable r.id × (device_is p.device r.id ≡ true)
  its_router p has is =
      let any = unless-passes (is_router_port p.owner) (list_any (λ (r : RouterRow). is_port_of r p) rows.routers) has is in
      let found = some_of (router_of rows p) (find-some (λ (r : RouterRow). device_is p.device r.id) rows.routers
      ∙ any-weaker (λ (r : RouterRow). is_port_of r p) (λ (r : RouterRow). device_is p.device r.id) rows.routers (λ r h. (and_parts (is_router_port p.owner) (device_is p.device r.id) h).1) any) in (
        found.0,
        found.1,
        find-each (λ (r : RouterRow). IsDrawable r.id) (λ (r : RouterRow). device_is p.device r.id) rows.routers found.0 drawable found.1,
        find-passes (λ (r : RouterRow). device_is p.device r.id) rows.routers found.0 found.1,
      )

one_device : (device : List ℕ) (i j : Ident) → IsDrawable i → IsDrawable j → device_is device i ≡ true → device_is device j ≡ true → i ≡ j
unfolding device_is
one_device device i j hi hj is also = one-text i j hi hj (sym (bytes_same device (ident_text i) is) ∙ bytes_same device (ident_text j) also)

module _ (rows now : RowLists) (host : List ℕ) (old new : List TagRow) (good : IsConsistent rows) (good_now : IsConsistent now) where
  here_stays : (p : PortRow) → HasRouter rows good p → HasRouter now good_now p → to_here rows p ≡ to_here now p
  here_stays p has also = go (is_router_port p.owner) refl
    where
      go : (b : Bool) → is_router_port p.owner ≡ b → (if b then to_router p (router_of rows p) else Some (ToTap p.id)) ≡ (if b then to_router p (router_of now p) else Some (ToTap p.id))
      go false e = refl
      go true e =
          let a = its_router rows good p has e in
          let b = its_router now good_now p also e in
          let same : (a.0).id ≡ (b.0).id = one_device p.device (a.0).id (b.0).id a.2 b.2 a.3 b.3 in
          ap (to_router p) a.1 ∙ ap (λ i. Some (ToRouter i p.id)) same ∙ sym (ap (to_router p) b.1)

  pub entry_stays : (key : BridgeKey) (p : PortRow) → IsAlike rows now old new p.network → HasRouter rows good p → HasRouter now good_now p → bridge_row rows host old key p ≡ bridge_row now host new key p
  entry_stays key p same has also =
      (λ j. if live_same rows now host old new p same j
      then bridge_by key (if is_at host p then here_stays p has also j else to_there (same.on j) p) (same.tag j) else None)
