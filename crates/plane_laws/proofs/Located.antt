-- What a look-up in a host's tables finds is what a search of the rows finds.
use Rattle.std.proofs.Common.{◌≡◌, ℕ, ◌+◌, List, ◌++◌, Bool, true, false, Option, Some, None, refl, ap, sym, subst, ◌∙◌, arith}
use Rattle.std.specs.Prelude.{find, option_and_then, option_map, ◌&&◌, ◌==◌, if◌then◌else◌}
use Rattle.std.specs.List.{filter_map}
use Rattle.std.specs.Option.{option_or}
use Rattle.std.proofs.lemmas.Bool.{and_parts, eqb-true, eq-eqb, false_from_ne_true, and_right}
use Rattle.std.proofs.lemmas.Option.{same_Some}
use Rattle.std.proofs.lemmas.Bool.Decides.{nat_tests}
use Rattle.std.proofs.lemmas.List.Folds.{find-append}
use Rattle.api_types.proofs.NameLemmas.{ident_same, ident_itself}
use Rattle.plane_laws.proofs.ListLemmas.{find-passes, find-each, find-only, AtMostOne-less, find-none_filter_map, option_or-none, find-filter_map, find-ascending}
use Rattle.api_types.specs.Ident.{Ident}
use Rattle.api_types.specs.Owners.{is_dhcp}
use Rattle.api_types.specs.RowLists.{RowLists}
use Rattle.api_types.specs.Table.{ident_eq}
use Rattle.api_types.specs.declared.port.PortRow.{PortRow}
use Rattle.api_types.specs.Holders.{has_mac, port_at}
use Rattle.plane_types.specs.Hosts.{bridge_before, bridge_key_eq, key_number, pair_before}
use Rattle.api_types.specs.Live.{is_live, segment}
use Rattle.api_types.specs.Wires.{wire_of}
use Rattle.plane_types.specs.TableRows.{bridge_by, bridge_rows, dhcp_row, end_of, mac_row, tag_of}
use Rattle.plane_types.specs.TableStep.{bridge_at}
use Rattle.plane_types.specs.declared.table.BridgeKey.{BridgeKey}
use Rattle.plane_types.specs.declared.table.BridgeKey.TheVariants.{Dhcp as AtDhcp, Mac as AtMac}
use Rattle.plane_types.specs.declared.table.BridgeRow.{BridgeRow}
use Rattle.plane_types.specs.declared.table.BridgeTo.{BridgeTo}
use Rattle.plane_types.specs.declared.table.TagRow.{TagRow}
use Rattle.plane_types.specs.declared.lists.TableLists.{TableLists}
use Rattle.plane_laws.proofs.Facts.{FrameFacts, HostFacts, TagFact, TagFacts}

pub and_true : (b : Bool) → (b && true) ≡ b
and_true true = refl
and_true false = refl

-- the row of a network's tag
pub tag-row : (rows : RowLists) (host : List ℕ) (tags : List TagRow) → TagFacts rows host tags → (n : Ident) (tag : ℕ) → tag_of tags n ≡ Some tag → find (λ (t : TagRow). t.tag == tag) tags ≡ Some (record { network = n; tag = tag; wire = wire_of (segment rows n) })
tag-row rows host tags real n tag h = go (find (λ (t : TagRow). ident_eq n t.network) tags) refl h
  where
    go : (o : Option TagRow) → find (λ (t : TagRow). ident_eq n t.network) tags ≡ o → option_map (λ (t : TagRow). t.tag) o ≡ Some tag → find (λ (t : TagRow). t.tag == tag) tags ≡ Some (record { network = n; tag = tag; wire = wire_of (segment rows n) })
    go None e h = cc
    go (Some row) e h =
        let own : row.tag ≡ tag = cc in
        let net : n ≡ row.network = ident_same n row.network (find-passes (λ (t : TagRow). ident_eq n t.network) tags row e) in
        let stands : TagFact rows row = find-each (TagFact rows) (λ (t : TagRow). ident_eq n t.network) tags row real.stand e in
        let found = find-only (λ (t : TagRow). ident_eq n t.network) (λ (t : TagRow). t.tag == tag) tags row (real.differ tag) e (eq-eqb row.tag tag own) in
        found ∙ ap Some (ap (λ w. record { network = row.network; tag = row.tag; wire = w }) stands.0 ∙ ap (λ i. record { network = i; tag = row.tag; wire = wire_of (segment rows i) }) (sym net) ∙ ap (λ t. record { network = n; tag = t; wire = wire_of (segment rows n) }) own)

-- tags are equal where networks are
pub tag-apart : (rows : RowLists) (host : List ℕ) (tags : List TagRow) → TagFacts rows host tags → (n m : Ident) (tag other : ℕ) → tag_of tags n ≡ Some tag → tag_of tags m ≡ Some other → (other == tag) ≡ ident_eq n m
tag-apart rows host tags real n m tag other h k = go (other == tag) (ident_eq n m) refl refl
  where
    go : (b c : Bool) → (other == tag) ≡ b → ident_eq n m ≡ c → b ≡ c
    go true true e f = refl
    go false false e f = refl
    go true false e f =
        let same : other ≡ tag = eqb-true other tag e in
        let a = tag-row rows host tags real n tag h in
        let b = tag-row rows host tags real m tag (k ∙ ap Some same) in
        let rowsame : n ≡ m = ap (λ (t : TagRow). t.network) (same_Some (record { network = n; tag = tag; wire = wire_of (segment rows n) }) (record { network = m; tag = tag; wire = wire_of (segment rows m) }) (sym a ∙ b)) in
        let t : ident_eq n m ≡ true = subst (λ x. ident_eq n x ≡ true) rowsame (ident_itself n) in
        cc
    go false true e f =
        let same : n ≡ m = ident_same n m f in
        let h2 : tag_of tags m ≡ Some tag = subst (λ x. tag_of tags x ≡ Some tag) same h in
        let tags_same : other ≡ tag = cc in
        let t = eq-eqb other tag tags_same in
        cc

-- bridge
key_places : (a b : BridgeKey) → bridge_key_eq a b ≡ true → key_number a ≡ key_number b
key_places AtDhcp AtDhcp h = refl
key_places (AtMac a) (AtMac b) h = ap (λ n. n + 1) (eqb-true a b h)
key_places AtDhcp (AtMac b) h = cc
key_places (AtMac a) AtDhcp h = cc

pub before_differs : (a b x y : ℕ) → pair_before a b x y ≡ true → a ≡ x → b ≡ y → ⊥
before_differs a b x y h e f = grind (arith, nat_tests)

pub bridge_apart : (tag : ℕ) (key : BridgeKey) (x y : BridgeRow) → bridge_before y x ≡ true → (x.tag == tag) && bridge_key_eq x.key key ≡ true → (y.tag == tag) && bridge_key_eq y.key key ≡ false
bridge_apart tag key x y before here = false_from_ne_true ((y.tag == tag) && bridge_key_eq y.key key) (λ there.
    let p = and_parts (x.tag == tag) (bridge_key_eq x.key key) here in
    let q = and_parts (y.tag == tag) (bridge_key_eq y.key key) there in
    before_differs y.tag (key_number y.key) x.tag (key_number x.key) before
    (eqb-true y.tag tag q.0 ∙ sym (eqb-true x.tag tag p.0))
    (key_places y.key key q.1 ∙ sym (key_places x.key key p.1)))

module _ (rows : RowLists) (host : List ℕ) (t : TableLists) (real : HostFacts rows host t) (good : FrameFacts rows) (n : Ident) (tag : ℕ) (tagged : tag_of t.tags n ≡ Some tag) where
  mac_hit : (mac : ℕ) (q : PortRow) (row : BridgeRow) → mac_row rows host t.tags q ≡ Some row → ((row.tag == tag) && bridge_key_eq row.key (AtMac mac)) ≡ has_mac rows n mac q
  mac_hit mac q row h = go (is_live rows q) (end_of rows host q) (tag_of t.tags q.network) refl refl h
    where
      go : (live : Bool) (to : Option BridgeTo) (o : Option ℕ) → is_live rows q ≡ live → tag_of t.tags q.network ≡ o → (if live then bridge_by (AtMac q.mac) to o else None) ≡ Some row → ((row.tag == tag) && bridge_key_eq row.key (AtMac mac)) ≡ has_mac rows n mac q
      go false to o e f h = cc
      go true None o e f h = cc
      go true (Some x) None e f h = cc
      go true (Some x) (Some other) e f h =
          let is : record { tag = other; key = AtMac q.mac; to = x } ≡ row = cc in
          let same = tag-apart rows host t.tags real.tags n q.network tag other tagged f in
          subst (λ (r : BridgeRow). ((r.tag == tag) && bridge_key_eq r.key (AtMac mac)) ≡ has_mac rows n mac q) is
          (ap (λ b. b && (q.mac == mac)) same ∙ sym (and_true (ident_eq n q.network && (q.mac == mac))) ∙ ap (λ b. (ident_eq n q.network && (q.mac == mac)) && b) (sym e))

  dhcp_miss : (mac : ℕ) (q : PortRow) (row : BridgeRow) → dhcp_row rows host t.tags q ≡ Some row → bridge_key_eq row.key (AtMac mac) ≡ false
  dhcp_miss mac q row h = go (is_dhcp q.owner) (is_live rows q) (end_of rows host q) (tag_of t.tags q.network) h
    where
      go : (dhcp live : Bool) (to : Option BridgeTo) (o : Option ℕ) → (if dhcp then (if live then bridge_by AtDhcp to o else None) else None) ≡ Some row → bridge_key_eq row.key (AtMac mac) ≡ false
      go false live to o h = cc
      go true false to o h = cc
      go true true None o h = cc
      go true true (Some x) None h = cc
      go true true (Some x) (Some other) h =
          let is : record { tag = other; key = AtDhcp; to = x } ≡ row = cc in
          subst (λ (r : BridgeRow). bridge_key_eq r.key (AtMac mac) ≡ false) is refl

  -- the bridge row of a MAC is that of the live port with the MAC
  pub bridge-located : (mac : ℕ) → bridge_at t tag (AtMac mac) ≡ option_and_then (mac_row rows host t.tags) (port_at rows n mac)
  unfolding bridge_rows
  bridge-located mac =
      let test = λ (r : BridgeRow). (r.tag == tag) && bridge_key_eq r.key (AtMac mac) in
      let one = AtMostOne-less (λ (p : PortRow). ident_eq n p.network && (p.mac == mac)) (has_mac rows n mac) rows.ports (λ q e. (and_parts (ident_eq n q.network && (q.mac == mac)) (is_live rows q) e).0) (good.macs n mac) in
      ap (find test) real.bridge
      ∙ find-ascending bridge_before test (filter_map (mac_row rows host t.tags) rows.ports ++ filter_map (dhcp_row rows host t.tags) rows.ports) (bridge_apart tag (AtMac mac))
      ∙ find-append test (filter_map (mac_row rows host t.tags) rows.ports) (filter_map (dhcp_row rows host t.tags) rows.ports)
      ∙ ap (option_or (find test (filter_map (mac_row rows host t.tags) rows.ports))) (find-none_filter_map test (dhcp_row rows host t.tags) rows.ports (λ q row e. let m = dhcp_miss mac q row e in and_right (row.tag == tag) (bridge_key_eq row.key (AtMac mac)) m))
      ∙ option_or-none (find test (filter_map (mac_row rows host t.tags) rows.ports))
      ∙ find-filter_map (has_mac rows n mac) test (mac_row rows host t.tags) rows.ports (mac_hit mac) one
