-- Hosts that hold the rows have what the law of frames uses of them.
use Rattle.std.proofs.Common.{◌≡◌, ℕ, List, Bool, true, false, not, Option, Some, None, refl, ap, sym, ◌∙◌}
use Rattle.std.specs.Prelude.{find, is_some, ◌&&◌, ◌||◌, ◌==◌, option_map, if◌then◌else◌}
use Rattle.std.specs.List.{list_any}
use Rattle.std.specs.Str.{bytes_eq}
use Rattle.api_types.proofs.ListLemmas.{and_both, both_and, any-at}
use Rattle.plane_laws.proofs.ListLemmas.{find-some, AllOf-more}
use Rattle.plane_laws.proofs.Counted.{all-of, once-counted, any-made}
use Rattle.plane_laws.proofs.FactsHold.{unless-passes}
use Rattle.api_types.specs.Consistent.Carried.{AreCarried, is_bound}
use Rattle.api_types.specs.Ident.{Ident}
use Rattle.api_types.specs.RowLists.{RowLists}
use Rattle.api_types.specs.Table.{ident_eq}
use Rattle.api_types.specs.declared.network.NetworkRow.{NetworkRow}
use Rattle.api_types.specs.declared.network.Segment.{Segment}
use Rattle.api_types.specs.declared.port.PortRow.{PortRow}
use Rattle.api_types.specs.declared.router.RouterRow.{RouterRow}
use Rattle.plane_types.specs.Hosts.{Host, is_named}
use Rattle.api_types.specs.Live.{is_live, network_up}
use Rattle.api_types.specs.RowsWith.{network_with}
use Rattle.plane_types.specs.Attached.{is_attached}
use Rattle.plane_types.specs.Realises.{Realises, TagStands}
use Rattle.plane_types.specs.Synced.{AreSynced}
use Rattle.plane_types.specs.TableRows.{is_on_host, is_tap, router_row, router_rows, tag_of, tap_of, tap_row, tap_rows}
use Rattle.plane_types.specs.declared.entry.Entry.{Entry}
use Rattle.plane_types.specs.declared.entry.Entry.TheVariants.{Flow, Snat}
use Rattle.plane_types.specs.declared.table.RouterTable.{RouterTable}
use Rattle.plane_types.specs.declared.table.TagRow.{TagRow}
use Rattle.plane_types.specs.declared.table.TapRow.{TapRow}
use Rattle.plane_types.specs.declared.lists.TableLists.{TableLists}
use Rattle.plane_laws.proofs.Facts.{EntriesStand, HostFacts, SyncedFacts, TagFact, is_tap_id, stands_at}

pub host-facts : (rows : RowLists) (host : List ℕ) (t : TableLists) → Realises rows host t → HostFacts rows host t
host-facts rows host t r = record {
  tags = record {
    networks = r.tags.networks;
    stand = AllOf-more (TagStands rows) (TagFact rows) t.tags (λ x s. (s.wire, s.first, s.last)) (all-of (TagStands rows) t.tags r.tags.stand);
    differ = λ tag. once-counted (λ (x : TagRow). x.tag == tag) t.tags (r.tags.differ tag);
  };
  taps = r.taps;
  filters = r.filters;
  sets = r.sets;
  bridge = r.bridge;
  inward = r.inward;
  neighbours = r.neighbours;
  routers = r.routers;
  routes = r.routes;
  floats = r.floats;
  leases = r.leases;
}

module _ (rows : RowLists) (h : Host) (real : Realises rows h.name h.tables) where
  -- a tap is of a port that has one here, and a router's row of a router of this host
  tap-here : (port : Ident) → list_any (λ (r : TapRow). ident_eq port r.port) h.tables.taps ≡ true → list_any (is_tap_id rows h.name port) rows.ports ≡ true
  unfolding tap_rows
  tap-here port e = any-made (is_tap_id rows h.name port) (λ (r : TapRow). ident_eq port r.port) (tap_row rows h.name h.tables.tags) rows.ports
      (λ p r is passes. go p r (is_tap rows h.name p) refl (tag_of h.tables.tags p.network) is passes)
      (sym (ap (list_any (λ (r : TapRow). ident_eq port r.port)) real.taps) ∙ e)
    where
      go : (p : PortRow) (r : TapRow) (b : Bool) → is_tap rows h.name p ≡ b → (o : Option ℕ) → (if b then option_map (tap_of p) o else None) ≡ Some r → ident_eq port r.port ≡ true → is_tap_id rows h.name port p ≡ true
      go p r false s o is passes = cc
      go p r true s None is passes = cc
      go p r true s (Some tag) is passes = let same : tap_of p tag ≡ r = cc in both_and (ident_eq port p.id) (is_tap rows h.name p) (ap (λ (x : TapRow). ident_eq port x.port) same ∙ passes) s

  router-here : (router : Ident) → list_any (λ (r : RouterTable). ident_eq router r.router) h.tables.routers ≡ true → list_any (λ (x : RouterRow). ident_eq router x.id && is_on_host h.name x) rows.routers ≡ true
  unfolding router_rows
  router-here router e = any-made (λ (x : RouterRow). ident_eq router x.id && is_on_host h.name x) (λ (r : RouterTable). ident_eq router r.router) (λ r. if is_on_host h.name r then Some (router_row rows h.tables.tags r) else None) rows.routers
      (λ x r is passes. go x r (is_on_host h.name x) refl is passes)
      (sym (ap (list_any (λ (r : RouterTable). ident_eq router r.router)) real.routers) ∙ e)
    where
      go : (x : RouterRow) (r : RouterTable) (b : Bool) → is_on_host h.name x ≡ b → (if b then Some (router_row rows h.tables.tags x) else None) ≡ Some r → ident_eq router r.router ≡ true → ident_eq router x.id && is_on_host h.name x ≡ true
      go x r false s is passes = cc
      go x r true s is passes = let same : router_row rows h.tables.tags x ≡ r = cc in both_and (ident_eq router x.id) (is_on_host h.name x) (ap (λ (y : RouterTable). ident_eq router y.router) same ∙ passes) s

  pub entry-stands : (e : Entry) → is_attached h.tables e ≡ true → stands_at rows h.name e ≡ true
  entry-stands (Flow port d k) p = tap-here port p
  entry-stands (Snat r k o x) p = router-here r p

module _ (carry : List ℕ → Segment → Bool) (rows : RowLists) (hosts : List Host) (carried : AreCarried carry rows.networks rows.ports) (synced : AreSynced carry rows hosts) where
  abbrev IsCarried : PortRow → Type 0
  IsCarried p = not (is_bound p.vif) || list_any (λ (n : NetworkRow). ident_eq p.network n.id && carry p.host n.segment) rows.networks ≡ true

  has-host : (p : PortRow) → IsCarried p → is_live rows p ≡ true → is_some (find (λ (h : Host). bytes_eq p.host h.name) hosts) ≡ true
  unfolding is_live
  has-host p is live =
      let bound = (and_both p.up (is_bound p.vif) (and_both (p.up && is_bound p.vif) (network_up (network_with rows p.network)) live).0).1 in
      let at = any-at (λ (n : NetworkRow). ident_eq p.network n.id && carry p.host n.segment) rows.networks
      (unless-passes (is_bound p.vif) (list_any (λ (n : NetworkRow). ident_eq p.network n.id && carry p.host n.segment) rows.networks) is bound) in
      let n : NetworkRow = at.1 in
      find-some (λ (h : Host). bytes_eq p.host h.name) hosts ∙ synced.complete p.host n.segment (and_both (ident_eq p.network n.id) (carry p.host n.segment) at.3).1

  pub synced-facts : SyncedFacts rows hosts
  synced-facts = record {
    realise = AllOf-more (λ (h : Host). Realises rows h.name h.tables) (λ (h : Host). HostFacts rows h.name h.tables) hosts (λ h r. host-facts rows h.name h.tables r) (all-of _ hosts synced.realise);
    stand = all-of (EntriesStand rows) hosts (λ k h at. all-of (λ e. stands_at rows h.name e ≡ true) h.entries (λ j e here. entry-stands rows h (synced.realise k h at) e ((synced.placed k h at).stand j e here)));
    names = λ name. once-counted (is_named name) hosts (synced.names name);
    complete = AllOf-more IsCarried (λ p. is_live rows p ≡ true → is_some (find (λ (h : Host). bytes_eq p.host h.name) hosts) ≡ true) rows.ports has-host (all-of IsCarried rows.ports carried.at_host);
  }
