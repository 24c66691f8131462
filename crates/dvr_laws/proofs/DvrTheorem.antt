-- The law, for one event of any kind: outcome, path and fresh entries are those of the rows, and the hosts are those that the rows say.
use Rattle.api_types.specs.Live.{is_live}
use Rattle.api_types.specs.RowLists.{RowLists}
use Rattle.api_types.specs.declared.network.Segment.{Segment}
use Rattle.api_types.specs.declared.port.PortRow.{PortRow}
use Rattle.dvr_laws.proofs.DvrAsk.{asks-dvr}
use Rattle.dvr_laws.proofs.DvrLease.{leases-dvr}
use Rattle.dvr_laws.proofs.DvrParts.{DvrFacts, every, host_of}
use Rattle.dvr_laws.proofs.DvrPort.{port-dvr}
use Rattle.dvr_laws.proofs.DvrWire.{wire-dvr}
use Rattle.dvr_laws.specs.Held.{HoldCopies}
use Rattle.dvr_types.specs.Copies.{copies_for}
use Rattle.dvr_types.specs.DvrFabric.{DvrHost, dvr_fate, is_dvr_named}
use Rattle.dvr_types.specs.DvrVerdicts.{dvr_meaning, dvr_meant, names_of_hosts, plain_hosts}
use Rattle.dvr_types.specs.Handlers.{handlers}
use Rattle.dvr_types.specs.StandFor.{StandFor}
use Rattle.plane_laws.proofs.Counted.{AllOf-both, all-of, once-counted}
use Rattle.plane_laws.proofs.Facts.{AllOf, EntriesStand, FrameFacts, HostFacts, SyncedFacts, stands_at}
use Rattle.plane_laws.proofs.FactsHold.{frame-facts}
use Rattle.plane_laws.proofs.KeptLaw.{AllOf-map}
use Rattle.plane_laws.proofs.ListLemmas.{AllOf-more, AtMostOne-map, find-some, list_any-map}
use Rattle.plane_laws.proofs.SyncedHold.{entry-stands, host-facts, synced-facts}
use Rattle.plane_types.specs.Attached.{IsAttached}
use Rattle.plane_types.specs.Hosts.{Host, is_named}
use Rattle.plane_types.specs.Meaning.{rows_fate}
use Rattle.plane_types.specs.Realises.{Realises}
use Rattle.plane_types.specs.declared.event.Event.{Event}
use Rattle.plane_types.specs.declared.event.Event.TheVariants.{FromPort, FromWire}
use Rattle.std.proofs.Common.{Bool, List, true, ℕ, ◌∙◌, ◌≡◌}
use Rattle.std.specs.List.{list_any}
use Rattle.std.specs.Prelude.{find, is_some}
use Rattle.std.specs.Str.{bytes_eq}

pub by-facts : (rows : RowLists) (hosts : List DvrHost) → FrameFacts rows → DvrFacts rows hosts → (event : Event) → dvr_meant (dvr_fate hosts event) ≡ dvr_meaning rows (every hosts) (names_of_hosts hosts) event
unfolding rows_fate handlers
by-facts rows hosts good facts (FromPort port frame) = port-dvr rows hosts good facts (asks-dvr rows hosts good facts) (leases-dvr rows hosts good facts) port frame
by-facts rows hosts good facts (FromWire physical tag frame) = wire-dvr rows hosts good facts (record { physical = physical; tag = tag }) frame

-- hosts that hold the rows
pub dvr-facts : (carry : List ℕ → Segment → Bool) (rows : RowLists) (hosts : List DvrHost) → HoldCopies carry rows hosts → DvrFacts rows hosts
dvr-facts carry rows hosts h = record {
  synced = synced-facts carry rows (plain_hosts hosts) h.held.carried h.held.synced;
  copied = all-of (λ (d : DvrHost). d.copies ≡ copies_for rows d.host.name) hosts h.copied;
}

pub tables-mean-rows-dvr : (carry : List ℕ → Segment → Bool) (rows : RowLists) (hosts : List DvrHost) → HoldCopies carry rows hosts → (event : Event) → dvr_meant (dvr_fate hosts event) ≡ dvr_meaning rows (every hosts) (names_of_hosts hosts) event
tables-mean-rows-dvr carry rows hosts h event = by-facts rows hosts (frame-facts rows h.held.consistent) (dvr-facts carry rows hosts h) event

-- tables, copies and entries that stand for the rows
module _ (rows : RowLists) (hosts : List DvrHost) (s : StandFor rows hosts) where
  realised : AllOf (λ (d : DvrHost). Realises rows d.host.name d.host.tables) hosts
  realised = all-of (λ (d : DvrHost). Realises rows d.host.name d.host.tables) hosts s.realise

  standing : AllOf (λ (d : DvrHost). EntriesStand rows d.host) hosts
  standing = AllOf-both (λ (d : DvrHost). Realises rows d.host.name d.host.tables) (λ (d : DvrHost). IsAttached d.host) (λ (d : DvrHost). EntriesStand rows d.host) hosts
      (λ d r p. all-of (λ e. stands_at rows d.host.name e ≡ true) d.host.entries (λ j e here. entry-stands rows d.host r e (p.stand j e here)))
      realised (all-of (λ (d : DvrHost). IsAttached d.host) hosts s.placed)

  synced-for : SyncedFacts rows (plain_hosts hosts)
  synced-for = record {
    realise = AllOf-map (λ (h : Host). HostFacts rows h.name h.tables) host_of hosts (AllOf-more (λ (d : DvrHost). Realises rows d.host.name d.host.tables) (λ (d : DvrHost). HostFacts rows d.host.name d.host.tables) hosts (λ d r. host-facts rows d.host.name d.host.tables r) realised);
    stand = AllOf-map (EntriesStand rows) host_of hosts standing;
    names = λ name. AtMostOne-map (is_named name) host_of hosts (once-counted (is_dvr_named name) hosts (s.names name));
    complete = AllOf-more (λ (p : PortRow). is_live rows p ≡ true → list_any (is_dvr_named p.host) hosts ≡ true) (λ (p : PortRow). is_live rows p ≡ true → is_some (find (λ (h : Host). bytes_eq p.host h.name) (plain_hosts hosts)) ≡ true) rows.ports
        (λ p there live. find-some (is_named p.host) (plain_hosts hosts) ∙ list_any-map (is_named p.host) host_of hosts ∙ there live)
        (all-of (λ (p : PortRow). is_live rows p ≡ true → list_any (is_dvr_named p.host) hosts ≡ true) rows.ports s.live);
  }

  pub tables-mean-rows-for : (event : Event) → dvr_meant (dvr_fate hosts event) ≡ dvr_meaning rows (every hosts) (names_of_hosts hosts) event
  tables-mean-rows-for event = by-facts rows hosts (frame-facts rows s.consistent) (record { synced = synced-for; copied = all-of (λ (d : DvrHost). d.copies ≡ copies_for rows d.host.name) hosts s.copied }) event
