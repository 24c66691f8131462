-- The law, for one event of any kind.
use Rattle.std.proofs.Common.{◌≡◌, List, [], ◌∷◌, ℕ, Bool, map, refl, ap, ◌∙◌}
use Rattle.plane_laws.proofs.FactsHold.{frame-facts}
use Rattle.plane_laws.proofs.SyncedHold.{synced-facts}
use Rattle.plane_laws.proofs.PortLaw.{port-law}
use Rattle.plane_laws.proofs.Leases.{lease-law}
use Rattle.plane_laws.proofs.WireLaw.{wire-law}
use Rattle.api_types.specs.RowLists.{RowLists}
use Rattle.api_types.specs.declared.network.Segment.{Segment}
use Rattle.plane_types.specs.Fabric.{FabricFate, fabric_fate, meant}
use Rattle.plane_types.specs.Hosts.{Host, all_entries}
use Rattle.plane_types.specs.Meaning.{rows_fate}
use Rattle.plane_types.specs.Verdicts.{entries_made, fabric_verdict, of_nobody, rows_verdict, verdict_of_run, verdict_of_fate, made_entries, without_hosts}
use Rattle.plane_types.specs.declared.entry.Entry.{Entry}
use Rattle.plane_types.specs.declared.event.Event.{Event}
use Rattle.plane_types.specs.declared.event.Event.TheVariants.{FromPort, FromWire}
use Rattle.plane_laws.proofs.Facts.{FrameFacts, SyncedFacts}
use Rattle.plane_laws.specs.Held.{HoldRows}

pub fates-same : (rows : RowLists) (hosts : List Host) → FrameFacts rows → SyncedFacts rows hosts → (event : Event) → meant (fabric_fate hosts event) ≡ rows_fate rows (all_entries hosts) event
fates-same rows hosts good synced (FromPort port frame) = port-law rows hosts good synced (lease-law rows hosts good synced) port frame
fates-same rows hosts good synced (FromWire physical tag frame) = wire-law rows hosts good synced (record { physical = physical; tag = tag }) frame

-- as it is told, the makers left aside
pub told-made : (hosts : List Host) (es : List Entry) (names : List (List ℕ)) → entries_made (made_entries hosts es names) ≡ es
told-made hosts [] names = refl
told-made hosts (e ∷ es) [] = ap (λ xs. e ∷ xs) (told-made hosts es [])
told-made hosts (e ∷ es) (name ∷ names) = ap (λ xs. e ∷ xs) (told-made hosts es names)

pub told-without : (hosts : List Host) (f : FabricFate) → without_hosts (verdict_of_run hosts f) ≡ verdict_of_fate (meant f)
told-without hosts f = ap (λ es. record { outcome = f.outcome; path = f.run.path; fresh = map of_nobody es; trail = [] }) (told-made hosts f.run.fresh f.run.makers)

pub tables-mean-rows : (carry : List ℕ → Segment → Bool) (rows : RowLists) (hosts : List Host) → HoldRows carry rows hosts → (event : Event) → without_hosts (fabric_verdict hosts event) ≡ rows_verdict rows (all_entries hosts) event
tables-mean-rows carry rows hosts h event =
    told-without hosts (fabric_fate hosts event)
    ∙ ap verdict_of_fate (fates-same rows hosts (frame-facts rows h.consistent) (synced-facts carry rows hosts h.carried h.synced) event)
