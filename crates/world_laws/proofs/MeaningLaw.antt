-- What hosts that hold a version have, and what frames come to where all hold the current version.
use Rattle.std.proofs.Common.{◌≡◌, ℕ, ◌+◌, ◌≤◌, List, Some, ap, sym, subst, ◌∙◌, arith, map}
use Rattle.std.specs.List.{list_any}
use Rattle.std.specs.Str.{bytes_eq}
use Rattle.api_types.specs.Lists.{Each}
use Rattle.api_types.specs.Rows.{Fits, after}
use Rattle.api_types.specs.declared.change.Item.{Item}
use Rattle.api_ml2.specs.Carrying.{carries}
use Rattle.plane_types.specs.Crossing.{CrossesAtRouters}
use Rattle.plane_types.specs.Hosts.{Host, all_entries}
use Rattle.plane_types.specs.Attached.{IsAttached}
use Rattle.plane_types.specs.PortSecurity.{AreLetOut, IsLetIn}
use Rattle.plane_types.specs.Realises.{Realises}
use Rattle.plane_types.specs.Verdicts.{fabric_verdicts, rows_verdicts, without_hosts}
use Rattle.plane_types.specs.declared.event.Event.{Event}
use Rattle.plane_laws.specs.Held.{HoldRows}
use Rattle.plane_laws.proofs.ListLaw.{lists-cross, lists-mean-rows}
use Rattle.plane_laws.proofs.SecurityLaw.{in-by-lists, out-by-lists}
use Rattle.bus_core.specs.History.{change_at, first_kept, rows_at}
use Rattle.bus_core.proofs.HistoryLaw.{rows_now}
use Rattle.plane_types.specs.Node.{Agent, host_of}
use Rattle.world_laws.specs.Lead.{IsWorld}
use Rattle.world_laws.specs.World.{AreSound, IsSynced, World, hosts_of}
use Rattle.world_laws.proofs.AgentLaw.{next_fits, sound_now}
use Rattle.world_laws.proofs.HostNames.{carrier_named, named_by}
use Rattle.world_laws.proofs.Lists.{each_map}
use Rattle.world_laws.proofs.StepLaw.{host_names}

-- a host that holds v has the rows of v, where they can be told
pub held_rows : (w : World) → IsWorld w → Each (λ (a : Agent). (v : ℕ) → a.held ≡ Some v → first_kept w.history ≤ v + 1 → a.rows ≡ rows_at w.history v) w.agents
held_rows w is k a at v held from =
    let led = is.lead.agents k a at in
    let here = led.held v held in
    subst (λ n. a.rows ≡ rows_at w.history n) (sym here) (led.rows (subst (λ n. first_kept w.history ≤ n + 1) here from))

pub held_tables : (w : World) → IsWorld w → Each (λ (a : Agent). (v : ℕ) → a.held ≡ Some v → first_kept w.history ≤ v + 1 → Realises (rows_at w.history v) a.name a.tables) w.agents
held_tables w is k a at v held from = subst (λ rows. Realises rows a.name a.tables) (held_rows w is k a at v held from) (is.realised k a at)

-- and one that holds the current version has the current rows
pub rows_of_now : (w : World) → IsWorld w → Each (λ (a : Agent). a.held ≡ Some w.history.version → a.rows ≡ w.history.rows) w.agents
rows_of_now w is k a at held =
    let numbered = is.lead.history.numbered in
    held_rows w is k a at w.history.version held (omega (arith, numbered)) ∙ rows_now w.history numbered

-- the next change of a host fits its rows, and leads to those of its number
pub next_change : (w : World) → IsWorld w → (n v : ℕ) (c : List Item) → change_at w.history n ≡ Some c → n ≡ v + 1
    → Each (λ (a : Agent). a.held ≡ Some v → Fits a.rows c × AreSound w.settings (after a.rows c) × (after a.rows c ≡ rows_at w.history n)) w.agents
next_change w is n v c at next k a there held =
    let f = next_fits w.settings w.history is.lead.history a v n c (is.lead.agents k a there) at held next in
    (f.fits, f.sound, f.leads)

-- ---- all hold the current version

pub synced_hold : (w : World) → IsWorld w → IsSynced w → HoldRows (carries w.settings.hosts) w.history.rows (hosts_of w)
synced_hold w is synced =
    let sound = sound_now w.settings w.history is.lead.history in
    record {
      consistent = sound.consistent;
      carried = sound.carried;
      synced = record {
        realise = each_map host_of (λ (g : Host). Realises w.history.rows g.name g.tables) w.agents
            (λ k a at. subst (λ rows. Realises rows a.name a.tables) (rows_of_now w is k a at (synced k a at)) (is.realised k a at));
        placed = each_map host_of IsAttached w.agents is.placed;
        names = host_names w is.rules is.named;
        complete = λ name s can. named_by name w.agents ∙ ap (list_any (bytes_eq name)) is.named ∙ carrier_named name s w.settings.hosts can;
      };
    }

pub synced_mean : (w : World) → IsWorld w → IsSynced w → (events : List Event) → map without_hosts (fabric_verdicts (hosts_of w) events) ≡ rows_verdicts w.history.rows (all_entries (hosts_of w)) events
synced_mean w is synced events = lists-mean-rows (carries w.settings.hosts) w.history.rows (hosts_of w) (synced_hold w is synced) events

pub synced_cross : (w : World) → IsWorld w → IsSynced w → (events : List Event) → Each (CrossesAtRouters w.history.rows) (fabric_verdicts (hosts_of w) events)
synced_cross w is synced events = lists-cross (carries w.settings.hosts) w.history.rows (hosts_of w) (synced_hold w is synced) events

pub synced_let_in : (w : World) → IsWorld w → IsSynced w → (events : List Event) → Each (IsLetIn w.history.rows) (fabric_verdicts (hosts_of w) events)
synced_let_in w is synced events = in-by-lists (carries w.settings.hosts) w.history.rows (hosts_of w) (synced_hold w is synced) events

pub synced_let_out : (w : World) → IsWorld w → IsSynced w → (events : List Event) → AreLetOut w.history.rows events (fabric_verdicts (hosts_of w) events)
synced_let_out w is synced events = out-by-lists (carries w.settings.hosts) w.history.rows (hosts_of w) (synced_hold w is synced) events
