-- Connections that are served one after the other.
use Rattle.std.specs.Prelude.{◌≡◌, ◌⊎◌, ℕ, ◌+◌, ◌^◌, ◌<◌, ◌≤◌, Bool, true, false, List, [], ◌∷◌, ◌++◌, length, map, replicate, option_map, ⊤}
use Rattle.net_addr.specs.Words.{Text}
use Rattle.http_session.specs.Serves.{scene}
use Rattle.http_session.specs.declared.session_end.SessionEnd.{SessionEnd}
use Rattle.http_session.specs.declared.session_end.SessionEnd.TheVariants.{OutOfMemory, ReadFault, WriteFault}
use Rattle.keeper_core.specs.Counts.{RoseBy}
use Rattle.keeper_core.specs.Desk.{AreFresh, DeskTold, IsSpent, Returned, with_ask}
use Rattle.keeper_core.specs.Ends.{SinkTold, SourceTold}
use Rattle.keeper_core.specs.Kept.{KeeperTold}
use Rattle.keeper_core.specs.declared.ask.DeskAsk.TheVariants.{Listen, Next}
use Rattle.world_laws.specs.World.{World}
use Rattle.openings.specs.Openings.{with_asks}
use Rattle.neutron_serve.specs.Promises.{Promises}
use Rattle.neutron_serve.specs.declared.serving.NextConnection.{NextConnection}
use Rattle.neutron_serve.specs.declared.serving.NextConnection.TheVariants as next
use Rattle.neutron_serve.specs.declared.status.Status.{Status}
use Rattle.neutron_serve.specs.declared.status.Status.TheVariants as ends

-- a connection: its two ends as they came and as they were handed back, and how its session ended
pub record Served (P : Type 0) : Type 0 where
  pub start : P
  pub done : P
  pub end : SessionEnd

-- what is carried from connection to connection: the world, and what the store and the desk tell
pub record Carried (P : Type 0) : Type 0 where
  pub world : World
  pub store : KeeperTold
  pub desk : DeskTold P

abbrev pub carried : {P : Type 0} → World → KeeperTold → DeskTold P → Carried P
carried world store desk = record { world = world; store = store; desk = desk }

-- whether a session ended because memory ran out
abbrev pub is_wanting : SessionEnd → Bool
is_wanting OutOfMemory = true
is_wanting other = false

-- connections whose sessions didn't
abbrev pub AreWhole : {P : Type 0} → List (Served P) → Type 0
AreWhole [] = ⊤
AreWhole (c ∷ cs) = (is_wanting c.end ≡ false) × AreWhole cs

abbrev pub start_of : {P : Type 0} → Served P → P
start_of c = c.start

abbrev pub done_of : {P : Type 0} → Served P → P
done_of c = c.done

abbrev pub handed_back : {P : Type 0} → List (Served P) → Returned P → Returned P
handed_back cs returned = record returned { ended = returned.ended ++ map done_of cs }

-- these were taken from those to come and handed back, in their order, and so many were asked for.
-- Nothing else changed, but that a failure is counted
pub record Passes {P : Type 0} (cs : List (Served P)) (asked : ℕ) (old new : DeskTold P)
    : Type 0 where
  pub came : old.to_come ≡ option_map (λ rest. map start_of cs ++ rest) new.to_come
  pub is : new
      ≡ record old {
        asks = with_asks (replicate asked Next) old.asks;
        to_come = new.to_come;
        returned = option_map (handed_back cs) old.returned;
        faults = new.faults;
      }

-- why no further connection is served: as many were as there may be, none is to come, the desk
-- failed, or memory ran out
pub data Over : Type 0 where
  AllServed : Over
  NoneLeft : Over
  DeskFailed : Over
  NoMemory : Over

abbrev pub over_status : Over → Status
over_status AllServed = ends.Done
over_status NoneLeft = ends.Done
over_status DeskFailed = ends.Failed
over_status NoMemory = ends.OutOfMemory

-- after these connections, of at most so many, and so many asks for one
abbrev pub IsOver : {P : Type 0} → Over → ℕ → List (Served P) → ℕ → DeskTold P → DeskTold P
    → Type 0
IsOver AllServed most cs asked old new = (length cs ≡ most) × (asked ≡ most) × AreWhole cs
IsOver NoneLeft most cs asked old new =
    IsSpent new.to_come × (asked ≡ length cs + 1) × AreWhole cs
IsOver DeskFailed most cs asked old new =
    RoseBy 1 old.faults new.faults × (asked ≡ length cs + 1) × AreWhole cs
IsOver NoMemory most cs asked old new = asked ≡ length cs

-- the desk after it was asked to listen at this address, with this count of faults
abbrev pub listening : {P : Type 0} → Text → ℕ → DeskTold P → DeskTold P
listening address faults desk =
    record desk { asks = with_ask (Listen address) desk.asks; faults = faults }

module _ {I O : Type 0} (input : I → SourceTold) (output : O → SinkTold) where
  -- one session of at most 2^40 bytes over a connection
  pub record IsServed (c : Served (I × O)) (old : World) (before : KeeperTold) (new : World)
      (after : KeeperTold) : Type 0 where
    pub promises : Promises (2 ^ 40) (scene old before (input c.start.0) (output c.start.1))
        (scene new after (input c.done.0) (output c.done.1)) c.end
    pub fresh : AreFresh (input c.start.0) (output c.start.1)
    pub read_fault : c.end ≡ ReadFault → 0 < (input c.done.0).faults
    pub write_fault : c.end ≡ WriteFault → 0 < (output c.done.1).faults

  -- one after the other, the world carried on
  abbrev pub AreServed : List (Served (I × O)) → World → KeeperTold → World → KeeperTold → Type 0
  AreServed [] old before new after = (new ≡ old) × (after ≡ before)
  AreServed (c ∷ cs) old before new after =
      (mid : World) × (between : KeeperTold) × IsServed c old before mid between
      × AreServed cs mid between new after

  -- at most so many connections are served
  pub record ServesAll (most : ℕ) (status : Status) (old new : Carried (I × O)) : Type 0 where
    pub served : List (Served (I × O))
    pub asked : ℕ
    pub few : length served ≤ most
    pub are : AreServed served old.world old.store new.world new.store
    pub passes : Passes served asked old.desk new.desk
    pub over : Over
    pub status_is : status ≡ over_status over
    pub cause : IsOver over most served asked old.desk new.desk

  -- one ask for a connection more. One that comes is served and handed back
  abbrev pub ComesNext : NextConnection → Carried (I × O) → Carried (I × O) → Type 0
  ComesNext (next.Served end) old new =
      (c : Served (I × O)) × (c.end ≡ end) × IsServed c old.world old.store new.world new.store
      × Passes (c ∷ []) 1 old.desk new.desk
  ComesNext next.NoneLeft old new =
      (new.world ≡ old.world) × (new.store ≡ old.store) × Passes [] 1 old.desk new.desk
      × IsSpent new.desk.to_come
  ComesNext next.Failed old new =
      (new.world ≡ old.world) × (new.store ≡ old.store) × Passes [] 1 old.desk new.desk
      × RoseBy 1 old.desk.faults new.desk.faults
  ComesNext next.OutOfMemory old new =
      (new.world ≡ old.world) × (new.store ≡ old.store) × Passes [] 0 old.desk new.desk

  -- the desk listens, and connections are served
  pub record ServesListening (address : Text) (most : ℕ) (status : Status)
      (old new : Carried (I × O)) : Type 0 where
    pub faults : ℕ
    pub later : old.desk.faults ≤ faults
    pub serves : ServesAll most status
        (record old { desk = listening address faults old.desk }) new

  -- the desk fails to listen, and none is served
  pub record FailsToListen (address : Text) (status : Status) (old new : Carried (I × O))
      : Type 0 where
    pub status_is : status ≡ ends.Failed
    pub rose : RoseBy 1 old.desk.faults new.desk.faults
    pub is : new ≡ record old { desk = listening address new.desk.faults old.desk }

  -- memory runs out before the desk listens, and none is served
  pub record RunsOutListening (status : Status) (old new : Carried (I × O)) : Type 0 where
    pub status_is : status ≡ ends.OutOfMemory
    pub is : new ≡ record old { desk = record old.desk { faults = new.desk.faults } }

  abbrev pub Listens : Text → ℕ → Status → Carried (I × O) → Carried (I × O) → Type 0
  Listens address most status old new =
      ServesListening address most status old new
      ⊎ (FailsToListen address status old new ⊎ RunsOutListening status old new)
