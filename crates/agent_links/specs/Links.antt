-- Links to a server: what they tell, and what their calls do to that.
use Rattle.std.specs.Prelude.{◌≡◌, ℕ, ◌+◌, ◌-◌, ◌^◌, min, List, [], ◌∷◌, ◌++◌, Option, Some, None, option_map, Result, Ok, Err, ⊤}
use Rattle.net_addr.specs.Words.{Text}
use Rattle.keeper_core.specs.Counts.{HasRefusalCause}
use Rattle.keeper_core.specs.declared.refusal.OutsideRefusal.{OutsideRefusal}

-- a link that was handed back: its address and its two ends
pub record EndedLink (P : Type 0) : Type 0 where
  pub address : Text
  pub ends : P

abbrev pub ended_link : {P : Type 0} → Text → P → EndedLink P
ended_link address ends = record { address = address; ends = ends }

-- the links to come and those that were handed back, each where they are told; the address that
-- was opened last, while its link is out; and how many calls failed, those of links that were
-- handed back among them
pub record LinkTold (P : Type 0) : Type 0 where
  pub to_come : Option (List P)
  pub ended : Option (List (EndedLink P))
  pub opened : Option Text
  pub faults : ℕ

-- the first link to come is opened
abbrev pub ComesFirst : {P : Type 0} → Result P OutsideRefusal → Option (List P) → Option (List P)
    → Type 0
ComesFirst (Ok pair) old new = old ≡ option_map (λ rest. pair ∷ rest) new
ComesFirst (Err e) old new = new ≡ old

abbrev pub opened_after : {P : Type 0} → Text → Result P OutsideRefusal → Option Text
    → Option Text
opened_after address (Ok pair) opened = Some address
opened_after address (Err e) opened = opened

-- a link is opened at an address, a failure is counted, and nothing else changes
pub record OpensLink {P : Type 0} (address : Text) (result : Result P OutsideRefusal)
    (old new : LinkTold P) : Type 0 where
  pub comes : ComesFirst result old.to_come new.to_come
  pub cause : HasRefusalCause old.faults new.faults result
  pub is : new
      ≡ record old {
        to_come = new.to_come;
        opened = opened_after address result old.opened;
        faults = new.faults;
      }

-- the link at the address that was opened last comes last among those that were handed back; of
-- one that wasn't opened nothing is said
abbrev pub ComesLast : {P : Type 0} → Option Text → P → Option (List (EndedLink P))
    → Option (List (EndedLink P)) → Type 0
ComesLast None ends old new = ⊤
ComesLast (Some address) ends old new =
    new ≡ option_map (λ links. links ++ ended_link address ends ∷ []) old

-- a link is handed back whose ends failed so often, and nothing else changes
pub record TakesBackLink {P : Type 0} (ends : P) (failed : ℕ) (old new : LinkTold P)
    : Type 0 where
  pub last : ComesLast old.opened ends old.ended new.ended
  pub is : new
      ≡ record old {
        ended = new.ended;
        opened = None;
        faults = min (old.faults + failed) (2 ^ 64 - 1);
      }
