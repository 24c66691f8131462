-- No connection is out, as before.
use Rattle.std.proofs.Common.{◌≡◌, Option, ap, subst, sym}
use Rattle.std.specs.Prelude.{Result}
use Rattle.keeper_core.specs.Desk.{Asks, Closes, DeskTold, IsNoneOut, Returned}
use Rattle.keeper_core.specs.Kept.{KeeperTold}
use Rattle.keeper_core.specs.declared.ask.DeskAsk.{DeskAsk}
use Rattle.keeper_core.specs.declared.refusal.OutsideRefusal.{OutsideRefusal}

module _ {P : Type 0} where
  abbrev returned_of : DeskTold P → Option (Returned P)
  returned_of d = d.returned

  pub out_stays : (a b : DeskTold P) → b.returned ≡ a.returned → IsNoneOut a → IsNoneOut b
  out_stays a b same out = out_in same
    where
      out_in : b.returned ≡ a.returned → IsNoneOut b
      out_in same = subst (λ (r : Option (Returned P)). IsNoneOut (record b { returned = r })) (sym same) out

  pub asks_stay : {T : Type 0} (ask : DeskAsk) (result : Result T OutsideRefusal) (a b : DeskTold P) → Asks ask result a b → b.returned ≡ a.returned
  asks_stay ask result a b asks = ap returned_of asks.is

  pub closes_stay : (store : KeeperTold) (a b : DeskTold P) → Closes store a b → b.returned ≡ a.returned
  closes_stay store a b closes = ap returned_of closes.is
