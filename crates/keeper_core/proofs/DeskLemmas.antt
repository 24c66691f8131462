-- What the calls of desks in memory do to what they tell.
use Rattle.std.proofs.Common.{◌≡◌, Option, Some, ap, arith}
use Rattle.std.specs.Prelude.{Err, IfErr, IfOk, Ok, OnErr, OnOk, Result}
use Rattle.net_addr.specs.Words.{Text}
use Rattle.keeper_core.specs.Counts.{HasRefusalCause, IsFailure, IsWant, RoseBy}
use Rattle.keeper_core.specs.Desk.{Asks, Closes, Comes, DeskHeld, FailingDesk, HandsOut, IsReturned, TakesBack, asked, asked_in_vain, asks_after, closed_as, failing_told, opened_as, out_after, sure_told, with_opened, with_returned, with_stores}
use Rattle.keeper_core.specs.Kept.{sure_rows}
use Rattle.keeper_core.specs.declared.ask.DeskAsk.{DeskAsk}
use Rattle.keeper_core.specs.declared.ask.DeskAsk.TheVariants.{Next, Store}
use Rattle.keeper_core.specs.declared.refusal.OutsideRefusal.{OutsideRefusal}
use Rattle.keeper_core.specs.declared.refusal.OutsideRefusal.TheVariants.{Failed, OutOfMemory}
use Rattle.api_types.specs.RowLists.{RowLists}

never_failed : {T : Type 0} (result : Result T OutsideRefusal) → IfErr result IsWant → IsFailure result → RoseBy 1 0 0
never_failed (Ok x) sure failed = absurd cc
never_failed (Err Failed) sure failed = absurd cc
never_failed (Err OutOfMemory) sure failed = absurd cc

-- a call that runs out of memory alone has its cause
pub sure_cause : {T : Type 0} (result : Result T OutsideRefusal) → IfErr result IsWant → HasRefusalCause 0 0 result
sure_cause result sure = record { later = omega arith; failed = never_failed result sure }

module _ {P T : Type 0} where
  -- ---- a desk that never fails

  pub sure_asks : (ask : DeskAsk) (result : Result T OutsideRefusal) (old new : DeskHeld P) → OnOk result (new ≡ asked ask old) → OnErr result (new ≡ old) → IfErr result IsWant
      → Asks ask result (sure_told old) (sure_told new)
  sure_asks ask (Ok x) old new ok err sure = record { is = ap sure_told ok; cause = sure_cause (Ok x) sure }
  sure_asks ask (Err Failed) old new ok err sure = absurd cc
  sure_asks ask (Err OutOfMemory) old new ok err sure = record { is = ap sure_told err; cause = sure_cause (Err OutOfMemory) sure }

  pub sure_opens : (name : Option Text) (result : Result T OutsideRefusal) (old new : DeskHeld P)
      → OnOk result (new ≡ asked (Store name) (with_stores (opened_as name old.stores) old)) → OnErr result (new ≡ old) → IfErr result IsWant
      → Asks (Store name) result (with_opened name result (sure_told old)) (sure_told new)
  sure_opens name (Ok x) old new ok err sure = record { is = ap sure_told ok; cause = sure_cause (Ok x) sure }
  sure_opens name (Err Failed) old new ok err sure = absurd cc
  sure_opens name (Err OutOfMemory) old new ok err sure = record { is = ap sure_told err; cause = sure_cause (Err OutOfMemory) sure }

  -- ---- one that fails in listed calls

  pub failing_asks : (ask : DeskAsk) (result : Result T OutsideRefusal) (old new : FailingDesk P)
      → IfOk result (λ _. new.held ≡ asked ask old.held) → IfErr result (λ refusal. new.held ≡ asked_in_vain refusal ask old.held)
      → new.store_faults ≡ old.store_faults → HasRefusalCause old.calls.faults new.calls.faults result → Asks ask result (failing_told old) (failing_told new)
  failing_asks ask (Ok x) old new ok err same cause = record { is = λ j. failing_told (record new { held = ok j; store_faults = same j }); cause = cause }
  failing_asks ask (Err Failed) old new ok err same cause = record { is = λ j. failing_told (record new { held = err j; store_faults = same j }); cause = cause }
  failing_asks ask (Err OutOfMemory) old new ok err same cause = record { is = λ j. failing_told (record new { held = err j; store_faults = same j }); cause = cause }

  pub failing_opens : (name : Option Text) (result : Result T OutsideRefusal) (old new : FailingDesk P)
      → IfOk result (λ _. new.held ≡ asked (Store name) (with_stores (opened_as name old.held.stores) old.held)) → IfErr result (λ refusal. new.held ≡ asked_in_vain refusal (Store name) old.held)
      → new.store_faults ≡ old.store_faults → HasRefusalCause old.calls.faults new.calls.faults result
      → Asks (Store name) result (with_opened name result (failing_told old)) (failing_told new)
  failing_opens name (Ok x) old new ok err same cause = record { is = λ j. failing_told (record new { held = ok j; store_faults = same j }); cause = cause }
  failing_opens name (Err Failed) old new ok err same cause = record { is = λ j. failing_told (record new { held = err j; store_faults = same j }); cause = cause }
  failing_opens name (Err OutOfMemory) old new ok err same cause = record { is = λ j. failing_told (record new { held = err j; store_faults = same j }); cause = cause }

module _ {P : Type 0} where
  pub sure_next : (result : Result (Option P) OutsideRefusal) (old new : DeskHeld P) → Comes result (Some old.to_come) (Some new.to_come) → new.returned ≡ out_after result old.returned
      → Some new.asks ≡ asks_after result Next (Some old.asks) → new.files ≡ old.files → new.stores ≡ old.stores → IfErr result IsWant → HandsOut result (sure_told old) (sure_told new)
  sure_next result old new comes returned asks files stores sure = record {
    comes = comes;
    asks = record {
      is = λ j. record {
        asks = asks j;
        files = Some (files j);
        stores = Some (stores j);
        to_come = Some new.to_come;
        returned = returned j;
        faults = 0;
        store_faults = 0;
      };
      cause = sure_cause result sure;
    };
  }

  pub failing_next : (result : Result (Option P) OutsideRefusal) (old new : FailingDesk P) → Comes result (Some old.held.to_come) (Some new.held.to_come)
      → new.held.returned ≡ out_after result old.held.returned → Some new.held.asks ≡ asks_after result Next (Some old.held.asks) → new.held.files ≡ old.held.files
      → new.held.stores ≡ old.held.stores → new.store_faults ≡ old.store_faults → HasRefusalCause old.calls.faults new.calls.faults result
      → HandsOut result (failing_told old) (failing_told new)
  failing_next result old new comes returned asks files stores same cause = record {
    comes = comes;
    asks = record {
      is = λ j. record {
        asks = asks j;
        files = Some (files j);
        stores = Some (stores j);
        to_come = Some new.held.to_come;
        returned = returned j;
        faults = new.calls.faults;
        store_faults = same j;
      };
      cause = cause;
    };
  }

  -- ---- what is handed back

  pub sure_closes : (old new : DeskHeld P) (rows : RowLists) → new ≡ with_stores (closed_as old.stores.opened rows old.stores) old → Closes (sure_rows rows) (sure_told old) (sure_told new)
  sure_closes old new rows is = record {
    is = λ j. record (sure_told (is j)) { stores = Some new.stores };
    stores = ap (λ (d : DeskHeld P). Some d.stores) is;
  }

  pub sure_takes_back : (old new : DeskHeld P) (p : P) → IsReturned old.returned p new.returned → new ≡ with_returned new.returned old → TakesBack p (sure_told old) (sure_told new)
  sure_takes_back old new p returned others = record { is = ap sure_told others; returned = returned }
