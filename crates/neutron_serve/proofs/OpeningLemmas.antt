-- What was opened serves connections, and is closed.
use Rattle.std.proofs.Common.{◌≡◌, ◌∙◌, ap, subst, sym}
use Rattle.std.specs.Prelude.{IfSome, is_some, true}
use Rattle.api_types.specs.RowLists.{RowLists}
use Rattle.command_lines.specs.declared.line.Opening.{Opening}
use Rattle.keeper_core.specs.Desk.{Closes, DeskTold, IsNoneOut}
use Rattle.keeper_core.specs.Kept.{IsStored, KeeperTold}
use Rattle.openings.proofs.OpeningLemmas.{closing}
use Rattle.openings.specs.Openings.{with_closing, with_opening}

module _ {P : Type 0} where
  -- connections over what was opened
  pub served_closed : (opening : Opening) (old opened served new : DeskTold P) (first last : KeeperTold) (rows : RowLists)
      → opened ≡ with_opening opening opened.faults old → served.stores ≡ opened.stores → IfSome old.stores (λ _. is_some first.rows ≡ true) → IsStored rows first last
      → Closes last served new → new ≡ with_closing opening rows last.faults served
  served_closed opening old opened served new first last rows is same told stored closes =
      closing opening old served new first last rows (same ∙ ap (λ (d : DeskTold P). d.stores) is) told stored closes

  -- no connection is out, as before
  pub opened_out : (opening : Opening) (old mid : DeskTold P) → mid ≡ with_opening opening mid.faults old → IsNoneOut old → IsNoneOut mid
  opened_out opening old mid is out = subst IsNoneOut (sym is) out
