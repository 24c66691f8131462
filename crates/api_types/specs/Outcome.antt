-- What the API machine makes of a call.
use Rattle.api_types.specs.RowLists.{RowLists}
use Rattle.api_types.specs.Printed.{Reply}
use Rattle.api_types.specs.declared.refusal.Refusal.{Refusal}

pub data Outcome : Type 0 where
  -- the call is refused, and all is as before
  Refused : Refusal → Outcome
  -- the call is answered, and all is as before
  Told : Reply → Outcome
  -- the call is answered, and the rows are these from then on
  Moved : RowLists → Reply → Outcome
