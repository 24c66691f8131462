use Rattle.api_machine.proofs.CallsKept.{call_kept}
use Rattle.api_machine.proofs.laws.calls_keep.Goals as goal

pub returns : goal.returns
returns c = call_kept
