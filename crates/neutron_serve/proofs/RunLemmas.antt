-- What a run comes to, by its command line.
use Rattle.std.proofs.Common.{None, Option, Some, inl, inr, refl}
use Rattle.command_lines.specs.declared.line.Line.{Line}
use Rattle.keeper_core.specs.Desk.{DeskTold}
use Rattle.keeper_core.specs.Ends.{SinkTold, SourceTold}
use Rattle.neutron_serve.specs.Runs.{Outside, Runs}
use Rattle.neutron_serve.specs.declared.status.Status.TheVariants.{OutOfMemory}

-- memory ran out before anything was touched
pub untouched : {D I O : Type 0} (desk : D → DeskTold (I × O)) (input : I → SourceTold) (output : O → SinkTold) (line : Option Line) (w : Outside D I O) → Runs desk input output line OutOfMemory w w
untouched desk input output None w = (inr refl, refl)
untouched desk input output (Some line) w = inl (refl, refl)
