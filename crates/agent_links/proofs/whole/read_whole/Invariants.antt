use Rattle.std.proofs.Common.{◌<◌, ◌≤◌, ◌-◌, length}
use Rattle.std.specs.Prelude.{IfSome}
use Rattle.std.specs.Io.KnownBytes.{Consumes}
use Rattle.agent_links.specs.Wholes.{IsLengthOf, read_limit}
use Rattle.agent_links.proofs.whole.read_whole.Given as goal

abbrev pub invariant-pieces : goal.invariant-pieces
invariant-pieces g l = record {
  taken : Consumes (g.I.Source.told l.fn.input).left (g.I.Source.told l.input).left l.bytes.items;
  found : IsLengthOf l.bytes.items l.found;
  short : IfSome l.found (λ n. length l.bytes.items < n);
  few : length l.bytes.items ≤ read_limit;
  later : (g.I.Source.told l.fn.input).faults ≤ (g.I.Source.told l.input).faults;
}

abbrev pub decreases-pieces : goal.decreases-pieces
decreases-pieces g l = read_limit - length l.bytes.items
