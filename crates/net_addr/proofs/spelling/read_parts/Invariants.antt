use Rattle.std.proofs.Common.{take}
use Rattle.net_addr.specs.Reading.{Follows}
use Rattle.net_addr.proofs.spelling.read_parts.Given as goal

abbrev pub invariant-loop-at : goal.invariant-loop-at
invariant-loop-at l = Follows l.parts (take l.at l.text) l.reading.parts.now l.reading.value l.reading.state
