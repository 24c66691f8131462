use Rattle.wire_ends.proofs.ReadLaw.{memory_law, replies_law}
use Rattle.wire_ends.proofs.replies_are_read.Goals as goal

pub returns-clause-replies : goal.returns-clause-replies
returns-clause-replies c = replies_law

pub returns-clause-memory : goal.returns-clause-memory
returns-clause-memory c = λ close text short. memory_law close tt text short
