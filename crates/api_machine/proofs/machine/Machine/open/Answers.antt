use Rattle.api_machine.proofs.machine.Machine.open.Goals as goal

pub of-requires-clause-consistent : goal.of-requires-clause-consistent
of-requires-clause-consistent c = (c.first_broken.ensures.none.0 c.in_default.is).0

pub of-requires-clause-carried : goal.of-requires-clause-carried
of-requires-clause-carried c = (c.first_broken.ensures.none.0 c.in_default.is).1
