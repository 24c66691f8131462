use Rattle.std.proofs.Common.{inl, inr, refl}
use Rattle.reach_audit.proofs.RunLemmas.{audited}
use Rattle.reach_audit.proofs.run.run_arguments.Goals as goal

pub returns-in-Ok : goal.returns-in-Ok
returns-in-Ok g c = inr (audited c.args.arguments.now c.in-Ok.audit c.write_audit.result _ _ _ _ c.in-Ok.ensures.ok c.write_audit.ensures)

pub returns-in-Err : goal.returns-in-Err
returns-in-Err g c = inl (c.in-Err.ensures.err, refl)
