use Rattle.api_types.specs.declared.refusal.Refusal.TheVariants.{NoMessage}
use Rattle.lab_world.proofs.lab.kept_change.Goals as goal

pub returns-in-Err-clause-err : goal.returns-in-Err-clause-err
returns-in-Err-clause-err c = ((λ j. NoMessage c.args.number (c.in-Err.ensures.err j).first (c.in-Err.ensures.err j).last), c.in-Err.ensures.gone)
