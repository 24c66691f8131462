use Rattle.std.proofs.Common.{◌∙◌, sym}
use Rattle.plan_floatings.proofs.OuterLemmas.{outer_four}
use Rattle.plan_floatings.proofs.outer.outer_for.Goals as goal

pub returns-clause-four : goal.returns-clause-four
returns-clause-four c = outer_four c.args.rows.now c.args.network c.args.named c.in-Some.fixed c.requires (sym c.in_ok-fixed.ensures ∙ c.in-Some.is)
