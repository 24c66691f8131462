use Rattle.std.proofs.Common.{sym, ◌∙◌}
use Rattle.api_check.proofs.ConsistentLaw.{consistent_holds, consistent_none}
use Rattle.api_consistency.proofs.find.find_broken.Goals as goal

pub returns : goal.returns
returns c = record {
  first = c.first_of.ensures;
  none = (
    (λ h. consistent_holds c.args.rows.now c.args.settings.now.hosts (sym c.first_of.ensures ∙ h)),
    (λ both. c.first_of.ensures ∙ consistent_none c.args.rows.now c.args.settings.now.hosts both.0 both.1),
  );
}
