use Rattle.std.proofs.Common.{subst}
use Rattle.call_parts.specs.Drafts.{DraftParts, LeadsTo}
use Rattle.call_parts.proofs.DraftLemmas.{leads_on}
use Rattle.call_parts.proofs.draft.Draft.into_change.Goals as goal

pub returns-clause-leads : goal.returns-clause-leads
returns-clause-leads c =
    let base : DraftParts = c.self.inside.base in
    let way : LeadsTo base.start base.change base.rows = subst (λ (d : DraftParts). LeadsTo d.start d.change d.rows) c.base.view_is c.base.invariant in
    subst (λ (d : DraftParts). LeadsTo d.start d.change d.rows) c.self.view_is (leads_on base.start base.change base.rows c.self.inside.last way c.self.invariant)
