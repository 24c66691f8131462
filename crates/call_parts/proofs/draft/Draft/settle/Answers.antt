use Rattle.std.proofs.Common.{◌++◌, sym, subst}
use Rattle.api_types.specs.Rows.{Fits}
use Rattle.call_parts.specs.Drafts.{DraftParts, LeadsTo}
use Rattle.call_parts.proofs.DraftLemmas.{leads_on}
use Rattle.call_parts.proofs.draft.Draft.settle.Goals as goal

pub invariant_of-result : goal.invariant_of-result
invariant_of-result c =
    let base = c.base.inside in
    let last = c.self.inside.last in
    let fits = subst (λ (d : DraftParts). Fits d.rows last) (sym c.base.view_is) c.self.invariant in
    let way = leads_on base.start base.change base.rows last c.base.invariant fits in
    subst (λ change. LeadsTo base.start change c.apply_change.new.self) (sym c.in_ok-change.ensures)
    (subst (LeadsTo base.start (base.change ++ last)) (sym c.in_ok-apply_change.ensures.ok) way)
