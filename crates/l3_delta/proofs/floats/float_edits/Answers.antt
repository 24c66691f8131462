use Rattle.std.proofs.Common.{◌∙◌, ap, sym}
use Rattle.std.specs.Prelude.{nat_lt}
use Rattle.api_types.specs.declared.floating.FloatingRow.{FloatingRow}
use Rattle.plane_types.specs.TableRows.{float_row_by}
use Rattle.table_edits.specs.EditsAt.{among}
use Rattle.table_edits.proofs.KindsAfter.{floatings_fit}
use Rattle.table_edits.proofs.NumberedLaw.{untouched_rows}
use Rattle.l3_delta.proofs.FloatLemmas.{float_stays}
use Rattle.l3_delta.proofs.TouchedLemmas.{Ports}
use Rattle.l3_delta.proofs.floats.float_edits.Goals as goal

pub of-requires : goal.of-requires
of-requires c =
    let change = c.args.change.now in floatings_fit change.before.now change.items.now change.leads_on.fits

pub edits_at-requires-clause-untouched : goal.edits_at-requires-clause-untouched
edits_at-requires-clause-untouched c =
    let change = c.args.change.now in
    let before = change.before.now in
    let after = change.after.now in
    let host = change.host.now in
    let routers = c.args.routers.now in
    let floatings = c.in_ok-floatings.floatings in
    let ends = c.in_ok-numbers.ensures in
    let slice = c.as_slice.ensures.value in
    let s : Ports before after change.items.now change.ports routers =
    record { leads_on = change.leads_on; numbered = change.numbered; routed = c.requires.routers } in
    untouched_rows floatings.rows floatings.items
    (λ (f : FloatingRow). float_row_by before host f f.target)
    (λ (f : FloatingRow). float_row_by after host f f.target)
    c.as_slice.result.now
    (λ k away. ends.named k (ap (among nat_lt k) (sym slice) ∙ away))
    (λ k f away at. float_stays before after change.items.now change.ports routers s host f
    (λ t j r target there is. c.requires.named j (ends.routers_before k j f t r (ap (among nat_lt k) (sym slice) ∙ away) at target there is))
    (λ t j r target there is. c.requires.named j (ends.routers_after k j f t r (ap (among nat_lt k) (sym slice) ∙ away) at target there is)))
