use Rattle.std.proofs.Common.{◌≡◌, ◌∙◌, IfOk, List, ap, subst}
use Rattle.std.specs.Prelude.{filter, map}
use Rattle.std.proofs.lemmas.Simd.{map-map}
use Rattle.api_types.specs.Lists.{is_some_so}
use Rattle.api_types.specs.declared.floating.FloatingRow.{FloatingRow}
use Rattle.api_types.specs.declared.kind.Row.TheVariants.{Floating}
use Rattle.call_parts.specs.Drafts.{DraftParts}
use Rattle.call_parts.specs.Edits.{Edit, Put, made}
use Rattle.call_parts.specs.Leaving.{disassociated, disassociations, loses_target}
use Rattle.call_parts.proofs.leaving.disassociate.Goals as goal

pub returns-clause-rows : goal.returns-clause-rows
returns-clause-rows c =
    let puts : List FloatingRow → List Edit = map (λ (f : FloatingRow). Put (Floating f)) in
    let lost : List FloatingRow → List FloatingRow = λ floatings. filter (λ (f : FloatingRow). is_some_so (loses_target c.args.port c.args.kept.now) f.target) floatings in
    let rows : c.rows-2.result.now ≡ c.args.draft.rows.floatings = c.rows-2.ensures.rows ∙ (c.floatings.ensures ∙ (ap (λ r. r.floatings) c.rows.ensures ∙ ap (λ (d : DraftParts). d.rows.floatings) c.in_ok-settled.ensures)) in
    let same : puts c.in_ok-lost.lost.items ≡ disassociations c.args.draft.rows.floatings c.args.port c.args.kept.now =
    ap puts c.in_ok-lost.ensures ∙ (map-map (λ (f : FloatingRow). Put (Floating f)) disassociated (lost c.rows-2.result.now) ∙ ap (λ floatings. disassociations floatings c.args.port c.args.kept.now) rows) in
    let draft : c.into_draft.result ≡ c.args.draft = c.into_draft.ensures ∙ c.in_ok-settled.ensures in
    subst (λ edits. IfOk c.put_all.result (λ d. d.rows ≡ made c.args.draft.rows edits)) same
    (subst (λ (x : DraftParts). IfOk c.put_all.result (λ d. d.rows ≡ made x.rows (puts c.in_ok-lost.lost.items))) draft c.put_all.ensures.rows)
