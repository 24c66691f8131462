use Rattle.std.proofs.Common.{◌≡◌, ◌∙◌, ap, sym, subst, Some, false}
use Rattle.std.specs.List.{list_any}
use Rattle.api_types.specs.Rows.{FitsItem, after_item}
use Rattle.api_types.specs.Table.{ident_eq}
use Rattle.call_parts.specs.Drafts.{DraftParts, IsFound}
use Rattle.api_types.specs.RowKinds.{item_of}
use Rattle.call_parts.proofs.EditLaws.{put_absent, put_same, put_fits, put_leads, ok_by}
use Rattle.call_parts.proofs.draft.Settled.put.Goals as goal

pub returns-in_default-clause-rows : goal.returns-in_default-clause-rows
returns-in_default-clause-rows g c =
    let none : list_any (λ q. ident_eq c.id.result (g.R.Keyed.id_of q)) (g.R.RowKind.list_of c.rows.result.now) ≡ false = c.in_default.ensures.none in
    ap (λ (d : DraftParts). d.rows) c.into_draft.ensures ∙ put_absent _ _ _ _ _ _ g.met.R.RowKind.edits c.args.self.rows c.args.row
    ((λ j. list_any (λ q. ident_eq (sym c.id.ensures j) (g.R.Keyed.id_of q)) (g.R.RowKind.list_of (sym c.rows.ensures j))) ∙ none)

pub returns-then-is_same-clause-rows : goal.returns-then-is_same-clause-rows
returns-then-is_same-clause-rows g c =
    let there = subst (λ rows. IsFound g.R.Keyed.id_of c.id.result (g.R.RowKind.list_of rows) c.in-Some.place c.in-Some.old.now) c.rows.ensures c.in-Some.ensures.some in
    ap (λ (d : DraftParts). d.rows) c.into_draft-then-is_same.ensures ∙ put_same _ _ _ _ _ _ g.met.R.RowKind.edits c.args.self.rows c.in-Some.place c.id.result c.in-Some.old.now there c.args.row c.id.ensures (c.is_same.ensures.0 c.if-is_same.true)

pub take-requires : goal.take-requires
take-requires g c =
    let there = subst (λ rows. IsFound g.R.Keyed.id_of c.id.result (g.R.RowKind.list_of rows) c.in-Some.place c.in-Some.old.now) c.rows.ensures c.in-Some.ensures.some in
    let fits = put_fits _ _ _ _ _ _ g.met.R.RowKind.edits c.args.self.rows c.in-Some.place c.id.result c.in-Some.old.now there c.args.row c.id.ensures in
    let old = c.into_row.ensures ∙ (λ j. g.R.RowKind.into_of (c.in_ok-copy.ensures j)) in
    subst (FitsItem c.args.self.rows) (λ j. item_of (sym c.kind.ensures j) c.in-Some.place (Some (sym old j)) (Some (sym c.into_row-2.ensures j))) fits

pub returns-clause-rows : goal.returns-clause-rows
returns-clause-rows g c =
    let there = subst (λ rows. IsFound g.R.Keyed.id_of c.id.result (g.R.RowKind.list_of rows) c.in-Some.place c.in-Some.old.now) c.rows.ensures c.in-Some.ensures.some in
    let way = put_leads _ _ _ _ _ _ g.met.R.RowKind.edits c.args.self.rows c.in-Some.place c.id.result c.in-Some.old.now there c.args.row c.id.ensures in
    let old = c.into_row.ensures ∙ (λ j. g.R.RowKind.into_of (c.in_ok-copy.ensures j)) in
    let item : after_item c.args.self.rows (item_of c.kind.result c.in-Some.place (Some c.into_row.result) (Some c.into_row-2.result))
    ≡ after_item c.args.self.rows (item_of g.R.RowKind.kind_is c.in-Some.place (Some (g.R.RowKind.into_of c.in-Some.old.now)) (Some (g.R.RowKind.into_of c.args.row))) = λ j. after_item c.args.self.rows (item_of (c.kind.ensures j) c.in-Some.place (Some (old j)) (Some (c.into_row-2.ensures j))) in
    ok_by _ _ c.take.result (λ d leads. leads ∙ (item ∙ way)) c.take.ensures.rows
