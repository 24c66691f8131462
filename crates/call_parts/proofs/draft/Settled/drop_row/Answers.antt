use Rattle.std.proofs.Common.{◌≡◌, ◌∙◌, ap, sym, subst, false, Some, None}
use Rattle.std.specs.List.{list_any}
use Rattle.api_types.specs.Table.{ident_eq}
use Rattle.api_types.specs.Rows.{after_item}
use Rattle.call_parts.specs.Drafts.{DraftParts, IsFound}
use Rattle.api_types.specs.RowKinds.{item_of}
use Rattle.call_parts.proofs.EditLaws.{gone_absent, gone_leads, ok_by}
use Rattle.call_parts.proofs.draft.Settled.drop_row.Goals as goal

pub returns-in_default-clause-rows : goal.returns-in_default-clause-rows
returns-in_default-clause-rows g c =
    let none : list_any (λ q. ident_eq c.args.id (g.R.Keyed.id_of q)) (g.R.RowKind.list_of c.rows.result.now) ≡ false = c.in_default.ensures.none in
    ap (λ (d : DraftParts). d.rows) c.into_draft.ensures ∙ gone_absent _ _ _ _ _ _ g.met.R.RowKind.edits c.args.self.rows c.args.id
    (ap (λ rows. list_any (λ q. ident_eq c.args.id (g.R.Keyed.id_of q)) (g.R.RowKind.list_of rows)) (sym c.rows.ensures) ∙ none)

pub returns-clause-rows : goal.returns-clause-rows
returns-clause-rows g c =
    let there = subst (λ rows. IsFound g.R.Keyed.id_of c.args.id (g.R.RowKind.list_of rows) c.in-Some.place c.in-Some.old.now) c.rows.ensures c.in-Some.ensures.some in
    let way = gone_leads _ _ _ _ _ _ g.met.R.RowKind.edits c.args.self.rows c.in-Some.place c.args.id c.in-Some.old.now there in
    let row = c.into_row.ensures ∙ (λ j. g.R.RowKind.into_of (c.in_ok-copy.ensures j)) in
    let item : after_item c.args.self.rows (item_of c.kind.result c.in-Some.place (Some c.into_row.result) None)
    ≡ after_item c.args.self.rows (item_of g.R.RowKind.kind_is c.in-Some.place (Some (g.R.RowKind.into_of c.in-Some.old.now)) None) = λ j. after_item c.args.self.rows (item_of (c.kind.ensures j) c.in-Some.place (Some (row j)) None) in
    ok_by _ _ c.take.result (λ d leads. leads ∙ (item ∙ way)) c.take.ensures.rows
