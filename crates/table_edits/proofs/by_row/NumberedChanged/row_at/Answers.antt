use Rattle.std.proofs.Common.{◌≡◌, ◌∙◌, None, Some, ap, false, rules, slice_get, sym, true}
use Rattle.std.specs.Prelude.{◌==◌, if◌then◌else◌, nat_lt, option_copied}
use Rattle.plane_types.specs.Keyed.{row_at, rows_by_key}
use Rattle.plane_types.specs.Numbered.{with_numbers}
use Rattle.plane_types.proofs.NumberedLemmas.{number_order}
use Rattle.table_edits.specs.Places.{number_in, passes}
use Rattle.table_edits.proofs.NumberPlaces.{row_found}
use Rattle.table_edits.proofs.PlaceLemmas.{got_at, if_there}
use Rattle.table_edits.proofs.by_row.NumberedChanged.row_at.Goals as goal

pub returns-in_err-row : goal.returns-in_err-row
returns-in_err-row g c =
    let self = c.args.self.now in
    let id_of = g.T.Source.Keyed.id_of in
    let came = g.T.ByRow.came self.table.now in
    let source = g.T.ByRow.source_of self.table.now in
    let rows = self.numbers.now.rows in
    let table = self.rows.now in
    let key = c.args.key.now in
    let place = c.args.place in
    let number = number_in id_of source rows in
    let found : row_at nat_lt key (rows_by_key nat_lt came (with_numbers 0 rows)) ≡ if_there nat_lt number_order number key (λ k. k == key) (slice_get table place) =
    row_found id_of came source rows table self.own_ids self.sources self.came key place c.requires in
    let gone : c.get.result ≡ None = search rules in
    let at : None ≡ slice_get table place = ap option_copied (sym gone) ∙ got_at table place c.get.result c.get.ensures.lookup.3 in
    let none : option_copied c.from_residual.result ≡ None = search rules in
    none ∙ ap (if_there nat_lt number_order number key (λ k. k == key)) at ∙ sym found

pub returns-then-is_at : goal.returns-then-is_at
returns-then-is_at g c =
    let self = c.args.self.now in
    let id_of = g.T.Source.Keyed.id_of in
    let came = g.T.ByRow.came self.table.now in
    let source = g.T.ByRow.source_of self.table.now in
    let rows = self.numbers.now.rows in
    let table = self.rows.now in
    let key = c.args.key.now in
    let place = c.args.place in
    let row = c.in_ok-row.row.now in
    let number = number_in id_of source rows in
    let found : row_at nat_lt key (rows_by_key nat_lt came (with_numbers 0 rows)) ≡ if_there nat_lt number_order number key (λ k. k == key) (slice_get table place) =
    row_found id_of came source rows table self.own_ids self.sources self.came key place c.requires in
    let got : c.get.result ≡ Some c.in_ok-row.row = search rules in
    let at : Some row ≡ slice_get table place = ap option_copied (sym got) ∙ got_at table place c.get.result c.get.ensures.lookup.3 in
    let is : passes (λ k. k == key) (number row) ≡ true = sym c.is_at.ensures ∙ c.if-is_at.true in
    (λ j. if sym is j then Some row else None) ∙ ap (if_there nat_lt number_order number key (λ k. k == key)) at ∙ sym found

pub returns-else-is_at : goal.returns-else-is_at
returns-else-is_at g c =
    let self = c.args.self.now in
    let id_of = g.T.Source.Keyed.id_of in
    let came = g.T.ByRow.came self.table.now in
    let source = g.T.ByRow.source_of self.table.now in
    let rows = self.numbers.now.rows in
    let table = self.rows.now in
    let key = c.args.key.now in
    let place = c.args.place in
    let row = c.in_ok-row.row.now in
    let number = number_in id_of source rows in
    let found : row_at nat_lt key (rows_by_key nat_lt came (with_numbers 0 rows)) ≡ if_there nat_lt number_order number key (λ k. k == key) (slice_get table place) =
    row_found id_of came source rows table self.own_ids self.sources self.came key place c.requires in
    let got : c.get.result ≡ Some c.in_ok-row.row = search rules in
    let at : Some row ≡ slice_get table place = ap option_copied (sym got) ∙ got_at table place c.get.result c.get.ensures.lookup.3 in
    let is : passes (λ k. k == key) (number row) ≡ false = sym c.is_at.ensures ∙ c.if-is_at.false in
    (λ j. if sym is j then Some row else None) ∙ ap (if_there nat_lt number_order number key (λ k. k == key)) at ∙ sym found
