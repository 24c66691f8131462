use Rattle.std.proofs.Common.{◌≡◌, ◌∙◌, ◌+◌, None, Some, ap, arith, slice_get, sym}
use Rattle.std.specs.Prelude.{nat_eq, nat_lt, option_copied}
use Rattle.std.specs.HashMap.{get}
use Rattle.plane_types.specs.Keyed.{row_at}
use Rattle.plane_types.specs.Numbered.{with_numbers}
use Rattle.table_edits.specs.NumbersSeen.{at_after, at_before}
use Rattle.table_edits.proofs.NumberSteps.{place_row}
use Rattle.table_edits.proofs.numbers.Numbers.row_after.Goals as goal

pub returns-in-Some : goal.returns-in-Some
returns-in-Some g c =
    let number = c.args.number in
    let at : get nat_eq c.self.inside.told.last number ≡ Some c.in-Some.place.now = sym c.get.ensures.value ∙ ap option_copied c.in-Some.is in
    c.row_by.ensures ∙ c.self.invariant.puts number c.in-Some.place.now at ∙ ap (λ m. at_after m number) c.self.view_is

pub returns-in-None : goal.returns-in-None
returns-in-None g c =
    let number = c.args.number in
    let rows = c.args.self.now.rows in
    let gone : get nat_eq c.self.inside.told.last number ≡ None = sym c.get.ensures.value ∙ ap option_copied c.in-None.is in
    let start : 0 + number ≡ number = omega arith in
    let before : slice_get rows number ≡ at_before c.args.self.now number = sym (place_row 0 rows number) ∙ ap (λ k. row_at nat_lt k (with_numbers 0 rows)) start in
    c.row.ensures ∙ before ∙ ap (λ m. at_before m number) (sym c.self.view_is) ∙ c.self.invariant.stays number gone ∙ ap (λ m. at_after m number) c.self.view_is
