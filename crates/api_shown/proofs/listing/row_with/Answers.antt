use Rattle.std.proofs.Common.{◌≡◌, ◌∙◌, ◌+◌, ◌-◌, true, false, arith, ap, drop, length, refl, slice_get, sym, take}
use Rattle.std.specs.Prelude.{is_some, option_and_then}
use Rattle.std.proofs.lemmas.List.{drop_all}
use Rattle.api_types.specs.Table.{row_of}
use Rattle.api_shown.proofs.NarrowLemmas.{alone_found, none_found}
use Rattle.api_shown.proofs.listing.row_with.Goals as goal

pub returns-in-Some : goal.returns-in-Some
returns-in-Some g c =
    let table = c.args.table.now in
    let id_of = g.R.Keyed.id_of in
    let place = c.in-Some.place in
    let one : place + 1 - place ≡ 1 = omega arith in
    let at : slice_get table place ≡ row_of id_of c.args.id table = ap (option_and_then (slice_get table)) (sym c.in-Some.is) ∙ c.place.ensures.row in
    let there : is_some (row_of id_of c.args.id table) ≡ true = sym (ap is_some (sym c.in-Some.is) ∙ c.place.ensures.found) in
    (λ j. take (one j) (drop place (c.rows-rows.ensures.rows j)))
    ∙ alone_found id_of c.args.id table place (row_of id_of c.args.id table) c.rows-rows.ensures.own_ids at refl there

pub returns-in-None : goal.returns-in-None
returns-in-None g c =
    let table = c.args.table.now in
    let id_of = g.R.Keyed.id_of in
    let none : is_some (row_of id_of c.args.id table) ≡ false = sym (ap is_some (sym c.in-None.is) ∙ c.place.ensures.found) in
    let rows = c.rows-rows.result.now in
    let zero : length rows - length rows ≡ 0 = omega arith in
    (λ j. take (zero j) (drop_all (length rows) rows (omega arith) j)) ∙ sym (none_found id_of c.args.id table none)
