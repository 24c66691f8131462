use Rattle.std.proofs.Common.{rules, ◌≡◌, ◌∙◌, Some, ap, slice_get, sym}
use Rattle.std.specs.Prelude.{option_copied}
use Rattle.api_types.specs.Table.{place_of}
use Rattle.api_types.specs.declared.group.GroupRow.{GroupRow}
use Rattle.table_edits.proofs.NumberPlaces.{own_place}
use Rattle.l2_delta.proofs.sets.SetTable.number.Goals as goal

pub returns-then-eq : goal.returns-then-eq
returns-then-eq c =
    let table = c.args.self.now in
    let rows = table.groups.now.rows in
    let r = c.in-Some.row.now in
    let at : slice_get rows c.args.near ≡ Some r = sym c.row.ensures ∙ ap option_copied c.in-Some.is in
    let same : r.id ≡ c.args.group = search rules in
    sym (own_place (λ (g : GroupRow). g.id) rows c.args.near r table.own_ids at)
    ∙ ap (λ i. place_of (λ (g : GroupRow). g.id) i rows) same
