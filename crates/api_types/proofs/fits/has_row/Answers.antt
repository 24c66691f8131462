use Rattle.std.proofs.Common.{◌+◌, ◌-◌, ap, sym, ◌∙◌, length, take}
use Rattle.std.specs.Prelude.{is_some}
use Rattle.api_types.specs.Table.{row_of}
use Rattle.api_types.specs.TableItems.{after_all}
use Rattle.api_types.proofs.ItemLemmas.{last_apart, own_all, said_there, said_nothing}
use Rattle.api_types.proofs.fits.has_row.Goals as goal

pub returns-in-Some : goal.returns-in-Some
returns-in-Some g c =
    let part = g.R.RowKind.part_of in
    let id_of = g.R.Keyed.id_of in
    let items = c.args.items.now in
    let item = c.index-items-items.result in
    let a = last_apart c.args.kind part id_of c.args.table.now items c.loop-i.i item c.loop-i-test.true c.index-items-items.is c.loop-i.invariant.fit in
    let fewer = take (length items - (c.loop-i.i + 1)) items in
    let rows = after_all c.args.kind part c.args.table.now fewer in
    let own = own_all c.args.kind part id_of c.args.table.now fewer c.rows-own_ids.ensures.own_ids a.rest in
    sym (said_there c.args.kind part id_of c.args.id rows item c.in-Some.there own a.fits c.in-Some.ensures)
    ∙ ap (λ rs. is_some (row_of id_of c.args.id rs)) a.leads ∙ c.loop-i.invariant.there

pub loop-i-preserved : goal.loop-i-preserved
loop-i-preserved g c =
    let part = g.R.RowKind.part_of in
    let id_of = g.R.Keyed.id_of in
    let items = c.args.items.now in
    let item = c.index-items-items.result in
    let a = last_apart c.args.kind part id_of c.args.table.now items c.loop-i.i item c.loop-i-test.true c.index-items-items.is c.loop-i.invariant.fit in
    let fewer = take (length items - (c.loop-i.i + 1)) items in
    let rows = after_all c.args.kind part c.args.table.now fewer in
    let own = own_all c.args.kind part id_of c.args.table.now fewer c.rows-own_ids.ensures.own_ids a.rest in
    record {
      fit = a.rest;
      there = sym (said_nothing c.args.kind part id_of c.args.id rows item own a.fits c.in_default.ensures)
          ∙ ap (λ rs. is_some (row_of id_of c.args.id rs)) a.leads ∙ c.loop-i.invariant.there;
    }
