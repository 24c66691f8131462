use Rattle.std.proofs.Common.{◌+◌, ◌-◌, ap, sym, ◌∙◌, arith, length, take, slice_get}
use Rattle.api_types.specs.TableItems.{after_all}
use Rattle.api_types.proofs.ItemLemmas.{last_apart, stood_at, was_put}
use Rattle.api_types.proofs.fits.find_row.Goals as goal

pub returns-in-None : goal.returns-in-None
returns-in-None g c =
    let part = g.R.RowKind.part_of in
    let id_of = g.R.Keyed.id_of in
    let items = c.args.items.now in
    let item = c.index-items-items.result in
    let a = last_apart c.args.kind part id_of c.args.table.now items c.loop-i.i item c.loop-i-test.true c.index-items-items.is c.loop-i.invariant.fit in
    let rows = after_all c.args.kind part c.args.table.now (take (length items - (c.loop-i.i + 1)) items) in
    c.part.ensures ∙ sym (was_put c.args.kind part id_of rows item c.loop-i.at a.fits c.in-None.ensures.before)
    ∙ ap (λ rs. slice_get rs c.loop-i.at) a.leads ∙ c.loop-i.invariant.stands

pub loop-i-preserved : goal.loop-i-preserved
loop-i-preserved g c =
    let part = g.R.RowKind.part_of in
    let id_of = g.R.Keyed.id_of in
    let items = c.args.items.now in
    let item = c.index-items-items.result in
    let a = last_apart c.args.kind part id_of c.args.table.now items c.loop-i.i item c.loop-i-test.true c.index-items-items.is c.loop-i.invariant.fit in
    let rows = after_all c.args.kind part c.args.table.now (take (length items - (c.loop-i.i + 1)) items) in
    record {
      fit = a.rest;
      stands = sym (stood_at c.args.kind part id_of rows item c.loop-i.at c.in-Some.before a.fits c.in-Some.ensures.before)
          ∙ ap (λ rs. slice_get rs c.loop-i.at) a.leads ∙ c.loop-i.invariant.stands;
      near = omega (arith, c.in-Some.ensures.near, c.loop-i.invariant.near);
    }
